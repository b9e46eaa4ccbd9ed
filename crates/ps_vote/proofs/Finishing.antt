-- Three seats that finish, one after the other, lead to the world of turns one by one.
use Rattle.std.proofs.Common.{◌≡◌, ◌∙◌, ℕ, Bool, List, [], Option, None, sym, ap, subst, arith}
use Rattle.ps_machine.specs.Machines.{machine_of, turned}
use Rattle.ps_machine.specs.Channels.{after_turn}
use Rattle.ps_machine.specs.Seats.{Seat_state, Finishes}
use Rattle.ps_machine.proofs.Turning.{finished_seat, each_turn_goes, last_turn_ends}
use Rattle.ps_machine.proofs.Left.{HasLeft, left_within}
use Rattle.ps_stackvm.specs.Channel.{workings_a}
use Rattle.ps_eqvm.specs.Channel.{workings_b}
use Rattle.ps_decision.specs.Channel.{workings_c}
use Rattle.ps_vote.specs.declared.seat.DirtySeats.{DirtySeats}
use Rattle.ps_vote.specs.declared.seat.Seat.{Seat}
use Rattle.ps_vote.specs.Whole.{Whole, machines_in, after_events}
use Rattle.ps_vote.specs.Orders.{turns, most_turns}
use Rattle.ps_vote.proofs.Quick.{turns_finish}

-- the second world is the one after the turns of a scan that nothing strikes, and these end at no fault
pub record FinishesAll (heals : Bool) (w after : Whole) : Type 0 where
  pub events : after ≡ after_events (turns heals (machines_in w.setup) [] (most_turns (machines_in w.setup)) 0 None w.state).events w
  pub goes : (turns heals (machines_in w.setup) [] (most_turns (machines_in w.setup)) 0 None w.state).refused ≡ None

module _ (limits : List ℕ) (dirty : DirtySeats) (last : ℕ) (begun : Bool) (outvoted : Option Seat) where
  -- the world of these seats
  abbrev pub seen : (a b c : Seat_state) → Whole
  seen a b c = record {
    setup = record {
      sizes = a.sizes;
      limits = limits;
      image_a = a.image;
      image_b = b.image;
      image_c = c.image;
      budget_a = a.budget;
      budget_b = b.budget;
      budget_c = c.budget;
    };
    state = record { a = a.channel; b = b.channel; c = c.channel; dirty = dirty; last = last; begun = begun; outvoted = outvoted };
  }

  pub finishes_all : (heals : Bool) (a b c new_a new_b new_c : Seat_state) → b.sizes ≡ a.sizes → c.sizes ≡ a.sizes → a.channel.turns ≡ 0 → b.channel.turns ≡ 0 → c.channel.turns ≡ 0 →
      Finishes workings_a a new_a → Finishes workings_b b new_b → Finishes workings_c c new_c → FinishesAll heals (seen a b c) (seen new_a new_b new_c)
  finishes_all heals a b c new_a new_b new_c same_b same_c none_a none_b none_c fa fb fc =
      let w = seen a b c in
      let m = machines_in w.setup in
      let left_a : HasLeft m.a a.channel fa.turns = record { each = each_turn_goes workings_a a new_a fa; over = last_turn_ends workings_a a new_a fa } in
      let left_b : HasLeft m.b b.channel fb.turns =
      subst (λ z. HasLeft (machine_of (workings_b z) b.image b.budget) b.channel fb.turns) same_b
      (record { each = each_turn_goes workings_b b new_b fb; over = last_turn_ends workings_b b new_b fb }) in
      let left_c : HasLeft m.c c.channel fc.turns =
      subst (λ z. HasLeft (machine_of (workings_c z) c.image c.budget) c.channel fc.turns) same_c
      (record { each = each_turn_goes workings_c c new_c fc; over = last_turn_ends workings_c c new_c fc }) in
      let few_a = left_within m.a a.channel fa.turns (omega arith) left_a in
      let few_b = left_within m.b b.channel fb.turns (omega arith) left_b in
      let few_c = left_within m.c c.channel fc.turns (omega arith) left_c in
      let done_a = finished_seat workings_a a new_a fa in
      let done_b = finished_seat workings_b b new_b fb
      ∙ ap (λ z. record { sizes = b.sizes; image = b.image; budget = b.budget; channel = turned (after_turn (machine_of (workings_b z) b.image b.budget)) fb.turns b.channel }) same_b in
      let done_c = finished_seat workings_c c new_c fc
      ∙ ap (λ z. record { sizes = c.sizes; image = c.image; budget = c.budget; channel = turned (after_turn (machine_of (workings_c z) c.image c.budget)) fc.turns c.channel }) same_c in
      let h = turns_finish heals m (most_turns m) 0 None w.state fa.turns fb.turns fc.turns left_a left_b left_c (omega arith) in
      record {
        events = (λ i. seen (done_a i) (done_b i) (done_c i)) ∙ ap (λ x. record { setup = w.setup; state = x }) (sym h.leads);
        goes = h.goes;
      }
