-- A seat after several turns.
use Rattle.std.proofs.Common.{inl, inr, ◌≡◌, ℕ, zero, suc, ◌+◌, ◌-◌, ◌<◌, ◌≤◌, true, false, refl, sym, ap, ◌∙◌, arith}
use Rattle.std.specs.Prelude.{nat_le, not, ◌||◌}
use Rattle.std.proofs.lemmas.Bool.{cases_lt, lt-leb, le-leb}
use Rattle.std.proofs.Math.Bool.{or-true}
use Rattle.ps_model.specs.declared.channel.Progress.TheVariants.{Running}
use Rattle.ps_model.specs.declared.sizes.Sizes.{Sizes}
use Rattle.ps_machine.specs.Machines.{Workings, turned}
use Rattle.ps_machine.specs.Progressing.{is_running}
use Rattle.ps_machine.specs.Channels.{makes_turn, after_turn, ended}
use Rattle.ps_machine.specs.Seats.{Seat_state, machine_in, meeting, after_turns, Finishes}

module _ (workings : Sizes → Workings) where
  -- the seat whose channel made so many turns, with the same code
  abbrev pub turned_seat : ℕ → Seat_state → Seat_state
  turned_seat k s = record {
    sizes = s.sizes;
    image = s.image;
    budget = s.budget;
    channel = record { code = s.channel.code; cells = turned ((workings s.sizes).turn s.channel.code) k s.channel.cells; turns = s.channel.turns + k };
  }

  pub after_turns_are : (k : ℕ) (s : Seat_state) → after_turns workings k s ≡ turned_seat k s
  after_turns_are zero s =
      let e : s.channel.turns ≡ s.channel.turns + zero = omega arith in
      ap (λ n. record { sizes = s.sizes; image = s.image; budget = s.budget; channel = record { code = s.channel.code; cells = s.channel.cells; turns = n } }) e
  after_turns_are (suc k) s =
      let e : (s.channel.turns + 1) + k ≡ s.channel.turns + suc k = omega arith in
      after_turns_are k (meeting workings makes_turn s)
      ∙ ap (λ n. record { sizes = s.sizes; image = s.image; budget = s.budget; channel = record { code = s.channel.code; cells = turned ((workings s.sizes).turn s.channel.code) (suc k) s.channel.cells; turns = n } }) e

  -- a seat whose machine turned while it was Running, at most up to the budget, has finished its scan
  pub finishes : (old : Seat_state) (k : ℕ) → old.channel.turns ≤ old.budget → k ≤ old.budget - old.channel.turns →
      ((j : ℕ) → j < k → (workings old.sizes).progress (turned ((workings old.sizes).turn old.channel.code) j old.channel.cells) ≡ Running) →
      (k < old.budget - old.channel.turns → is_running ((workings old.sizes).progress (turned ((workings old.sizes).turn old.channel.code) k old.channel.cells)) ≡ false) →
      Finishes workings old (turned_seat k old)
  finishes old k within most running stopped = record {
    turns = k;
    is_after = sym (after_turns_are k old);
    each = λ j low.
        ap (λ s. ended (machine_in workings old) s.channel) (after_turns_are j old)
        ∙ ap (λ p. not (is_running p) || nat_le old.budget (old.channel.turns + j)) (running j low)
        ∙ lt-leb old.budget (old.channel.turns + j) (omega arith);
    over = elim (cases_lt k (old.budget - old.channel.turns)) [
      | inl low ↦ ap (λ b. not b || nat_le old.budget (old.channel.turns + k)) (stopped low)
      | inr high ↦
          let p = is_running ((workings old.sizes).progress (turned ((workings old.sizes).turn old.channel.code) k old.channel.cells)) in
          ap (λ b. not p || b) (le-leb old.budget (old.channel.turns + k) (omega arith)) ∙ or-true (not p)
    ];
  }

  -- a seat after so many turns, by the turns of its channel
  after_turns_by_channel : (k : ℕ) (s : Seat_state) → after_turns workings k s
      ≡ record { sizes = s.sizes; image = s.image; budget = s.budget; channel = turned (after_turn (machine_in workings s)) k s.channel }
  after_turns_by_channel zero s = refl
  after_turns_by_channel (suc k) s = after_turns_by_channel k (meeting workings makes_turn s)

  -- a seat that finished its scan has a channel with so many more turns, and all else as it was
  pub finished_seat : (old new : Seat_state) (f : Finishes workings old new) →
      new ≡ record { sizes = old.sizes; image = old.image; budget = old.budget; channel = turned (after_turn (machine_in workings old)) f.turns old.channel }
  finished_seat old new f = f.is_after ∙ after_turns_by_channel f.turns old

  pub each_turn_goes : (old new : Seat_state) (f : Finishes workings old new) (j : ℕ) → j < f.turns →
      ended (machine_in workings old) (turned (after_turn (machine_in workings old)) j old.channel) ≡ false
  each_turn_goes old new f j low = ap (λ (s : Seat_state). ended (machine_in workings old) s.channel) (sym (after_turns_by_channel j old)) ∙ f.each j low

  pub last_turn_ends : (old new : Seat_state) (f : Finishes workings old new) → ended (machine_in workings old) (turned (after_turn (machine_in workings old)) f.turns old.channel) ≡ true
  last_turn_ends old new f = ap (λ (s : Seat_state). ended (machine_in workings old) s.channel) (sym (finished_seat old new f)) ∙ f.over
