use Rattle.std.proofs.Common.{◌≡◌, ◌∙◌, ◌+◌, ◌*◌, ◌≤◌, ◌^◌, [], sym, ap, subst, None, arith}
use Rattle.ps_model.specs.declared.sizes.Sizes.{Sizes}
use Rattle.ps_machine.specs.Machines.{machine_of, turned}
use Rattle.ps_machine.specs.Channels.{after_turn}
use Rattle.ps_machine.specs.Seats.{Seat_state, machine_in}
use Rattle.ps_machine.proofs.Turning.{finished_seat, each_turn_goes, last_turn_ends}
use Rattle.ps_stackvm.specs.Channel.{workings_a}
use Rattle.ps_eqvm.specs.Channel.{workings_b}
use Rattle.ps_world.specs.Whole.{Whole, machines_in, after_events}
use Rattle.ps_world.specs.Orders.{turn_events}
use Rattle.ps_machine.proofs.Left.{HasLeft, left_within}
use Rattle.ps_world.proofs.Quick.{turns_finish}
use Rattle.ps_world.proofs.world.World.finish_both.Goals as goal

pub invariant_of-self : goal.invariant_of-self
invariant_of-self c =
    let a = finished_seat workings_a c.self.inside.a c.finish.new.self c.finish.ensures in
    let b = finished_seat workings_b c.self.inside.b c.finish-2.new.self c.finish-2.ensures in
    let sizes_a : c.finish.new.self.sizes ≡ c.self.inside.a.sizes = ap (λ (s : Seat_state). s.sizes) a in
    let sizes_b : c.finish-2.new.self.sizes ≡ c.self.inside.b.sizes = ap (λ (s : Seat_state). s.sizes) b in (
      sizes_b ∙ c.self.invariant.0 ∙ sym sizes_a,
      subst (λ (z : Sizes). z.outputs + 3 * z.instances ≤ 2 ^ 16) (sym sizes_a) c.self.invariant.1,
      c.self.invariant.2 ∙ ap (λ (z : Sizes). z.outputs) (sym sizes_a),
      c.self.invariant.3 ∙ ap (λ (z : Sizes). z.instances) (sym sizes_a),
    )

pub returns-clause-events : goal.returns-clause-events
returns-clause-events c =
    let wa = workings_a in
    let wb = workings_b in
    let a : Seat_state = c.self.inside.a in
    let b : Seat_state = c.self.inside.b in
    let ka = c.finish.ensures.turns in
    let kb = c.finish-2.ensures.turns in
    let seen : Seat_state → Seat_state → Whole = λ s t. record {
      setup = record { sizes = s.sizes; image_a = s.image; image_b = t.image; budget_a = s.budget; budget_b = t.budget };
      state = record { a = s.channel; b = t.channel; last = c.self.inside.last; begun = c.self.inside.begun; tripped = c.self.inside.tripped };
    } in
    let w = seen a b in
    let m = machines_in w.setup in
    let left_a : HasLeft m.a a.channel ka = record { each = each_turn_goes wa a c.finish.new.self c.finish.ensures; over = last_turn_ends wa a c.finish.new.self c.finish.ensures } in
    let own_b = machine_in wb b in
    let left_b : HasLeft m.b b.channel kb =
    subst (λ z. HasLeft (machine_of (wb z) b.image b.budget) b.channel kb) c.self.invariant.0
    (record { each = each_turn_goes wb b c.finish-2.new.self c.finish-2.ensures; over = last_turn_ends wb b c.finish-2.new.self c.finish-2.ensures }) in
    let turns_a : a.channel.turns ≡ 0 = ap (λ (v : Whole). v.state.a.turns) c.self.view_is ∙ c.requires.none_a in
    let turns_b : b.channel.turns ≡ 0 = ap (λ (v : Whole). v.state.b.turns) c.self.view_is ∙ c.requires.none_b in
    let few_a = left_within m.a a.channel ka (omega arith) left_a in
    let few_b = left_within m.b b.channel kb (omega arith) left_b in
    let done_a = finished_seat wa a c.finish.new.self c.finish.ensures in
    let done_b = finished_seat wb b c.finish-2.new.self c.finish-2.ensures
    ∙ ap (λ z. record { sizes = b.sizes; image = b.image; budget = b.budget; channel = turned (after_turn (machine_of (wb z) b.image b.budget)) kb b.channel }) c.self.invariant.0 in
    let there : seen c.finish.new.self c.finish-2.new.self ≡ after_events (turn_events m [] (m.a.budget + m.b.budget) 0 None w.state) w =
    (λ i. seen (done_a i) (done_b i)) ∙ ap (λ x. record { setup = w.setup; state = x }) (sym (turns_finish m (m.a.budget + m.b.budget) 0 None w.state ka kb left_a left_b (omega arith))) in
    subst (λ (v : Whole). seen c.finish.new.self c.finish-2.new.self ≡ after_events (turn_events (machines_in v.setup) [] (v.setup.budget_a + v.setup.budget_b) 0 None v.state) v) c.self.view_is there
