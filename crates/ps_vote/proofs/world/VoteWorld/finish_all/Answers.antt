use Rattle.std.proofs.Common.{◌≡◌, ◌∙◌, ◌+◌, ◌*◌, ◌≤◌, ◌^◌, Bool, sym, ap, subst}
use Rattle.ps_model.specs.declared.sizes.Sizes.{Sizes}
use Rattle.ps_machine.specs.Seats.{Seat_state}
use Rattle.ps_machine.proofs.Turning.{finished_seat}
use Rattle.ps_stackvm.specs.Channel.{workings_a}
use Rattle.ps_eqvm.specs.Channel.{workings_b}
use Rattle.ps_decision.specs.Channel.{workings_c}
use Rattle.ps_vote.specs.Votes.{HasRoom}
use Rattle.ps_vote.specs.Whole.{Whole}
use Rattle.ps_vote.proofs.Finishing.{FinishesAll, seen, finishes_all}
use Rattle.ps_vote.proofs.world.VoteWorld.finish_all.Goals as goal

pub invariant_of-self : goal.invariant_of-self
invariant_of-self c =
    let a = finished_seat workings_a c.self.inside.a c.finish.new.self c.finish.ensures in
    let b = finished_seat workings_b c.self.inside.b c.finish-2.new.self c.finish-2.ensures in
    let d = finished_seat workings_c c.self.inside.c c.finish-3.new.self c.finish-3.ensures in
    let sizes_a : c.finish.new.self.sizes ≡ c.self.inside.a.sizes = ap (λ (s : Seat_state). s.sizes) a in
    let sizes_b : c.finish-2.new.self.sizes ≡ c.self.inside.b.sizes = ap (λ (s : Seat_state). s.sizes) b in
    let sizes_c : c.finish-3.new.self.sizes ≡ c.self.inside.c.sizes = ap (λ (s : Seat_state). s.sizes) d in (
      sizes_b ∙ c.self.invariant.0 ∙ sym sizes_a,
      sizes_c ∙ c.self.invariant.1 ∙ sym sizes_a,
      subst (λ (z : Sizes). z.outputs + 3 * z.instances ≤ 2 ^ 16) (sym sizes_a) c.self.invariant.2,
      subst (λ (z : Sizes). HasRoom z.outputs z.instances c.self.inside.room.second c.self.inside.room.third) (sym sizes_a) c.self.invariant.3,
      c.self.invariant.4 ∙ ap (λ (z : Sizes). z.instances) (sym sizes_a),
      c.self.invariant.5 ∙ ap (λ (z : Sizes). z.signals + 16 * z.instances) (sym sizes_a),
    )

pub returns : goal.returns
returns c =
    let turns_a : c.self.inside.a.channel.turns ≡ 0 = ap (λ (v : Whole). v.state.a.turns) c.self.view_is ∙ c.requires.none_a in
    let turns_b : c.self.inside.b.channel.turns ≡ 0 = ap (λ (v : Whole). v.state.b.turns) c.self.view_is ∙ c.requires.none_b in
    let turns_c : c.self.inside.c.channel.turns ≡ 0 = ap (λ (v : Whole). v.state.c.turns) c.self.view_is ∙ c.requires.none_c in
    let see = seen c.self.inside.limits.items c.self.inside.dirty c.self.inside.last c.self.inside.begun c.self.inside.outvoted in
    let there : (heals : Bool) → FinishesAll heals c.args.self.now (see c.finish.new.self c.finish-2.new.self c.finish-3.new.self) = λ heals.
    subst (λ v. FinishesAll heals v (see c.finish.new.self c.finish-2.new.self c.finish-3.new.self)) c.self.view_is
    (finishes_all c.self.inside.limits.items c.self.inside.dirty c.self.inside.last c.self.inside.begun c.self.inside.outvoted heals
    c.self.inside.a c.self.inside.b c.self.inside.c c.finish.new.self c.finish-2.new.self c.finish-3.new.self c.self.invariant.0 c.self.invariant.1 turns_a turns_b turns_c
    c.finish.ensures c.finish-2.ensures c.finish-3.ensures) in
    record { events = λ heals. (there heals).events; goes = λ heals. (there heals).goes }
