use Rattle.std.proofs.Common.{◌≡◌, ◌-◌, ◌/◌, ◌<◌, ℕ, List, get_or, length, drop, subst, sym, arith}
use Rattle.std.specs.List.{All}
use Rattle.std.proofs.lemmas.List.Elements.{All-get_or}
use Rattle.ps_bench_trials.specs.declared.step.Step.{Step}
use Rattle.ps_model.specs.Network.{Network, instance_count}
use Rattle.ps_world.specs.Whole.{Whole, machines_in}
use Rattle.ps_bench_campaign.specs.Marks.{GoQuietly, IsMark}
use Rattle.ps_bench_trials.specs.declared.mark.Mark.{Mark}
use Rattle.ps_bench_campaign.proofs.Trying.{one_setup}
use Rattle.ps_bench_campaign.proofs.marks.is_over.Goals as goal

-- a mark that stands among marks is one
mark_of : (net : Network) (all : List Step) (later marks : List Mark) (k : ℕ) (mark : Mark) → later ≡ marks → All (IsMark net all) marks →
    k < length later → mark ≡ get_or later k mark → IsMark net all mark
mark_of net all later marks k mark same are within is =
    subst (IsMark net all) (sym is)
    (All-get_or (IsMark net all) later k mark within (subst (λ (ms : List Mark). All (IsMark net all) ms) (sym same) are))

pub is_at-requires : goal.is_at-requires
is_at-requires c =
    let net = c.args._app.now in
    let number : ℕ = c.args.place / c.args.marks.now.every in
    let within : number - 1 < length c.as_slice-later.result.now = omega (arith, c.if-number-later.false, c.if-number-eq0.false) in
    let mark = mark_of net c.args._steps.now c.as_slice-later.result.now c.args.marks.now.later.items (number - 1) c.index-later-number.result
    c.as_slice-later.ensures.value c.requires.marks.later within c.index-later-number.is in
    one_setup net c.args.world.now.setup c.index-later-number.result.world.setup c.requires.setup mark.moment.setup

pub returns-clause-quiet : goal.returns-clause-quiet
returns-clause-quiet c = λ yes.
    let net = c.args._app.now in
    let all = c.args._steps.now in
    let number : ℕ = c.args.place / c.args.marks.now.every in
    let within : number - 1 < length c.as_slice-later.result.now = omega (arith, c.if-number-later.false, c.if-number-eq0.false) in
    let found = c.index-later-number.result in
    let mark = mark_of net all c.as_slice-later.result.now c.args.marks.now.later.items (number - 1) found
    c.as_slice-later.ensures.value c.requires.marks.later within c.index-later-number.is in
    subst (λ (w : Whole). GoQuietly (machines_in w.setup) (length net.outputs) (instance_count net) (drop c.args.place all) w.state)
    (sym (c.is_at.ensures.world yes))
    (subst (λ (n : ℕ). GoQuietly (machines_in found.world.setup) (length net.outputs) (instance_count net) (drop n all) found.world.state)
    (c.is_at.ensures.place yes) mark.moment.quiet)
