use Rattle.std.proofs.Common.{List, sym, subst}
use Rattle.std.specs.List.{All}
use Rattle.std.proofs.lemmas.List.Elements.{All-push}
use Rattle.ps_bench_campaign.specs.Marks.{IsMark}
use Rattle.ps_bench_trials.specs.declared.mark.Mark.{Mark}
use Rattle.ps_bench_campaign.proofs.marks.add_mark.Goals as goal

pub returns : goal.returns
returns c =
    let net = c.args.app.now in
    let all = c.args.steps.now in
    let mark = c.in_ok-mark.mark in
    let is : IsMark net all mark = subst (IsMark net all) (sym c.in_ok-mark.ensures)
    (record { within = c.requires.within; few = c.requires.few; moment = c.requires.moment }) in
    subst (λ (marks : List Mark). All (IsMark net all) marks) (sym c.in_ok-push.ensures.items)
    (All-push (IsMark net all) c.args.later.now.items mark c.requires.later is)

pub mark_at-requires : goal.mark_at-requires
mark_at-requires c = record { accepted = c.requires.accepted; setup = c.requires.moment.setup }
