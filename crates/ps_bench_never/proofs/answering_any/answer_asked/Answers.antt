use Rattle.std.proofs.Common.{◌≤◌, List, subst}
use Rattle.std.specs.Prelude.{count_by}
use Rattle.std.proofs.lemmas.Result.{IfOk-weaker}
use Rattle.ps_reach.specs.Reaching.{is_free}
use Rattle.ps_reach.specs.declared.asked.InputRule.{InputRule}
use Rattle.ps_bench_never.specs.AnsweringAny.{IsToldBehind, IsToldOfAny}
use Rattle.ps_bench_never.proofs.Alike.{says_of_each}
use Rattle.ps_bench_never.proofs.Meant.{any_answers_of, means, with_said}
use Rattle.ps_bench_never.proofs.answering_any.answer_asked.Goals as goal

pub never_at_any_times-requires : goal.never_at_any_times-requires
never_at_any_times-requires g c = record {
  some = c.requires.some;
  says = says_of_each c.args.app.now c.args.file.now 0 c.args.asked.now c.requires.asks;
  timeless = c.requires.asks.pace;
}

pub told_behind-requires : goal.told_behind-requires
told_behind-requires g c = record {
  some = c.requires.some;
  stands = c.requires.stands;
  few = subst (λ (rules : List InputRule). count_by is_free rules ≤ 20) c.requires.asks.inputs c.requires.few;
}

pub returns : goal.returns
returns g c =
    let net = c.args.app.now in
    let name = c.args.name.now in
    let file = c.args.file.now in
    let whole = c.in_ok-whole.whole in
    IfOk-weaker c.told_behind.result (IsToldBehind net name c.args.most file whole) (IsToldOfAny net name c.args.most file)
    (λ told is. record {
      meant = with_said file c.args.asked.now;
      asked = c.args.asked.now;
      whole = whole;
      attempts = is.attempts;
      pace = c.requires.pace;
      means = means net c.sound.ensures file 0 c.args.asked.now c.requires.asks;
      asks = c.requires.asks;
      answers = any_answers_of net c.sound.ensures file 0 c.args.asked.now c.requires.asks whole c.in_ok-whole.ensures.answers;
      counts = c.in_ok-whole.ensures.counts;
      wide = c.in_ok-whole.ensures.many;
      tried = is.tried;
      text = is.text;
      holds = is.holds;
    })
    c.told_behind.ensures
