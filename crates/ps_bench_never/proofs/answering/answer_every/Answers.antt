use Rattle.std.proofs.Common.{◌∙◌, List, length, sym, ap}
use Rattle.ps_bench_rules.specs.declared.rules.Rule.{Rule}
use Rattle.ps_bench_never.specs.Asked.{IsRuleOf}
use Rattle.ps_bench_never.specs.Telling.{told_text}
use Rattle.ps_bench_never.proofs.Alike.{as_many, says_of_each}
use Rattle.ps_bench_never.proofs.Meant.{answers_of, means, with_said}
use Rattle.ps_bench_never.proofs.answering.answer_every.Goals as goal

pub never-requires-clause-says : goal.never-requires-clause-says
never-requires-clause-says g c = says_of_each c.args.app.now c.args.file.now c.args.every c.in_ok-asked.asked c.in_ok-asked.ensures.asks

pub told-requires-clause-says : goal.told-requires-clause-says
told-requires-clause-says g c = says_of_each c.args.app.now c.args.file.now c.args.every c.in_ok-asked.asked c.in_ok-asked.ensures.asks

pub told-requires-clause-each : goal.told-requires-clause-each
told-requires-clause-each g c =
    c.in_ok-found.ensures.answers.each
    ∙ as_many (IsRuleOf c.args.app.now) c.args.file.now.rules c.in_ok-asked.asked.rules.items c.in_ok-asked.ensures.asks.rules
    ∙ ap (λ (rules : List Rule). length rules) (sym c.as_slice.ensures)

pub returns-clause-tells : goal.returns-clause-tells
returns-clause-tells g c = record {
  every = c.args.every;
  meant = with_said c.args.file.now c.in_ok-asked.asked;
  asked = c.in_ok-asked.asked;
  found = c.in_ok-found.found;
  pace = c.requires.pace;
  means = means c.args.app.now c.sound.ensures c.args.file.now c.args.every c.in_ok-asked.asked c.in_ok-asked.ensures.asks;
  asks = c.in_ok-asked.ensures.asks;
  answers = answers_of c.args.app.now c.sound.ensures c.args.file.now c.args.every c.in_ok-asked.asked c.in_ok-asked.ensures.asks c.in_ok-found.found c.in_ok-found.ensures.answers;
  counts = c.in_ok-found.ensures.counts;
  text = c.in_ok-text.ensures
      ∙ ap (λ (rules : List Rule). told_text c.args.app.now c.args.name.now c.in_ok-asked.asked c.args.most c.in_ok-found.found rules c.in_ok-found.found.paths.items) c.as_slice.ensures;
  holds = c.do_all_hold.ensures;
}
