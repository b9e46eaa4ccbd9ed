use Rattle.std.proofs.Common.{◌≡◌, ◌∙◌, ◌-◌, ℕ, List, Result, take, drop, fold, ap, sym, arith}
use Rattle.std.proofs.lemmas.Grind.{common_steps}
use Rattle.ps_trace.specs.Words.{words}
use Rattle.ps_bench_names.specs.Words.{counted}
use Rattle.ps_bench_rules.specs.Parts.{and_then, so_far}
use Rattle.ps_bench_rules.specs.Words.{condition_said}
use Rattle.ps_bench_rules.specs.declared.flaw.Flaw.{Flaw}
use Rattle.ps_bench_rules.specs.declared.rules.Condition.{Condition}
use Rattle.ps_bench_rules.proofs.words.conditions_said.Goals as goal

pub words-preserved : goal.words-preserved
words-preserved c =
    let line = c.args.line.now in
    let step : Result (List Condition) Flaw → List ℕ → Result (List Condition) Flaw = λ found word. and_then found (condition_said c.args.app.now word) in
    let rest = counted (words (drop c.in-Some.upto line)) in
    let word = take (c.in-Some.upto - c.in-Some.from) (drop c.in-Some.from line) in
    let before = so_far c.words.flaw c.words.conditions in
    let behind = so_far c.in_ok-flaw.flaw c.and_condition.new.conditions in
    let said : c.in_ok-condition.condition ≡ condition_said c.args.app.now word = c.in_ok-condition.ensures in
    let found : behind ≡ and_then before (condition_said c.args.app.now word) = c.in_ok-flaw.ensures ∙ ap (and_then before) said in
    record {
      within = grind (arith, common_steps);
      found = ap (λ f. fold step f rest) found ∙ ap (fold step before) (sym c.in-Some.ensures.first) ∙ c.words.invariant.found;
    }
