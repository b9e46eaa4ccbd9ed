use Rattle.std.proofs.Common.{◌≡◌, ◌∙◌, List, sym, ap, arith}
use Rattle.std.specs.Prelude.{count_by}
use Rattle.ps_reach.specs.Reaching.{is_free}
use Rattle.ps_reach.specs.declared.asked.InputRule.{InputRule}
use Rattle.ps_bench_rules.specs.declared.flaw.Flaw.TheVariants.{R5}
use Rattle.ps_bench_rules.specs.declared.flaw.RulesRefusal.{RulesRefusal}
use Rattle.ps_bench_never.proofs.answering.asked_if_few.Goals as goal

pub returns-then-free_inputs-clause-many : goal.returns-then-free_inputs-clause-many
returns-then-free_inputs-clause-many c = λ refusal e.
    let here : RulesRefusal = record { flaw = R5; line = c.args.file.now.end } in
    let same : here ≡ refusal = cc in
    record {
      every = c.args.every;
      asked = c.in_ok-asked.asked;
      asks = c.in_ok-asked.ensures;
      many = omega (arith, c.if-free_inputs.true, c.free_inputs.ensures, ap (λ (rules : List InputRule). count_by is_free rules) c.as_slice.ensures.value);
      is = sym same;
    }
