-- What is asked of both applications is asked of each.
use Rattle.std.proofs.Common.{◌≡◌, ◌∙◌, ℕ, length, ap, sym, subst}
use Rattle.std.proofs.lemmas.List.FromFn.{length-map-range_with_len}
use Rattle.ps_model.specs.Network.{Network, input_count}
use Rattle.ps_pairs.specs.Outputs.{AreRulesFrom, AsksOutputs}
use Rattle.ps_pairs.specs.Promised.{HaveAsMany}
use Rattle.ps_reach.specs.Promised.{SaysOfEach}
use Rattle.ps_reach.specs.declared.asked.Asked.{Asked}
use Rattle.ps_bench_rules.specs.declared.rules.RulesFile.{RulesFile}
use Rattle.ps_bench_never.specs.Asked.{rule_of_two, rules_of_two}

pub says_of_each : (net other : Network) (file : RulesFile) (q : Asked) → q.inputs.items ≡ rules_of_two net other file → SaysOfEach net q
says_of_each net other file q inputs = ap length inputs ∙ length-map-range_with_len (rule_of_two net other file) 0 (input_count net)

pub says_of_other : (net other : Network) (q : Asked) → HaveAsMany net other → SaysOfEach net q → SaysOfEach other q
says_of_other net other q many says = says ∙ sym many.inputs

pub asks_other : (net other : Network) (q : Asked) → HaveAsMany net other → AsksOutputs net q → AsksOutputs other q
asks_other net other q many asks = record {
  each = asks.each ∙ sym many.outputs;
  rules = subst (λ (n : ℕ). AreRulesFrom n q.rules.items) (sym many.inputs) asks.rules;
}
