use Rattle.std.proofs.Common.{◌≡◌, ℕ, List, ◌+◌, ◌++◌, take, drop, length-set, map, length, Some, sym, ap, ◌∙◌, subst, arith, true}
use Rattle.std.specs.Prelude.{slice_get, slice_index_or}
use Rattle.std.specs.List.{range_with_len}
use Rattle.std.proofs.lemmas.List.FromFn.{length-map-range_with_len, get_or-map-range_with_len}
use Rattle.ps_model.specs.declared.kind.Kind.{Kind}
use Rattle.ps_model.specs.Action.{assigns, calls}
use Rattle.ps_model.specs.Blocks.{block}
use Rattle.ps_model.specs.Exprs.{formula}
use Rattle.ps_model.specs.Network.{kind_at, first_pin}
use Rattle.ps_model.specs.Steps.{action}
use Rattle.ps_model.specs.Typing.{is_safe_signal}
use Rattle.ps_demand.specs.Requirement.{Requirement, leaf_count}
use Rattle.ps_demand.specs.Demand.{demand_over, demand_read}
use Rattle.ps_demand.specs.Passes.{saturated, count_in, weight, output_weight, AreCounts}
use Rattle.ps_demand.proofs.CallFacts.{may_stand, value_below, args_below, pin_below}
use Rattle.ps_demand.proofs.Counted.{weight_is, output_weight_is}
use Rattle.ps_demand.proofs.Tables.{assigned_right, skipped_right, called_right, values_fit, length-over}
use Rattle.ps_demand.proofs.counting.count_step.Goals as goal

abbrev Counts : ℕ → Requirement → ℕ → Type 0
Counts s q n = n ≡ saturated (leaf_count q)

pub count_value-requires-clause-below : goal.count_value-requires-clause-below
count_value-requires-clause-below c =
    value_below c.args.app.now c.sound.ensures c.args.k c.in-Assign.target (formula c.in-Assign.value) (c.step.ensures ∙ ap (λ s. Some (action s)) c.in-Assign.is)

pub count_outputs-requires-clause-below : goal.count_outputs-requires-clause-below
count_outputs-requires-clause-below c =
    args_below c.args.app.now c.sound.ensures c.args.k c.in-Call.instance c.in-Call.args (c.step.ensures ∙ ap (λ s. Some (action s)) c.in-Call.is)

pub write_over-requires : goal.write_over-requires
write_over-requires c =
    let net = c.args.app.now in
    let at = c.step.ensures ∙ ap (λ s. Some (action s)) c.in-Call.is in
    let count : length c.in_ok-outputs-in-Call.outputs.items ≡ length (block (kind_at net c.in-Call.instance)).outputs =
    ap length c.in_ok-outputs-in-Call.ensures ∙ length-map-range_with_len _ 0 _ ∙ ap (λ kind. length (block kind).outputs) c.instance_kind-kind.ensures in
    let fit = values_fit Counts 0 net c.sound.ensures c.args.k c.in-Call.instance c.in-Call.args at c.args.counts.now.items c.in_ok-outputs-in-Call.outputs.items c.requires.counted.long count in
    omega (arith, c.first_pin.ensures, fit)

pub returns-then-is_safe : goal.returns-then-is_safe
returns-then-is_safe c =
    let net = c.args.app.now in
    let counts = c.args.counts.now.items in
    let t = c.in-Assign.target in
    let e = formula c.in-Assign.value in
    let at : slice_get net.steps c.args.k ≡ Some (assigns t e) = c.step.ensures ∙ ap (λ s. Some (action s)) c.in-Assign.is in
    let is : is_safe_signal net t ≡ true = sym c.is_safe.ensures ∙ c.if-is_safe.true in
    let new : c.count_value.result ≡ saturated (leaf_count (demand_over net (demand_read net c.args.k) e)) =
    c.count_value.ensures ∙ ap (λ cs. saturated (weight net (count_in cs) e)) c.as_slice.ensures.value
    ∙ weight_is net c.args.k (count_in counts) (demand_read net c.args.k) c.requires.counted.each e
    (value_below net c.sound.ensures c.args.k t e at) (c.requires.accepted.assigned c.args.k t e at is) in
    record {
      long = omega (arith, length-set counts t c.count_value.result, c.requires.counted.long);
      each = assigned_right Counts 0 net c.args.k t e c.count_value.result counts at
          (let range = c.sound.ensures.targets c.args.k t e at in omega (arith, c.requires.counted.long)) c.requires.counted.each new;
    }

pub returns-else-is_safe : goal.returns-else-is_safe
returns-else-is_safe c =
    let net = c.args.app.now in
    let t = c.in-Assign.target in
    let e = formula c.in-Assign.value in
    record {
      long = c.requires.counted.long;
      each = skipped_right Counts 0 net c.args.k t e c.args.counts.now.items (c.step.ensures ∙ ap (λ s. Some (action s)) c.in-Assign.is)
          (sym c.is_safe.ensures ∙ c.if-is_safe.false) c.requires.counted.each;
    }

pub returns-in_ok-outputs-in-Call : goal.returns-in_ok-outputs-in-Call
returns-in_ok-outputs-in-Call c =
    let net = c.args.app.now in
    let k = c.args.k in
    let i = c.in-Call.instance in
    let args = c.in-Call.args in
    let counts = c.args.counts.now.items in
    let values = c.in_ok-outputs-in-Call.outputs.items in
    let at : slice_get net.steps k ≡ Some (calls i args) = c.step.ensures ∙ ap (λ s. Some (action s)) c.in-Call.is in
    let f = λ (kind : Kind) (cs : List ℕ) (j : ℕ). saturated (output_weight net (count_in cs) kind args j) in
    let n = length (block (kind_at net i)).outputs in
    let are : values ≡ map (f (kind_at net i) counts) (range_with_len 0 n) =
    c.in_ok-outputs-in-Call.ensures
    ∙ ap (λ cs. map (f c.instance_kind-kind.result cs) (range_with_len 0 (length (block c.instance_kind-kind.result).outputs))) c.as_slice-in-Call.ensures.value
    ∙ ap (λ kind. map (f kind counts) (range_with_len 0 (length (block kind).outputs))) c.instance_kind-kind.ensures in
    let count : length values ≡ n = ap length are ∙ length-map-range_with_len (f (kind_at net i) counts) 0 n in
    let each = called_right Counts 0 net c.sound.ensures k i args at counts values c.requires.counted.long count c.requires.counted.each
    (λ j small.
    ap (λ vs. slice_index_or vs j 0) are ∙ get_or-map-range_with_len (f (kind_at net i) counts) 0 n j j 0 small (omega arith)
    ∙ output_weight_is net k (count_in counts) (demand_read net k) c.requires.counted.each (kind_at net i) args
    (pin_below net args (args_below net c.sound.ensures k i args at)) (may_stand net c.requires.accepted k i args at) j) in
    let fit = values_fit Counts 0 net c.sound.ensures k i args at counts values c.requires.counted.long count in
    let written = c.write_over.ensures ∙ ap (λ first. take first counts ++ (values ++ drop (first + length values) counts)) c.first_pin.ensures in
    subst (AreCounts net (k + 1)) (sym written) (record {
      long = length-over (first_pin net i) values counts 0 fit ∙ c.requires.counted.long;
      each = each;
    })
