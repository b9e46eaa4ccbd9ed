use Rattle.std.proofs.Common.{◌≡◌, ℕ, Option, List, ◌+◌, ◌≤◌, ◌<◌, ◌++◌, take, drop, map, length, length-set, Some, sym, ap, ◌∙◌, subst, arith, true}
use Rattle.std.specs.Prelude.{slice_get, slice_index_or}
use Rattle.std.proofs.lemmas.List.{length-map, map-set, map-append, take-map, drop-map}
use Rattle.ps_model.specs.declared.kind.Kind.{Kind}
use Rattle.std.specs.List.{list_any}
use Rattle.std.proofs.lemmas.Bool.{true≢false}
use Rattle.ps_model.specs.Action.{free, assigns, calls}
use Rattle.ps_model.specs.Blocks.{block}
use Rattle.ps_model.specs.Exprs.{formula}
use Rattle.ps_model.specs.Network.{Network, kind_at, first_pin, signal_count}
use Rattle.ps_model.specs.Steps.{action}
use Rattle.ps_model.specs.Typing.{is_safe_signal}
use Rattle.ps_model.specs.Values.{reads, values_at_pin}
use Rattle.ps_demand.specs.declared.demand.Demand.{Demand}
use Rattle.ps_demand.specs.declared.demand.TheConstants.{MOST_LEAVES}
use Rattle.ps_demand.specs.Requirement.{Requirement, never, leaf_count}
use Rattle.ps_demand.specs.Demand.{demand_over, demand_read}
use Rattle.ps_demand.specs.Slim.{slim}
use Rattle.ps_demand.specs.Passes.{count_in, kept_for, slim_over, AreOutputs, AreSlim}
use Rattle.ps_demand.specs.Views.{requirement}
use Rattle.ps_demand.specs.Wanted.{is_wanted}
use Rattle.ps_demand.proofs.CallFacts.{may_stand, value_below, args_below, pin_below, pin_reads}
use Rattle.ps_demand.proofs.Counted.{weight_is, output_weight_is}
use Rattle.ps_demand.proofs.Lasting.{earlier_wanted}
use Rattle.ps_demand.proofs.Slimmed.{slim_is, output_slim_is}
use Rattle.ps_demand.proofs.Tables.{AreRight, assigned_right, skipped_right, unwritten_right, called_right, values_fit, length-over}
use Rattle.ps_demand.proofs.slimming.slim_step.Goals.{else-is_safe-via-then-is_safe+else-is_wanted_behind, else-is_safe-via-then-is_safe+then-is_wanted_behind+else-count_value-le-MOST_LEAVES, else-is_safe-via-else-is_safe}
use Rattle.ps_demand.proofs.slimming.slim_step.Goals as goal

-- where a demand is wanted by step n or later, and is not Large, the requirement that is kept is that demand made slim
abbrev KeptSlim : List (Option ℕ) → ℕ → ℕ → Requirement → Requirement → Type 0
KeptSlim last n s q d = is_wanted last n s ≡ true → leaf_count q ≤ MOST_LEAVES → d ≡ slim q

-- what is kept for this step is right for the next one
for_next : (net : Network) (k : ℕ) (last : List (Option ℕ)) (rows : List Demand) → AreSlim net k last rows →
    AreRight (KeptSlim last (k + 1)) never net k (map requirement rows)
for_next net k last rows are s below is wanted few = are.each s below is (earlier_wanted last k s wanted) few

pub count_value-requires-clause-below : goal.count_value-requires-clause-below
count_value-requires-clause-below c =
    value_below c.args.app.now c.sound.ensures c.args.k c.in-Assign.target (formula c.in-Assign.value) (c.step.ensures ∙ ap (λ s. Some (action s)) c.in-Assign.is)

pub slim_value-requires-clause-below : goal.slim_value-requires-clause-below
slim_value-requires-clause-below c =
    value_below c.args.app.now c.sound.ensures c.args.k c.in-Assign.target (formula c.in-Assign.value) (c.step.ensures ∙ ap (λ s. Some (action s)) c.in-Assign.is)

pub slim_outputs-requires-clause-below : goal.slim_outputs-requires-clause-below
slim_outputs-requires-clause-below c =
    args_below c.args.app.now c.sound.ensures c.args.k c.in-Call.instance c.in-Call.args (c.step.ensures ∙ ap (λ s. Some (action s)) c.in-Call.is)

pub write_over-requires : goal.write_over-requires
write_over-requires c =
    let net = c.args.app.now in
    let rows = c.args.rows.now.items in
    let values = c.in_ok-outputs-in-Call.outputs.items in
    let at : slice_get net.steps c.args.k ≡ Some (calls c.in-Call.instance c.in-Call.args) = c.step.ensures ∙ ap (λ s. Some (action s)) c.in-Call.is in
    let count : length (map requirement values) ≡ length (block (kind_at net c.in-Call.instance)).outputs =
    length-map values requirement ∙ c.in_ok-outputs-in-Call.ensures.long ∙ ap (λ kind. length (block kind).outputs) c.instance_kind-kind.ensures in
    let fit = values_fit (KeptSlim c.args.last.now (c.args.k + 1)) never net c.sound.ensures c.args.k c.in-Call.instance c.in-Call.args at (map requirement rows) (map requirement values)
    (length-map rows requirement ∙ c.requires.slim.long) count in
    omega (arith, c.first_pin.ensures, fit, length-map rows requirement, length-map values requirement)

pub returns-in_ok-demand-in-Assign : goal.returns-in_ok-demand-in-Assign
returns-in_ok-demand-in-Assign c =
    let net = c.args.app.now in
    let k = c.args.k in
    let rows = c.args.rows.now.items in
    let t = c.in-Assign.target in
    let e = formula c.in-Assign.value in
    let d = c.in_ok-demand-in-Assign.demand in
    let at : slice_get net.steps k ≡ Some (assigns t e) = c.step.ensures ∙ ap (λ s. Some (action s)) c.in-Assign.is in
    let is : is_safe_signal net t ≡ true = sym c.is_safe.ensures ∙ c.if-is_safe.true in
    let below = value_below net c.sound.ensures k t e at in
    let inside : t < length (map requirement rows) =
    (let range = c.sound.ensures.targets k t e at in omega (arith, c.requires.slim.long, length-map rows requirement)) in
    let last = c.args.last.now in
    let new : KeptSlim last (k + 1) t (demand_over net (demand_read net k) e) (requirement d) =
    λ wanted few. c.in_ok-demand-in-Assign.ensures ∙ ap (λ rs. slim_over net (kept_for rs) e) c.as_slice.ensures.value
    ∙ slim_is net k (kept_for rows) (demand_read net k) (λ s. is_wanted last k s ≡ true) c.requires.slim.each e below
    (λ s inside read. c.requires.wanted.assigned t s e at is wanted inside read) (c.requires.accepted.assigned k t e at is) few in
    record {
      long = length-set rows t d ∙ c.requires.slim.long;
      each = subst (AreRight (KeptSlim last (k + 1)) never net (k + 1)) (sym (map-set requirement rows t d))
          (assigned_right (KeptSlim last (k + 1)) never net k t e (requirement d) (map requirement rows) at inside
          (for_next net k last rows c.requires.slim) new);
    }

pub returns-else-is_safe : goal.returns-else-is_safe
returns-else-is_safe c =
    let net = c.args.app.now in
    let k = c.args.k in
    let rows = c.args.rows.now.items in
    let t = c.in-Assign.target in
    let e = formula c.in-Assign.value in
    let at : slice_get net.steps k ≡ Some (assigns t e) = c.step.ensures ∙ ap (λ s. Some (action s)) c.in-Assign.is in
    let inside : t < length (map requirement rows) =
    (let range = c.sound.ensures.targets k t e at in omega (arith, c.requires.slim.long, length-map rows requirement)) in
    let last = c.args.last.now in
    let right = for_next net k last rows c.requires.slim in
    let kept = slice_index_or (map requirement rows) t never in
    elim c.else-is_safe.branch [
      | else-is_safe-via-then-is_safe+else-is_wanted_behind w ↦
          let off : KeptSlim last (k + 1) t (demand_over net (demand_read net k) e) kept =
          λ wanted few. absurd (true≢false (sym wanted ∙ (sym w.is_wanted_behind.ensures ∙ w.if-is_wanted_behind.false))) in
          record {
            long = c.requires.slim.long;
            each = unwritten_right (KeptSlim last (k + 1)) never net k t e (map requirement rows) at inside right off;
          }
      | else-is_safe-via-then-is_safe+then-is_wanted_behind+else-count_value-le-MOST_LEAVES w ↦
          let is : is_safe_signal net t ≡ true = sym c.is_safe.ensures ∙ w.if-is_safe.true in
          let large : KeptSlim last (k + 1) t (demand_over net (demand_read net k) e) kept =
          λ wanted few. absurd (omega (
            arith,
            few,
            w.if-count_value-le-MOST_LEAVES.false,
            w.count_value.ensures,
            weight_is net k (count_in c.args.counts.now) (demand_read net k) c.requires.counted.each e (value_below net c.sound.ensures k t e at)
                (c.requires.accepted.assigned k t e at is),
          )) in
          record {
            long = c.requires.slim.long;
            each = unwritten_right (KeptSlim last (k + 1)) never net k t e (map requirement rows) at inside right large;
          }
      | else-is_safe-via-else-is_safe w ↦ record {
        long = c.requires.slim.long;
        each = skipped_right (KeptSlim last (k + 1)) never net k t e (map requirement rows) at (sym c.is_safe.ensures ∙ w.if-is_safe.false) right;
      }
    ]

pub returns-in_ok-outputs-in-Call : goal.returns-in_ok-outputs-in-Call
returns-in_ok-outputs-in-Call c =
    let net = c.args.app.now in
    let k = c.args.k in
    let i = c.in-Call.instance in
    let args = c.in-Call.args in
    let counts = c.args.counts.now in
    let rows = c.args.rows.now.items in
    let values = c.in_ok-outputs-in-Call.outputs.items in
    let first = first_pin net i in
    let kind = kind_at net i in
    let at : slice_get net.steps k ≡ Some (calls i args) = c.step.ensures ∙ ap (λ s. Some (action s)) c.in-Call.is in
    let are : AreOutputs net k counts rows kind args (length (block kind).outputs) values =
    subst (λ (x : Kind). AreOutputs net k counts rows x args (length (block x).outputs) values) c.instance_kind-kind.ensures
    (subst (λ (rs : List Demand). AreOutputs net k counts rs c.instance_kind-kind.result args (length (block c.instance_kind-kind.result).outputs) values)
    c.as_slice-in-Call.ensures.value c.in_ok-outputs-in-Call.ensures) in
    let long : length (map requirement rows) ≡ signal_count net = length-map rows requirement ∙ c.requires.slim.long in
    let count : length (map requirement values) ≡ length (block kind).outputs = length-map values requirement ∙ are.long in
    let below = pin_below net args (args_below net c.sound.ensures k i args at) in
    let may = may_stand net c.requires.accepted k i args at in
    let last = c.args.last.now in
    let read = λ (p s : ℕ) (inside : s < signal_count net) (h : list_any (reads s) (values_at_pin (slice_index_or args p free)) ≡ true).
    c.requires.wanted.called i s args at inside (pin_reads args p s h) in
    let each = called_right (KeptSlim last (k + 1)) never net c.sound.ensures k i args at (map requirement rows) (map requirement values) long count
    (for_next net k last rows c.requires.slim)
    (λ j inside wanted few.
    let weighs = output_weight_is net k (count_in counts) (demand_read net k) c.requires.counted.each kind args below may j in
    are.each j inside (omega arith)
    ∙ output_slim_is net k (kept_for rows) (demand_read net k) (λ s. is_wanted last k s ≡ true) c.requires.slim.each kind args below read may j few) in
    let fit = values_fit (KeptSlim last (k + 1)) never net c.sound.ensures k i args at (map requirement rows) (map requirement values) long count in
    let written : c.write_over.new.rows.items ≡ take first rows ++ (values ++ drop (first + length values) rows) =
    c.write_over.ensures ∙ ap (λ n. take n rows ++ (values ++ drop (n + length values) rows)) c.first_pin.ensures in
    let mapped : take first (map requirement rows) ++ (map requirement values ++ drop (first + length (map requirement values)) (map requirement rows))
    ≡ map requirement c.write_over.new.rows.items =
    sym (ap (map requirement) written
    ∙ map-append requirement (take first rows) (values ++ drop (first + length values) rows)
    ∙ ap (λ xs. map requirement (take first rows) ++ xs) (map-append requirement values (drop (first + length values) rows))
    ∙ ap (λ xs. xs ++ (map requirement values ++ map requirement (drop (first + length values) rows))) (sym (take-map requirement first rows))
    ∙ ap (λ xs. take first (map requirement rows) ++ (map requirement values ++ xs)) (sym (drop-map requirement (first + length values) rows))
    ∙ ap (λ n. take first (map requirement rows) ++ (map requirement values ++ drop (first + n) (map requirement rows))) (sym (length-map values requirement))) in
    record {
      long = sym (length-map c.write_over.new.rows.items requirement) ∙ ap length (sym mapped)
          ∙ length-over first (map requirement values) (map requirement rows) never fit ∙ long;
      each = subst (AreRight (KeptSlim last (k + 1)) never net (k + 1)) mapped each;
    }
