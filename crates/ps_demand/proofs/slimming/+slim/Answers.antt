use Rattle.std.proofs.Common.{◌≡◌, ℕ, ◌<◌, ◌+◌, true, false, List, ◌∷◌, ◌++◌, refl, map, append-nil, drop, length, length-append, ap, sym, ◌∙◌, subst, IfOk, arith}
use Rattle.std.specs.Prelude.{flat_map}
use Rattle.std.proofs.lemmas.Bool.{cond-true, cond-false}
use Rattle.std.proofs.lemmas.List.{drop_all}
use Rattle.ps_model.specs.declared.expr.Expr.{Expr}
use Rattle.ps_model.specs.Exprs.{formula, operands}
use Rattle.ps_model.specs.Formula.{Formula, Formulas, all_of, any_of, operand}
use Rattle.ps_model.specs.Network.{Network, signal_count}
use Rattle.ps_model.specs.Nodes.{nodes, nodes_below}
use Rattle.ps_model.specs.Typing.{safe}
use Rattle.ps_model.specs.Values.{IsBelow, AreBelow}
use Rattle.ps_model.proofs.Formulas.{formula-Signal, formula-And, formula-Or}
use Rattle.ps_demand.specs.declared.join.Join.TheVariants.{And, Or}
use Rattle.ps_demand.specs.Passes.{slim_over, safe_slims, all_slims, kept_for}
use Rattle.ps_demand.specs.Requirement.{Requirement}
use Rattle.ps_demand.specs.Slim.{parts_within, slim_of_parts}
use Rattle.ps_demand.specs.Views.{requirement}
use Rattle.ps_demand.proofs.Kept.{kept_at}
use Rattle.ps_demand.proofs.Operands.{operands_at}
use Rattle.ps_demand.proofs.Parts.{within_more}
use Rattle.ps_demand.proofs.slimming.+slim.Goals as goal
use Rattle.ps_demand.proofs.slimming.+slim.Goals.{slim_conjunction-then-is_safe_value+in_ok-part+in_ok-add_part, slim_conjunction-else-is_safe_value}

-- an operand that is not safe adds no part
safe_slims-less : (net : Network) (kept : ℕ → Requirement) (left es : Formulas) (e : Formula) → left ≡ operand e es → safe net e ≡ false →
    safe_slims net kept left ≡ safe_slims net kept es
safe_slims-less net kept left es e next plain =
    ap (safe_slims net kept) next ∙ cond-false (safe net e) (slim_over net kept e ∷ safe_slims net kept es) (safe_slims net kept es) plain

-- and a safe one adds its own
safe_slims-more : (net : Network) (kept : ℕ → Requirement) (left es : Formulas) (e : Formula) → left ≡ operand e es → safe net e ≡ true →
    safe_slims net kept left ≡ slim_over net kept e ∷ safe_slims net kept es
safe_slims-more net kept left es e next is =
    ap (safe_slims net kept) next ∙ cond-true (safe net e) (slim_over net kept e ∷ safe_slims net kept es) (safe_slims net kept es) is

pub slim_value-returns-in-Signal : goal.slim_value-returns-in-Signal
slim_value-returns-in-Signal t c =
    let n = signal_count c.args.app.now in
    let below : c.in-Signal.s < n = subst (IsBelow n) (ap formula c.in-Signal.is ∙ formula-Signal c.in-Signal.s) c.requires.below in
    let inside : c.in-Signal.s < length c.args.rows.now = omega (arith, below, c.requires.long) in
    let same = kept_at c.args.rows.now c.in-Signal.s c.index-rows-s.result inside c.index-rows-s.is in
    subst (λ (z : Requirement). IfOk c.copy.result (λ d. requirement d ≡ z))
    (same ∙ ap (slim_over c.args.app.now (kept_for c.args.rows.now)) (sym (ap formula c.in-Signal.is ∙ formula-Signal c.in-Signal.s))) c.copy.ensures

pub slim_value-slim_conjunction-requires : goal.slim_value-slim_conjunction-requires
slim_value-slim_conjunction-requires t c =
    let n = signal_count c.args.app.now in
    let whole : formula c.args.e.now ≡ all_of (operands (map formula c.deref.result.now)) = rw (c.in-And.is, formula-And, c.deref.ensures.value) refl in
    let below : AreBelow n (operands (map formula c.deref.result.now)) = subst (IsBelow n) whole c.requires.below in
    (omega (arith, c.decreases, ap (λ f. length (nodes f)) whole), (below, c.requires.long))

pub slim_value-slim_disjunction-requires : goal.slim_value-slim_disjunction-requires
slim_value-slim_disjunction-requires t c =
    let n = signal_count c.args.app.now in
    let whole : formula c.args.e.now ≡ any_of (operands (map formula c.deref-in-Or.result.now)) = rw (c.in-Or.is, formula-Or, c.deref-in-Or.ensures.value) refl in
    let below : AreBelow n (operands (map formula c.deref-in-Or.result.now)) = subst (IsBelow n) whole c.requires.below in
    (omega (arith, c.decreases, ap (λ f. length (nodes f)) whole), (below, c.requires.long))

pub slim_conjunction-slim_value-requires : goal.slim_conjunction-slim_value-requires
slim_conjunction-slim_value-requires t c =
    let n = signal_count c.args.app.now in
    let next = operands_at c.args.all.now c.loop-x.x-index c.x-item.result c.loop-x-test.true c.x-item.is in
    let both = subst (AreBelow n) next c.loop-x.invariant.below in
    let count = ap (λ es. length (nodes_below es)) next ∙ length-append (nodes (formula c.x-item.result)) (nodes_below (operands (map formula (drop (c.loop-x.x-index + 1) c.args.all.now)))) in
    (omega (arith, c.decreases, count, c.loop-x.invariant.few), (both.0, c.requires.long))

pub slim_disjunction-slim_value-requires : goal.slim_disjunction-slim_value-requires
slim_disjunction-slim_value-requires t c =
    let n = signal_count c.args.app.now in
    let next = operands_at c.args.all.now c.loop-x.x-index c.x-item.result c.loop-x-test.true c.x-item.is in
    let both = subst (AreBelow n) next c.loop-x.invariant.below in
    let count = ap (λ es. length (nodes_below es)) next ∙ length-append (nodes (formula c.x-item.result)) (nodes_below (operands (map formula (drop (c.loop-x.x-index + 1) c.args.all.now)))) in
    (omega (arith, c.decreases, count, c.loop-x.invariant.few), (both.0, c.requires.long))

pub slim_conjunction-loop-x-preserved : goal.slim_conjunction-loop-x-preserved
slim_conjunction-loop-x-preserved t c =
    let net = c.args.app.now in
    let kept = kept_for c.args.rows.now in
    let i = c.loop-x.x-index in
    let e = formula c.x-item.result in
    let left = operands (map formula (drop i c.args.all.now)) in
    let rest = operands (map formula (drop (i + 1) c.args.all.now)) in
    let next : left ≡ operand e rest = operands_at c.args.all.now i c.x-item.result c.loop-x-test.true c.x-item.is in
    let count = ap (λ es. length (nodes_below es)) next ∙ length-append (nodes e) (nodes_below rest) in
    let so_far = map requirement c.loop-x.parts.items in
    let all = flat_map (parts_within And) (safe_slims net kept (operands (map formula c.args.all.now))) in
    let whole : map requirement c.if-is_safe_value.parts.items ++ flat_map (parts_within And) (safe_slims net kept rest) ≡ all =
    elim c.if-is_safe_value.branch [
      | slim_conjunction-then-is_safe_value+in_ok-part+in_ok-add_part w ↦
          within_more And so_far (map requirement c.if-is_safe_value.parts.items) (safe_slims net kept rest) (safe_slims net kept left) all
          (requirement w.in_ok-part.part) (slim_over net kept e) (ap (λ p. map requirement p.items) w.parts-is ∙ w.in_ok-add_part.ensures) w.in_ok-part.ensures
          (safe_slims-more net kept left rest e next (sym c.is_safe_value.ensures ∙ w.if-is_safe_value.true)) c.loop-x.invariant.whole
      | slim_conjunction-else-is_safe_value w ↦
          ap (λ p. map requirement p.items ++ flat_map (parts_within And) (safe_slims net kept rest)) w.parts-is
          ∙ ap (λ ds. so_far ++ flat_map (parts_within And) ds) (sym (safe_slims-less net kept left rest e next (sym c.is_safe_value.ensures ∙ w.if-is_safe_value.false)))
          ∙ c.loop-x.invariant.whole
    ] in
    record { whole = whole; few = omega (arith, count, c.loop-x.invariant.few); below = (subst (AreBelow (signal_count net)) next c.loop-x.invariant.below).1 }

pub slim_disjunction-loop-x-preserved : goal.slim_disjunction-loop-x-preserved
slim_disjunction-loop-x-preserved t c =
    let net = c.args.app.now in
    let kept = kept_for c.args.rows.now in
    let i = c.loop-x.x-index in
    let e = formula c.x-item.result in
    let left = operands (map formula (drop i c.args.all.now)) in
    let rest = operands (map formula (drop (i + 1) c.args.all.now)) in
    let next : left ≡ operand e rest = operands_at c.args.all.now i c.x-item.result c.loop-x-test.true c.x-item.is in
    let count = ap (λ es. length (nodes_below es)) next ∙ length-append (nodes e) (nodes_below rest) in
    record {
      whole = within_more Or (map requirement c.loop-x.parts.items) (map requirement c.add_part.new.parts.items) (all_slims net kept rest) (all_slims net kept left)
          (flat_map (parts_within Or) (all_slims net kept (operands (map formula c.args.all.now)))) (requirement c.in_ok-part.part) (slim_over net kept e)
          c.in_ok-add_part.ensures c.in_ok-part.ensures (ap (all_slims net kept) next) c.loop-x.invariant.whole;
      few = omega (arith, count, c.loop-x.invariant.few);
      below = (subst (AreBelow (signal_count net)) next c.loop-x.invariant.below).1;
    }

pub slim_conjunction-returns : goal.slim_conjunction-returns
slim_conjunction-returns t c =
    let parts = map requirement c.loop-x.parts.items in
    let slims : List Expr → List Requirement = λ es. flat_map (parts_within And) (safe_slims c.args.app.now (kept_for c.args.rows.now) (operands (map formula es))) in
    subst (λ (z : List Requirement). IfOk c.slim_of_parts.result (λ d. requirement d ≡ slim_of_parts And z))
    (sym (append-nil parts) ∙ ap (λ es. parts ++ slims es) (sym (drop_all c.loop-x.x-index c.args.all.now c.loop-x-test.false)) ∙ c.loop-x.invariant.whole)
    c.slim_of_parts.ensures

pub slim_disjunction-returns : goal.slim_disjunction-returns
slim_disjunction-returns t c =
    let parts = map requirement c.loop-x.parts.items in
    let slims : List Expr → List Requirement = λ es. flat_map (parts_within Or) (all_slims c.args.app.now (kept_for c.args.rows.now) (operands (map formula es))) in
    subst (λ (z : List Requirement). IfOk c.slim_of_parts.result (λ d. requirement d ≡ slim_of_parts Or z))
    (sym (append-nil parts) ∙ ap (λ es. parts ++ slims es) (sym (drop_all c.loop-x.x-index c.args.all.now c.loop-x-test.false)) ∙ c.loop-x.invariant.whole)
    c.slim_of_parts.ensures
