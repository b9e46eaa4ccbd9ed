use Rattle.std.proofs.Common.{◌≡◌, ◌∙◌, ◌++◌, [], ℕ, List, Contains, false, true, refl, ap, subst, sym, inl, inr, arith, drop, map, append-nil}
use Rattle.std.specs.Prelude.{slice_index_or, if◌then◌else◌}
use Rattle.std.proofs.lemmas.Bool.{cond-true, cond-false}
use Rattle.std.proofs.lemmas.Grind.{common_steps}
use Rattle.std.proofs.lemmas.List.Elements.{Contains-append_right}
use mathlib.Core.Bool.{beq}
use Rattle.ps_model.specs.declared.expr.Expr.{Expr}
use Rattle.ps_model.specs.Exprs.{formula, operands}
use Rattle.ps_model.specs.Formula.{value}
use Rattle.ps_model.proofs.Formulas.{formula-And, formula-Or}
use Rattle.ps_why.specs.Reasons.{deciding, deciding_with}
use Rattle.ps_why.specs.Telling.{IsTold}
use Rattle.ps_why.proofs.Operated.{decided, operand_next, whole_is}
use Rattle.ps_why.proofs.operands.+tell_signals.Goals as goal
use Rattle.ps_why.proofs.operands.+tell_signals.Goals.{then-evaluate-whole+in_ok-tell_signals-in-And, else-evaluate-whole}

pub loop-x-init : goal.loop-x-init
loop-x-init t c = record {
  of = elim c.in-And.is [
    | inl is ↦ inl (rw (is, formula-And, c.deref-x-items.ensures.value) refl)
    | inr is ↦ inr (rw (is, formula-Or, c.deref-x-items.ensures.value) refl)
  ];
  told = refl;
}

pub loop-x-preserved : goal.loop-x-preserved
loop-x-preserved t c =
    let v = λ (s : ℕ). slice_index_or c.args.signals.now s false in
    let items = c.deref-x-items.result.now in
    let whole = c.evaluate-whole.result in
    let n = c.loop-x.x-index in
    let x = c.x-item.result in
    let told = c.loop-x.told.items in
    let told' = c.if-evaluate-whole.told.items in
    let all = c.args.told.now.items ++ deciding_with v whole (operands (map formula items)) in
    let next = operand_next v whole told told' all items n x c.loop-x-test.true c.x-item.is c.loop-x.invariant.told in
    elim c.if-evaluate-whole.branch [
      | then-evaluate-whole+in_ok-tell_signals-in-And w ↦
          let on : beq (value v (formula x)) whole ≡ true = ap (λ b. beq b whole) (sym c.evaluate.ensures) ∙ w.if-evaluate-whole.true in
          record {
            of = c.loop-x.invariant.of;
            told = next (subst (λ u. u.items ≡ told ++ (if beq (value v (formula x)) whole then deciding v (formula x) else [])) (sym w.told-is)
                (w.in_ok-tell_signals-in-And.ensures.adds ∙ ap (λ l. told ++ l) (sym (cond-true (beq (value v (formula x)) whole) (deciding v (formula x)) [] on))));
          }
      | else-evaluate-whole w ↦
          let off : beq (value v (formula x)) whole ≡ false = ap (λ b. beq b whole) (sym c.evaluate.ensures) ∙ w.if-evaluate-whole.false in
          record {
            of = c.loop-x.invariant.of;
            told = next (subst (λ u. u.items ≡ told ++ (if beq (value v (formula x)) whole then deciding v (formula x) else [])) (sym w.told-is)
                (sym (append-nil told) ∙ ap (λ l. told ++ l) (sym (cond-false (beq (value v (formula x)) whole) (deciding v (formula x)) [] off))));
          }
    ]

pub returns-after-loop-x-clause-adds : goal.returns-after-loop-x-clause-adds
returns-after-loop-x-clause-adds t c =
    let v = λ (s : ℕ). slice_index_or c.args.signals.now s false in
    let items = c.deref-x-items.result.now in
    let told = c.loop-x.told.items in
    let e = formula c.args.e.now in
    let end : drop c.loop-x.x-index items ≡ [] = grind (arith, common_steps) in
    sym (append-nil told)
    ∙ sym (ap (λ (l : List Expr). told ++ deciding_with v c.evaluate-whole.result (operands (map formula l))) end)
    ∙ c.loop-x.invariant.told
    ∙ ap (λ b. c.args.told.now.items ++ deciding_with v b (operands (map formula items))) c.evaluate-whole.ensures
    ∙ ap (λ l. c.args.told.now.items ++ l) (whole_is v items e c.loop-x.invariant.of)

pub returns-after-loop-x-clause-has : goal.returns-after-loop-x-clause-has
returns-after-loop-x-clause-has t c =
    let signals = c.args.signals.now in
    let v = λ (s : ℕ). slice_index_or signals s false in
    let told = c.loop-x.told.items in
    let e = formula c.args.e.now in
    decided v (IsTold signals told) e
    (λ s h. (subst (λ l. Contains l s) (sym (returns-after-loop-x-clause-adds t c)) (Contains-append_right c.args.told.now.items (deciding v e) s h), refl))
