use Rattle.std.proofs.Common.{◌≡◌, ◌++◌, ◌∷◌, ◌+◌, List, map, drop, ◌∙◌, [], append-nil, append_assoc, ap, subst, sym, refl, inl, inr}
use Rattle.std.proofs.lemmas.List.{drop_all}
use Rattle.ps_model.specs.Exprs.{formula, operands}
use Rattle.ps_model.proofs.Formulas.{formula-And, formula-Or, formula-Signal}
use Rattle.ps_model.proofs.Rest.{rest_at}
use Rattle.ps_cover.specs.Covering.{point_of}
use Rattle.ps_cover.specs.Listing.{decision_points, points_below, root_points}
use Rattle.ps_cover.specs.Points.{Point}
use Rattle.ps_cover.proofs.listing.+push_decisions.Goals as goal

pub loop-x-init : goal.loop-x-init
loop-x-init t c = record {
  whole = elim c.in-And.is [
    | inl is ↦ rw (is, formula-And, c.deref-x-items.ensures.value) refl
    | inr is ↦ rw (is, formula-Or, c.deref-x-items.ensures.value) refl
  ];
  written = rw c.in_ok-push_root.ensures
      (append_assoc (map point_of c.args.points.now.items) (root_points c.args.step (formula c.args.e.now)) (points_below c.args.step (operands (map formula c.deref-x-items.result.now))));
}

pub loop-x-preserved : goal.loop-x-preserved
loop-x-preserved t c =
    let items = c.deref-x-items.result.now in
    let k = c.args.step in
    let next : drop c.loop-x.x-index items ≡ c.x-item.result ∷ drop (c.loop-x.x-index + 1) items =
    rest_at items c.loop-x.x-index c.x-item.result c.loop-x-test.true c.x-item.is in
    let all : List Point = map point_of c.args.points.now.items ++ (root_points k (formula c.args.e.now) ++ points_below k (operands (map formula items))) in
    let below : map point_of c.loop-x.points.items ++ points_below k (operands (map formula (c.x-item.result ∷ drop (c.loop-x.x-index + 1) items))) ≡ all =
    subst (λ z. map point_of c.loop-x.points.items ++ points_below k (operands (map formula z)) ≡ all) next c.loop-x.invariant.written in
    record {
      whole = c.loop-x.invariant.whole;
      written = rw c.in_ok-push_decisions.ensures (append_assoc (map point_of c.loop-x.points.items) (decision_points k (formula c.x-item.result)) (points_below k (operands (map formula (drop (c.loop-x.x-index + 1) items)))) ∙ below);
    }

pub returns-in_default : goal.returns-in_default
returns-in_default t c =
    let k = c.args.step in
    let one = formula-Signal c.in_default.field-0 in
    c.in_ok-push_root.ensures ∙ ap (λ ps. map point_of c.args.points.now.items ++ ps)
    (ap (λ e. root_points k (formula e)) c.in_default.is ∙ ap (root_points k) one
    ∙ sym (ap (λ e. decision_points k (formula e)) c.in_default.is ∙ ap (decision_points k) one))

pub returns-after-loop-x : goal.returns-after-loop-x
returns-after-loop-x t c =
    let items = c.deref-x-items.result.now in
    let k = c.args.step in
    let listed = map point_of c.loop-x.points.items in
    let none : drop c.loop-x.x-index items ≡ [] = drop_all c.loop-x.x-index items c.loop-x-test.false in
    sym (append-nil listed) ∙ ap (λ xs. listed ++ points_below k (operands (map formula xs))) (sym none) ∙ c.loop-x.invariant.written
    ∙ ap (λ ps. map point_of c.args.points.now.items ++ ps) (sym c.loop-x.invariant.whole)
