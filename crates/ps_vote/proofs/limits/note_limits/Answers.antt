use Rattle.std.proofs.Common.{◌≡◌, ℕ, zero, suc, ◌+◌, ◌-◌, List, [], ◌∷◌, ◌∙◌, drop, sym, ap, arith, Some}
use Rattle.std.specs.Prelude.{slice_get}
use Rattle.ps_model.specs.Steps.{action}
use Rattle.ps_machine.specs.Standing.{limit_from}
use Rattle.ps_decision.proofs.Counted.{are_calls}
use Rattle.ps_vote.proofs.limits.note_limits.Goals as goal

drop_from : {X : Type 0} (xs : List X) (k : ℕ) (x : X) → slice_get xs k ≡ Some x → drop k xs ≡ x ∷ drop (k + 1) xs
drop_from [] k x at = absurd (cc)
drop_from (y ∷ ys) zero x at = let same : y ≡ x = cc in ap (λ z. z ∷ ys) same
drop_from (y ∷ ys) (suc k) x at = let e : suc k + 1 ≡ suc (k + 1) = omega arith in drop_from ys k x at ∙ ap (λ n. x ∷ drop n (y ∷ ys)) (sym e)

pub note_limit-requires-clause-call : goal.note_limit-requires-clause-call
note_limit-requires-clause-call c = are_calls c.args.app.now c.sound.ensures (c.loop-k.k - 1) (action c.step.result.now) c.step.ensures

pub loop-k-preserved : goal.loop-k-preserved
loop-k-preserved c =
    let net = c.args.app.now in
    let k = c.loop-k.k - 1 in
    let next : k + 1 ≡ c.loop-k.k = omega (arith, c.loop-k-test.true) in
    let here : drop k net.steps ≡ action c.step.result.now ∷ drop c.loop-k.k net.steps = drop_from net.steps k (action c.step.result.now) c.step.ensures ∙ ap (λ n. action c.step.result.now ∷ drop n net.steps) next in
    record {
      all = c.note_limit.auto.limits ∙ c.loop-k.invariant.all;
      within = omega (arith, c.loop-k.invariant.within);
      each = λ i. c.note_limit.ensures i (drop c.loop-k.k net.steps) (c.loop-k.invariant.each i) ∙ ap (limit_from net i) (sym here);
    }
