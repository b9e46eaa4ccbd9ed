use Rattle.std.proofs.Common.{◌≡◌, arith, ⊎_elim, sym, ◌∙◌, subst}
use Rattle.std.proofs.lemmas.Bool.{cases_lt, false≢true}
use Rattle.ps_model.specs.Blocks.{block}
use Rattle.ps_base.specs.LetterCase.{SameName}
use Rattle.ps_model.proofs.KindNumbers.{number_at_least, number_at_most, same_number}
use Rattle.ps_model.proofs.kind.kind_named.Goals as goal

pub loop-number-init : goal.loop-number-init
loop-number-init c = λ k below. let low = number_at_least k in absurd (omega arith)

pub loop-number-preserved : goal.loop-number-preserved
loop-number-preserved c = λ k below same.
    ⊎_elim (λ early. c.loop-number.invariant k early same)
    (λ late.
    let at : (block k).number ≡ c.loop-number.number = omega arith in
    let is : k ≡ c.kind_at-kind.result = same_number k c.kind_at-kind.result (at ∙ sym c.kind_at-kind.ensures) in
    absurd (false≢true (c.if-is_named.ensures.1 (subst (λ x. SameName (block x).name c.args.name.now) is same))))
    (cases_lt (block k).number c.loop-number.number)

pub returns-clause-none : goal.returns-clause-none
returns-clause-none c = λ k same. let high = number_at_most k in c.loop-number.invariant k (omega arith) same
