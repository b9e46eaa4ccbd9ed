use Rattle.std.proofs.Common.{◌≡◌, ℕ, not, length, arith, ap, sym, ◌∙◌}
use Rattle.std.proofs.lemmas.List.Sums.{position_or_len_is}
use Rattle.ps_text.specs.Quoted.{is_of_name}
use Rattle.ps_text.proofs.quoted.name_length.Goals as goal

-- no byte ends the name
pub returns-clause-length : goal.returns-clause-length
returns-clause-length c =
    let all_passed : length c.args.bytes.now ≡ c.loop-index.index = omega arith in
    sym (position_or_len_is (λ (b : ℕ). not (is_of_name b)) c.args.bytes.now (length c.args.bytes.now) 0 (omega arith)
    (λ k below. c.loop-index.invariant k (omega arith)) (λ inside. absurd (omega arith)))

-- the byte at hand ends it
pub returns-then-not-goes_into_name-clause-length : goal.returns-then-not-goes_into_name-clause-length
returns-then-not-goes_into_name-clause-length c =
    sym (position_or_len_is (λ (b : ℕ). not (is_of_name b)) c.args.bytes.now c.loop-index.index 0 (omega arith) c.loop-index.invariant (λ inside. ap not (sym c.goes_into_name.ensures ∙ c.if-not-goes_into_name.true)))
