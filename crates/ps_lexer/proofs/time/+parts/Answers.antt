use Rattle.std.proofs.Common.{◌≡◌, suc, ◌+◌, ◌*◌, ◌<◌, length, sym, ap, ◌∙◌, subst, arith, eqb-true, false-eqb, refl}
use Rattle.ps_lexer.specs.TimeLiterals.{PartsGive, number_of, milliseconds, rank}
use Rattle.ps_lexer.specs.Scanning.{gap_rest}
use Rattle.ps_lexer.proofs.Times.{not_empty, not_big, not_unit, not_early, not_much, at_end, going, goes_on, none_left, parts_at, one_value, sum_some, sum_none}
use Rattle.ps_lexer.proofs.time.+parts.Goals as goal

pub returns-then-is_empty-clause-none : goal.returns-then-is_empty-clause-none
returns-then-is_empty-clause-none t c = λ v small time. not_empty c.split_part.ensures (eqb-true _ _ (sym c.if-is_empty.ensures)) time

pub returns-in_err-count-clause-none : goal.returns-in_err-count-clause-none
returns-in_err-count-clause-none t c = rw c.from_residual.ensures (λ v small time. not_big c.split_part.ensures c.in_err-count.ensures.none small time)

pub returns-in_err-unit-clause-none : goal.returns-in_err-unit-clause-none
returns-in_err-unit-clause-none t c = rw c.from_residual-in_err-unit.ensures (λ v small time. not_unit c.split_part.ensures c.in_err-unit.ensures.none time)

pub returns-then-rank-least-clause-none : goal.returns-then-rank-least-clause-none
returns-then-rank-least-clause-none t c = λ v small time.
    let r = c.rank.ensures.value in let early = c.if-rank-least.true in
    not_early c.split_part.ensures c.in_ok-unit.unit c.in_ok-unit.ensures.some (omega (arith, r, early)) time

pub returns-in_err-here-clause-none : goal.returns-in_err-here-clause-none
returns-in_err-here-clause-none t c = rw c.from_residual-in_err-here.ensures (λ v small time.
    let here : c.in_ok-count.count * c.milliseconds.result ≡ number_of c.split_part.result.0.now * milliseconds c.in_ok-unit.unit = (λ i. c.in_ok-count.ensures.some i * c.milliseconds.ensures i) in
    let much = c.in_err-here.ensures in
    not_much c.split_part.ensures c.in_ok-unit.unit c.in_ok-unit.ensures.some (subst (λ m. 4294967295 < m) here (omega (arith, much))) small time)

pub returns-then-is_empty-2-clause-some : goal.returns-then-is_empty-2-clause-some
returns-then-is_empty-2-clause-some t c =
    let here : c.in_ok-here.here ≡ number_of c.split_part.result.0.now * milliseconds c.in_ok-unit.unit = c.in_ok-here.ensures.1 ∙ (λ i. c.in_ok-count.ensures.some i * c.milliseconds.ensures i) in
    let r = c.rank.ensures.value in let late = c.if-rank-least.false in
    subst (λ v. PartsGive c.args.least c.args.bytes.now v) (sym here)
    (at_end c.split_part.ensures c.in_ok-unit.unit c.in_ok-unit.ensures.some (false-eqb _ 0 c.if-is_empty.ensures) (omega (arith, r, late)) (none_left _ (eqb-true _ _ (sym c.if-is_empty-2.ensures))))

pub returns-in_err-rest-clause-none : goal.returns-in_err-rest-clause-none
returns-in_err-rest-clause-none t c = rw c.from_residual-in_err-rest.ensures (λ v small time.
    let k = goes_on c.split_part.ensures c.in_ok-unit.unit c.in_ok-unit.ensures.some (λ e. false-eqb _ 0 c.if-is_empty-2.ensures (ap length e)) time in
    let r = c.rank-2.ensures.value in
    let less : k.0 < 4294967296 = omega (arith, k.2) in
    c.in_err-rest.ensures.none k.0 less (parts_at _ _ _ _ _ _ (omega (arith, r)) (sym c.behind_gap.ensures) refl k.1))

pub returns-clause-some : goal.returns-clause-some
returns-clause-some t c =
    let here : c.in_ok-here.here ≡ number_of c.split_part.result.0.now * milliseconds c.in_ok-unit.unit = c.in_ok-here.ensures.1 ∙ (λ i. c.in_ok-count.ensures.some i * c.milliseconds.ensures i) in
    let r = c.rank.ensures.value in let late = c.if-rank-least.false in let r2 = c.rank-2.ensures.value in
    sum_some c.checked_add.result (c.in_ok-here.here + c.in_ok-rest.rest) (PartsGive c.args.least c.args.bytes.now) c.checked_add.ensures
    (subst (λ v. PartsGive c.args.least c.args.bytes.now (v + c.in_ok-rest.rest)) (sym here)
    (going c.split_part.ensures c.in_ok-unit.unit c.in_ok-unit.ensures.some (false-eqb _ 0 c.if-is_empty.ensures) (omega (arith, r, late))
    (parts_at (c.rank-2.result + 1) (suc (rank c.in_ok-unit.unit)) c.in_ok-rest.rest c.in_ok-rest.rest c.behind_gap.result.now (gap_rest c.split_part.result.2.now) (omega (arith, r2)) c.behind_gap.ensures refl c.in_ok-rest.ensures.some)))

pub returns-clause-none : goal.returns-clause-none
returns-clause-none t c = sum_none c.checked_add.result (c.in_ok-here.here + c.in_ok-rest.rest) _ c.checked_add.ensures (λ much v small time.
    let here : c.in_ok-here.here ≡ number_of c.split_part.result.0.now * milliseconds c.in_ok-unit.unit = c.in_ok-here.ensures.1 ∙ (λ i. c.in_ok-count.ensures.some i * c.milliseconds.ensures i) in
    let k = goes_on c.split_part.ensures c.in_ok-unit.unit c.in_ok-unit.ensures.some (λ e. false-eqb _ 0 c.if-is_empty-2.ensures (ap length e)) time in
    let w = one_value c.in_ok-rest.ensures.some (subst (λ l. PartsGive (suc (rank c.in_ok-unit.unit)) l k.0) (sym c.behind_gap.ensures) k.1) in
    omega (arith, here, k.2, w, much, small))
