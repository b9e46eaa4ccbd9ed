use Rattle.std.proofs.Common.{◌≡◌, suc, ◌+◌, ◌-◌, ◌≤◌, ◌∷◌, [], List, Bool, false, ℕ, length, drop, refl, sym, ap, ◌∙◌, subst, arith, drop-cons, length-drop, get_or}
use Rattle.std.proofs.Math.Seq.{drop-length}
use Rattle.ps_eqvm.specs.LowBits.{AreLowBits}
use Rattle.ps_eqvm.proofs.LowBits.{no_bits, one_bit, byte_bit}
use Rattle.ps_eqvm.proofs.plain.low_bits.Goals as goal

pub loop-j-init : goal.loop-j-init
loop-j-init c =
    let values = c.args.values.now in
    let all : length values - 0 ≡ length values = omega arith in
    subst (λ (l : List Bool). AreLowBits l 0) (sym (ap (λ (n : ℕ). drop n values) all ∙ drop-length values)) no_bits

pub loop-j-preserved : goal.loop-j-preserved
loop-j-preserved c =
    let values = c.args.values.now in
    let n = length values in
    let j = c.loop-j.j in
    let i = n - 1 - j in
    let value = get_or values i false in
    let rest = drop (n - j) values in
    let next : suc i ≡ n - j = omega (arith, c.loop-j-test.true) in
    let long : length rest ≡ j = omega (arith, length-drop (n - j) values, c.loop-j-test.true) in
    let few : 1 + length rest ≤ 32 = omega (arith, long, c.loop-j-test.true, c.requires) in
    let cons : value ∷ rest ≡ drop i values = sym (drop-cons values i false (omega (arith, c.loop-j-test.true)) ∙ ap (λ (k : ℕ). value ∷ drop k values) next) in
    let back : i ≡ n - (j + 1) = omega arith in
    subst (λ (l : List Bool). AreLowBits l c.low_then_high-bits.result) (cons ∙ ap (λ (k : ℕ). drop k values) back)
    (c.low_then_high-bits.ensures (value ∷ []) rest refl few (one_bit value _ (c.from.ensures ∙ byte_bit value)) c.loop-j.invariant)

pub returns : goal.returns
returns c =
    let values = c.args.values.now in
    let none : length values - c.loop-j.j ≡ 0 = omega (arith, c.loop-j-test.false) in
    subst (λ (l : List Bool). AreLowBits l c.loop-j.bits) (ap (λ (k : ℕ). drop k values) none) c.loop-j.invariant
