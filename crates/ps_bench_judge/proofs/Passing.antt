-- Tests of failures, told and left.
use Rattle.std.proofs.Common.{◌≡◌, ◌∙◌, ◌&&◌, Bool, true, false, refl, sym, ap}

-- three tests in turn
in_turn : (a b c : Bool) → (a && (b && c)) ≡ ((a && b) && c)
in_turn true b c = refl
in_turn false b c = refl

scan_order : (told kept sudden rest : Bool) → (told && (kept && (sudden && rest))) ≡ ((((told && sudden) && true) && kept) && rest)
scan_order false kept sudden rest = refl
scan_order true false false rest = refl
scan_order true false true rest = refl
scan_order true true false rest = refl
scan_order true true true rest = refl

-- A scan: the sudden failure of the one before is told, and the open expectations are sifted.
pub scan_passes : (told kept sudden rest told1 told2 open2 : Bool) → told1 ≡ (told && sudden) → (told2 && open2) ≡ ((told1 && true) && kept) →
    (told && (kept && (sudden && rest))) ≡ (told2 && (open2 && rest))
scan_passes told kept sudden rest told1 told2 open2 first second =
    scan_order told kept sudden rest
    ∙ ap (λ t. ((t && true) && kept) && rest) (sym first)
    ∙ ap (λ t. t && rest) (sym second)
    ∙ sym (in_turn told2 open2 rest)

expect_order : (told kept sudden this rest : Bool) → (told && (kept && (sudden && (this && rest)))) ≡ (((told && kept) && this) && (sudden && rest))
expect_order false kept sudden this rest = refl
expect_order true false sudden this rest = refl
expect_order true true false false rest = refl
expect_order true true false true rest = refl
expect_order true true true false rest = refl
expect_order true true true true rest = refl

-- An expectation: what it makes of the scans that are left is told, or put to the open ones.
pub expect_passes : (told kept sudden this rest told1 open1 : Bool) → (told1 && open1) ≡ ((told && kept) && this) →
    (told && (kept && (sudden && (this && rest)))) ≡ (told1 && (open1 && (sudden && rest)))
expect_passes told kept sudden this rest told1 open1 put =
    expect_order told kept sudden this rest
    ∙ ap (λ t. t && (sudden && rest)) (sym put)
    ∙ sym (in_turn told1 open1 (sudden && rest))

-- One open expectation more is looked at.
pub sift_passes : (now before all taken more this : Bool) → now ≡ (before && this) → before ≡ (all && taken) → more ≡ (taken && this) → now ≡ (all && more)
sift_passes now before all taken more this step invariant next =
    step ∙ ap (λ b. b && this) invariant ∙ sym (in_turn all taken this) ∙ ap (λ b. all && b) (sym next)
