use Rattle.std.proofs.Common.{◌≡◌, ◌+◌, ap, ℕ, arith}
use Rattle.ps_ways.proofs.step.modes_of.Goals as goal

-- two sums of eight in another order
same : (a b c d e f g h p q r s t u v w : ℕ) → a ≡ p → b ≡ q → c ≡ r → d ≡ s → e ≡ t → f ≡ u → g ≡ v → h ≡ w →
    a + b + c + d + (e + f + g + h) ≡ 0 + p + q + r + s + t + u + v + w
same a b c d e f g h p q r s t u v w ap bq cr ds et fu gv hw = omega arith

pub returns : goal.returns
returns c =
    same _ _ _ _ _ _ _ _ _ _ _ _ _ _ _ _ c.one_if_on.ensures.one c.one_if_on-2.ensures.one c.one_if_on-3.ensures.one
    c.one_if_on-4.ensures.one c.one_if_on-5.ensures.one c.one_if_on-6.ensures.one c.one_if_on-7.ensures.one
    c.one_if_on-8.ensures.one
