-- Operands that are not one.
use Rattle.std.proofs.Common.{◌≡◌, ◌≢◌, List, [], ◌∷◌, length, refl}
use Rattle.ps_model.specs.Formula.{Formula, all_of, any_of}
use Rattle.ps_model.specs.Exprs.{operands}
use Rattle.ps_names.specs.Stands.{all_joined, any_joined}

pub all_many : (es : List Formula) → length es ≢ 1 → all_joined (operands es) ≡ all_of (operands es)
all_many [] h = refl
all_many (e ∷ []) h = absurd (h refl)
all_many (e ∷ f ∷ es) h = refl

pub any_many : (es : List Formula) → length es ≢ 1 → any_joined (operands es) ≡ any_of (operands es)
any_many [] h = refl
any_many (e ∷ []) h = absurd (h refl)
any_many (e ∷ f ∷ es) h = refl
