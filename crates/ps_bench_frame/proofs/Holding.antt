-- A text that was read whole.
use Rattle.std.proofs.Common.{◌≡◌, ◌<◌, ◌∙◌, ℕ, List, Option, Some, None, IsSome, length, take, refl, sym, ap, arith}
use Rattle.std.proofs.lemmas.List.{length-take, take_all}

-- fewer bytes than were asked for are all that is held
pub all_held : (held : Option (List ℕ)) (bytes : List ℕ) (most : ℕ) → IsSome held → ((text : List ℕ) → held ≡ Some text → bytes ≡ take most text) →
    length bytes < most → held ≡ Some bytes
all_held (Some text) bytes most some read few =
    let is : bytes ≡ take most text = read text refl in
    let cut : length bytes ≡ length (take most text) = λ i. length (is i) in
    ap Some (sym (is ∙ take_all most text (omega (arith, few, cut, length-take most text))))
all_held None bytes most some read few = let no : ⊥ = cc in absurd no
