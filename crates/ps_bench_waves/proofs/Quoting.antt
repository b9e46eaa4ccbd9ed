-- A text as a string of JSON, as its writer writes it.
use Rattle.std.proofs.Common.{◌≡◌, ℕ, List, [], ◌∷◌, append-nil}
use Rattle.json.specs.Token.{string}
use Rattle.json.specs.Print.{print, print_from, quoted}

pub print-string : (text : List ℕ) → print (string text ∷ []) ≡ quoted text
unfolding print_from
print-string text = append-nil (quoted text)
