-- The text of words.
use Rattle.std.proofs.Common.{◌≡◌, ◌∙◌, ℕ, List, [], Bool, if◌then◌else◌, ap, sym, ⊎_elim}
use Rattle.std.specs.Str.{IsUtf8, is_utf8}
use Rattle.std.proofs.lemmas.Bool.{cases_Bool}
use Rattle.std.proofs.lemmas.Str.{IsUtf8-from_is_utf8, is_utf8-from_IsUtf8}
use Rattle.ps_lsp_text.specs.Published.{text_of}

-- words that are UTF-8 are their own text
pub own_text : (words text : List ℕ) → text ≡ words → IsUtf8 words → text ≡ text_of words
own_text words text same valid = same ∙ sym (ap (λ (b : Bool). if b then words else []) (is_utf8-from_IsUtf8 words valid))

-- others have none
pub no_text : (words : List ℕ) → ¬ (IsUtf8 words) → [] ≡ text_of words
no_text words invalid = ⊎_elim
    (λ valid. absurd (invalid (IsUtf8-from_is_utf8 words valid)))
    (λ other. sym (ap (λ (b : Bool). if b then words else []) other))
    (cases_Bool (is_utf8 words))
