-- What is held where a text is noted.
use Rattle.std.proofs.Common.{◌≡◌, ℕ, zero, suc, List, [], ◌∷◌, Option, Some, ap, ap₂, get_or, if◌then◌else◌, refl, set, string_bytes}
use Rattle.std.specs.Str.{bytes_eq}
use Rattle.ps_lsp_text.specs.Texts.{held_in, is_named}
use Rattle.ps_lsp_text.specs.declared.texts.Text.{Text}

-- a text in the place of one of the same name and bytes
pub held_set : (uri : List ℕ) (texts : List Text) (i : ℕ) (text other : Text) → text.uri ≡ (get_or texts i other).uri →
    text.bytes ≡ (get_or texts i other).bytes → held_in uri (set texts i text) ≡ held_in uri texts
held_set uri [] i text other named same = refl
held_set uri (first ∷ more) zero text other named same =
    ap₂ (λ name bytes. if bytes_eq (string_bytes name) uri then Some bytes else held_in uri more) named same
held_set uri (first ∷ more) (suc i) text other named same =
    ap (λ (rest : Option (List ℕ)). if is_named uri first then Some first.bytes else rest) (held_set uri more i text other named same)
