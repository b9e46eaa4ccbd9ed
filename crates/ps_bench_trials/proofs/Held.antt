-- What names a text that is held, and pieces of a text.
use Rattle.std.proofs.Common.{◌≡◌, ◌∙◌, ◌++◌, append_assoc, ℕ, List, Option, Some, None, IsSome, Result, Ok, Err, length, min, take, refl, ap}
use Rattle.std.proofs.lemmas.List.{take_min}
use Rattle.std.specs.Prelude.{IfOk, OnOk}
use Rattle.hex.specs.Hex.{encode_lower}
use Rattle.ps_base.specs.declared.limits.TheConstants.{LARGEST_TRACE}
use Rattle.ps_outside.specs.declared.reading.ReadFail.{ReadFail}
use Rattle.ps_bench_trials.specs.Naming.{Names, digest_text}
use Rattle.sha2.specs.Sha256.{sha256}

-- the digits of what was read of it
names_held : (held : Option (List ℕ)) (bytes digits : List ℕ) → IsSome held →
    ((text : List ℕ) → held ≡ Some text → bytes ≡ take LARGEST_TRACE text) → digits ≡ encode_lower (sha256 bytes) → Names held digits
names_held (Some text) bytes digits some read is = (text, refl, is ∙ ap (λ (bs : List ℕ). encode_lower (sha256 bs)) (read text refl))
names_held None bytes digits some read is = let no : ⊥ = cc in absurd no

pub named_held : (held : Option (List ℕ)) (bytes : List ℕ) (named : Result (List ℕ) ReadFail) → IsSome held →
    ((text : List ℕ) → held ≡ Some text → bytes ≡ take LARGEST_TRACE text) → IfOk named (λ digits. digits ≡ encode_lower (sha256 bytes)) →
    IfOk named (Names held)
named_held held bytes (Ok digits) some read is = names_held held bytes digits some read is
named_held held bytes (Err fail) some read is = tt

-- two pieces, one after another
pub two_pieces : {E : Type 0} (before mid after first second : List ℕ) (ended : Result (Unit {0}) E) → mid ≡ before ++ first →
    OnOk ended (after ≡ mid ++ second) → OnOk ended (after ≡ before ++ (first ++ second))
two_pieces before mid after first second (Ok done) is more = more ∙ ap (λ ms. ms ++ second) is ∙ append_assoc before first second
two_pieces before mid after first second (Err error) is more = tt

-- the digits of what was taken of a text
pub named_text : {E : Type 0} (text piece : List ℕ) (size : ℕ) (named : Result (List ℕ) E) → size ≡ min LARGEST_TRACE (length text) → piece ≡ take size text →
    IfOk named (λ digits. digits ≡ encode_lower (sha256 piece)) → IfOk named (λ digits. digits ≡ digest_text text)
named_text text piece size (Ok digits) cut taken is =
    is ∙ ap (λ (bs : List ℕ). encode_lower (sha256 bs)) (taken ∙ ap (λ (n : ℕ). take n text) cut ∙ take_min LARGEST_TRACE text)
named_text text piece size (Err error) cut taken is = tt
