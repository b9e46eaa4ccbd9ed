-- How a text is named.
use Rattle.std.specs.Prelude.{◌≡◌, ℕ, List, Option, Some, take}
use Rattle.hex.specs.Hex.{encode_lower}
use Rattle.ps_base.specs.declared.limits.TheConstants.{LARGEST_TRACE}
use Rattle.sha2.specs.Sha256.{sha256}

-- the SHA-256 of a text in hexadecimal digits; of one that is larger than any that is taken, that of its beginning
abbrev pub digest_text : (text : List ℕ) → List ℕ
digest_text text = encode_lower (sha256 (take LARGEST_TRACE text))

-- it names the text that is held
abbrev pub Names : (held : Option (List ℕ)) → (name : List ℕ) → Type 0
Names held name = (text : List ℕ) × (held ≡ Some text) × (name ≡ digest_text text)
