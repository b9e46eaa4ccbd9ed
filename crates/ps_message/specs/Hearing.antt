-- What was heard.
use Rattle.std.specs.Prelude.{◌≡◌, ◌⊎◌, ◌++◌, ℕ, List}

-- Such a text was heard after what had been heard before, or nothing was.
abbrev pub Hears : (IsText : List ℕ → Type 0) → (before after : List ℕ) → Type 0
Hears IsText before after = (after ≡ before) ⊎ ((text : List ℕ) × IsText text × (after ≡ before ++ text))
