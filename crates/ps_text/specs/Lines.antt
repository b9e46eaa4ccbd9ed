-- Where a line is about, and how it ends.
use Rattle.std.specs.Prelude.{◌≡◌, ℕ, ◌==◌, List, [], ◌++◌, codes, decimal, if◌then◌else◌}
use Rattle.ps_base.specs.declared.failing.Place.{Place}

-- a place after the name of a file, as `:4:15`; a line alone as `:4`, and nothing where there is none
abbrev pub place_shown : Place → List ℕ
place_shown place =
    if place.line == 0 then [] else codes ":" ++ decimal place.line ++ (if place.column == 0 then [] else codes ":" ++ decimal place.column)

-- the last byte is a line feed
abbrev pub IsEnded : List ℕ → Type 0
IsEnded bytes = (front : List ℕ) × (bytes ≡ front ++ codes "\n")
