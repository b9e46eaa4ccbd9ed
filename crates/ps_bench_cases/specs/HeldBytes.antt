-- Bytes that are put after others, one piece after another.
use Rattle.std.specs.Prelude.{◌≡◌, ◌++◌, ℕ, List, Bool, true}

-- where all pieces are there (`done`), so are those before this one (`whole`), and it stands after them
abbrev pub IsAdded : (whole : Bool) → (before bytes after : List ℕ) → (done : Bool) → Type 0
IsAdded whole before bytes after done = done ≡ true → (whole ≡ true) × (after ≡ before ++ bytes)
