-- Paths: a name after the names of the instances in which it stands, with a dot after each and without letter case.
-- So `g.h.e` is the path of E in the copy H in the copy G, and `g.h.` is the path of that copy; the program's path is
-- empty.
use Rattle.std.specs.Prelude.{ℕ, Bool, List, [], ◌∷◌, ◌++◌}
use Rattle.std.specs.List.{list_any}
use Rattle.std.specs.Str.{bytes_eq}
use Rattle.ps_base.specs.LetterCase.{folded}
use Rattle.ps_parser.specs.declared.name.Name.{Name}

-- a name in the copy at this path
abbrev pub at : List ℕ → Name → List ℕ
at path n = path ++ folded n.text

-- the copy that a derived instance with this name has there
abbrev pub copy_at : List ℕ → Name → List ℕ
copy_at path g = path ++ (folded g.text ++ 46 ∷ [])

-- whether a path is among these
abbrev pub is_among : List ℕ → List (List ℕ) → Bool
is_among p ps = list_any (bytes_eq p) ps
