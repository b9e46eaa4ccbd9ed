-- What a log keeps of a run, and the names that it can tell apart.
use Rattle.std.specs.Prelude.{◌≡◌, ◌<◌, ◌==◌, ◌||◌, ℕ, Bool, true, false, All, List, [], ◌∷◌, ◌++◌, length}
use Rattle.std.specs.List.{list_all, list_any}
use Rattle.ps_lexer.specs.Spelling.{continues_name}
use Rattle.ps_bench_logs.specs.Log.{items_of}
use Rattle.ps_model.specs.Meaning.{Item}
use Rattle.ps_model.specs.Meaning.Item.{scan, restart}
use Rattle.ps_model.specs.Network.{Network, names}
use Rattle.ps_trace.specs.Header.{input_names}

-- The items that a log has of a run: it marks a scan that is the first after a restart. So restarts in a row are one,
-- and one after the last scan is none; the scans are the same.
abbrev pub logged : (is_restarted : Bool) → List Item → List Item
logged is_restarted [] = []
logged is_restarted (restart ∷ items) = logged true items
logged is_restarted (scan now ins ∷ items) = items_of now is_restarted ins ++ logged false items

-- there is no restart among items
abbrev pub is_unbroken : List Item → Bool
is_unbroken [] = true
is_unbroken (restart ∷ items) = false
is_unbroken (scan now ins ∷ items) = is_unbroken items

-- a byte of a name: a letter, a digit, `_`, or a dot, which names within function blocks have
abbrev pub is_name_byte : ℕ → Bool
is_name_byte b = continues_name b || b == 46

-- one or more of them
pub record IsSpelt (name : List ℕ) : Type 0 where
  pub some : 0 < length name
  pub bytes : list_all is_name_byte name ≡ true

-- there is a dot in a name
abbrev pub has_dot : List ℕ → Bool
has_dot name = list_any (λ b. b == 46) name

-- A log can tell the names of an application apart: they are names of the language, and those of inputs have no dot.
pub record HasLogNames (net : Network) : Type 0 where
  pub spelt : All IsSpelt (names net)
  pub inputs : All (λ name. has_dot name ≡ false) (input_names net)
