-- What is told, while it is written.
use Rattle.std.specs.Prelude.{◌≡◌, ℕ, ◌++◌, IsTrue, List}
use Rattle.ps_findings.specs.declared.telling.Telling.{Telling}

-- these bytes were added, unless memory ran out
abbrev pub HasSaid : List ℕ → (old new : Telling) → Type 0
HasSaid more old new = IsTrue new.is_whole → IsTrue old.is_whole × (new.bytes ≡ old.bytes ++ more)
