-- What holds the texts of a load, as contracts see it.
use Rattle.std.specs.Prelude.{ℕ, List, Option, Some, None, codes, bytes_eq, if◌then◌else◌, is_some}
use Rattle.ps_load.specs.Texts.{app_text, trace_text}

-- the texts of a load of this number, and how often a name was read that is not held
pub record Load : Type 0 where
  pub number : ℕ
  pub others : ℕ

-- the text under each name: there are two
abbrev pub held_of : Load → List ℕ → Option (List ℕ)
held_of load name =
    if bytes_eq name (codes "app") then Some app_text
    else if bytes_eq name (codes "trace") then Some (trace_text load.number)
    else None

-- the count of faults of each name: reading the two never fails
abbrev pub faults_of : Load → List ℕ → ℕ
faults_of load name = if is_some (held_of load name) then 0 else load.others
