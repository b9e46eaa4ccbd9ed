-- When the names of inputs can stand in the header of a trace.
use Rattle.std.specs.Prelude.{◌≡◌, ◌<◌, ℕ, List, length, not, true, All}
use Rattle.std.specs.List.{list_all}
use Rattle.ps_model.specs.Network.{Network}
use Rattle.ps_trace.specs.Words.{is_blank}
use Rattle.ps_trace.specs.Header.{input_names}

-- bytes are a word: one or more, and no blank among them
pub record IsWord (bytes : List ℕ) : Type 0 where
  pub some : 0 < length bytes
  pub plain : list_all (λ b. not (is_blank b)) bytes ≡ true

-- each input has such a name
abbrev pub HasWords : Network → Type 0
HasWords net = All IsWord (input_names net)
