-- What a text gives: its flat source, and the application that stands for it.
use Rattle.std.specs.Prelude.{◌≡◌, ℕ, List, Option, Some, Result}
use Rattle.ps_base.specs.declared.failing.Fail.{Fail}
use Rattle.ps_model.specs.Network.{Network}
use Rattle.ps_parser.specs.Tree.{SourceTree}
use Rattle.ps_accepted.specs.Answering.{Decides}
use Rattle.ps_accepted.specs.Source.{IsAcceptedAs, IsProgram}
use Rattle.ps_accepted.specs.Source.Reading.{stands_for}

-- a text gives a flat source, and is accepted as an application
abbrev pub GivesSourced : List ℕ → SourceTree × Network → Type 0
GivesSourced text r = IsProgram text r.0 × IsAcceptedAs text (stands_for r.1)

-- both, or the first refusal by the rules L, P, B, N and S
abbrev pub IsSourced : List ℕ → Result (SourceTree × Network) Fail → Type 0
IsSourced = Decides GivesSourced IsAcceptedAs

-- A text that was kept: it is the text that was given, which gives a flat source, and is accepted as an application.
abbrev pub GivesKept : List ℕ → List ℕ × SourceTree × Network → Type 0
GivesKept text r = (r.0 ≡ text) × IsProgram text r.1 × IsAcceptedAs text (stands_for r.2)

-- the source is the flat source of the text of this name
abbrev pub IsSourceOf : (held : List ℕ → Option (List ℕ)) → (name : List ℕ) → SourceTree → Type 0
IsSourceOf held name tree = (text : List ℕ) × (held name ≡ Some text) × IsProgram text tree
