-- The texts of a report: what is told of an application and of its source.
use Rattle.std.specs.Prelude.{◌≡◌, ◌⊎◌, ℕ, List, Ok, Err}
use Rattle.std.specs.List.{flat_map}
use Rattle.ps_bench_report.specs.Numbered.{numbered}
use Rattle.ps_bench_report.specs.Texts.{large_demand}
use Rattle.ps_bench_report.specs.declared.texts.Texts.{Texts}
use Rattle.ps_demand.specs.Lines.{AreDemandLines}
use Rattle.ps_demand.specs.declared.lines.NoLines.TheVariants.{Large}
use Rattle.ps_findings.specs.Places.{placed_notes}
use Rattle.ps_message.specs.NoteLine.{note_text}
use Rattle.ps_model.specs.Network.{Network}
use Rattle.ps_parser.specs.Tree.{SourceTree}

-- the notes on an application of this source, from a file of this name, in their order, each in a line with its place
abbrev pub notes_text : Network → SourceTree → (name : List ℕ) → List ℕ
notes_text net tree name = flat_map (note_text name net) (placed_notes tree net)

-- The lines of what its SAFEBOOL outputs demand, or that the demand of one has too many leaves.
abbrev pub AreDemands : Network → (text : List ℕ) → Type 0
AreDemands net text =
    AreDemandLines net (Ok text) ⊎ ((output : ℕ) × AreDemandLines net (Err (Large output)) × (text ≡ large_demand))

-- The texts of an application of this source, from a file of this name, which has this text.
pub record AreTexts (net : Network) (tree : SourceTree) (name text : List ℕ) (t : Texts) : Type 0 where
  pub source : t.source ≡ numbered text
  pub notes : t.notes ≡ notes_text net tree name
  pub demands : AreDemands net t.demands
