-- What the text of a source gives where the demands of its outputs are asked for.
use Rattle.std.specs.Prelude.{◌≡◌, ◌⊎◌, ℕ, List, Some, None, Result, slice_get}
use Rattle.ps_base.specs.declared.failing.Fail.{Fail}
use Rattle.ps_base.specs.declared.failing.Place.{Place}
use Rattle.ps_base.specs.declared.failing.Refusal.{Refusal}
use Rattle.ps_base.specs.declared.failing.Rule.TheVariants.{M1}
use Rattle.ps_checker.specs.Counts.{Counts}
use Rattle.ps_parser.specs.Places.{step_place}
use Rattle.ps_parser.specs.Tree.{SourceTree}
use Rattle.ps_names.specs.Stands.{Stands}
use Rattle.ps_model.specs.Action.{assigns}
use Rattle.ps_model.specs.Formula.{Formula}
use Rattle.ps_model.specs.Network.{Network}
use Rattle.ps_model.specs.Typing.{Accepted}
use Rattle.ps_demand.specs.Lines.{NoneIsLarge, IsFirstLarge, demand_lines}
use Rattle.ps_accepted.specs.Answering.{Decides, IsChecked, app_of, checked_of}
use Rattle.ps_accepted.specs.Source.{Reading, IsProgram, IsAcceptedAs}
use Rattle.ps_accepted.specs.Source.Reading.{stands_for, is_refused}
use Rattle.ps_accepted.specs.declared.demanding.Demanded.{Demanded}

-- a place is that of the target of the step that assigns a signal
pub record IsPlaceOfOutput (tree : SourceTree) (net : Network) (output : ℕ) (at : Place) : Type 0 where
  pub step : ℕ
  pub value : Formula
  pub assigned : slice_get net.steps step ≡ Some (assigns output value)
  pub place : step_place tree step None ≡ Some at

-- The application of the text is accepted, and a SAFEBOOL output has a demand of over 1,000 leaves: the first such
-- output, at the target of the step that assigns it. Profile.
pub record BreaksDemand (source : List ℕ) (refusal : Refusal) : Type 0 where
  pub tree : SourceTree
  pub net : Network
  pub program : IsProgram source tree
  pub stands : Stands tree net
  pub accepted : Accepted net
  pub output : ℕ
  pub large : IsFirstLarge net output
  pub rule : refusal.rule ≡ M1
  pub place : IsPlaceOfOutput tree net output refusal.place

-- what the text gives by the rules L, P, B, N and S, and then by the rule M1
abbrev pub IsDemandableAs : List ℕ → Reading → Type 0
IsDemandableAs source (stands_for net) = IsAcceptedAs source (stands_for net) × NoneIsLarge net
IsDemandableAs source (is_refused r) = IsAcceptedAs source (is_refused r) ⊎ BreaksDemand source r

-- the text stands for this application, none of whose demands is too large, and these are their lines
abbrev pub GivesLines : Network → List ℕ → List ℕ → Type 0
GivesLines net text lines = IsDemandableAs text (stands_for net) × (lines ≡ demand_lines net)

-- what the outputs of the application of a text demand: their lines, or the refusal
abbrev pub AreDemands : List ℕ → Network → Result (List ℕ) Fail → Type 0
AreDemands text net = Decides (GivesLines net) IsDemandableAs text

-- the application whose demands were asked for
abbrev pub app_demanded : Demanded → Network
app_demanded d = app_of d.accepted

-- the lines of its demands, or why there are none
abbrev pub lines_demanded : Demanded → Result (List ℕ) Fail
lines_demanded d = d.lines

-- the counts of what was checked of it
abbrev pub checked_demanded : Demanded → Counts
checked_demanded d = checked_of d.accepted

-- the accepted application whose demands were asked for was checked
abbrev pub IsCheckedOf : Demanded → Type 0
IsCheckedOf d = IsChecked d.accepted

-- a text gives an accepted application, which was checked, with what its outputs demand
pub record GivesDemanded (text : List ℕ) (d : Demanded) : Type 0 where
  pub accepted : IsAcceptedAs text (stands_for (app_demanded d))
  pub checked : IsCheckedOf d
  pub demands : AreDemands text (app_demanded d) (lines_demanded d)

-- what comes of a text where the demands of its outputs are asked for: an accepted application with these, or the
-- refusal by the rules before M1
abbrev pub IsDemanding : List ℕ → Result Demanded Fail → Type 0
IsDemanding = Decides GivesDemanded IsAcceptedAs
