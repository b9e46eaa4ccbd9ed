-- What the runs of cases show of an application, and what is told of that.
use Rattle.std.specs.Prelude.{◌≡◌, ℕ, List, ◌++◌, map}
use Rattle.std.specs.List.{AllByRecursion}
use Rattle.ps_bench_cases.specs.Meant.{items_of, whole_case}
use Rattle.ps_bench_cover.specs.Standing.{places_of}
use Rattle.ps_bench_cover.specs.Telling.{IsKept}
use Rattle.ps_bench_report.specs.Known.{IsReadBack}
use Rattle.ps_bench_test.specs.Outcome.{Ran}
use Rattle.ps_cover.specs.Applying.{ScanStep, scans_of}
use Rattle.ps_cover.specs.Covers.{Knows}
use Rattle.ps_cover.specs.Excluding.{AreRows}
use Rattle.ps_cover.specs.Seen.{Known, known_by}
use Rattle.ps_cover.specs.Tallied.{IsUnseen, IsWhole, KnowsTraces}
use Rattle.ps_cover.specs.Text.{coverage_text}
use Rattle.ps_cover.specs.declared.cover.Cover.{Cover}
use Rattle.ps_cover.specs.declared.excluding.Row.{Row}
use Rattle.ps_cover.specs.declared.format.Format.TheVariants.{Text}
use Rattle.ps_model.specs.Meaning.{Item, Meaning, nothing}
use Rattle.ps_model.specs.Network.{Network}
use Rattle.ps_model.specs.Scanning.{State}
use Rattle.ps_parser.specs.Tree.{SourceTree}

-- the items of a case
abbrev pub items_in : Ran → List Item
items_in r = items_of r.net (whole_case r.file r.case)

-- A case is one of those of which it is known what they show, and its items mean the states that are given for it.
pub record IsMeant (known : Ran → Type 0) (states : Ran → List State) (r : Ran) : Type 0 where
  pub is_known : known r
  pub means : Meaning r.net (items_in r) (states r)

-- the scans of its run, from the first state on
abbrev pub steps_in : (states : Ran → List State) → Ran → List ScanStep
steps_in states r = scans_of r.net nothing (items_in r) (states r)

-- those of cases, one after another
abbrev pub traces_in : (states : Ran → List State) → List Ran → List (List ScanStep)
traces_in states rs = map (steps_in states) rs

-- What `cover` tells of the scans of cases, of each of which it is known what it shows, with what is excluded, and with
-- the places of operands in this source: whichever states the items of the cases mean, of which there is one list.
abbrev pub IsCoverageOf : (known : Ran → Type 0) → Network → SourceTree → List Ran → (text : List ℕ) → Type 0
IsCoverageOf known net tree rs text =
    (rows : List Row) × AreRows net rows
    × ((states : Ran → List State) → AllByRecursion (IsMeant known states) rs →
    text ≡ coverage_text (known_by net rows (places_of net tree) (traces_in states rs)) Text)

-- A cover that had seen nothing of an application knows these scans.
pub record CoversRun (net : Network) (steps : List ScanStep) (c : Cover) : Type 0 where
  pub begun : Cover
  pub whole : IsWhole net begun
  pub unseen : IsUnseen begun
  pub knows : Knows net steps begun c

-- Apparatus: what `cover` tells where this was kept, with what is excluded, and with the places of operands in this
-- source.
abbrev pub IsCoverage : Network → SourceTree → Cover → (text : List ℕ) → Type 0
IsCoverage net tree cover text = (known : Known) × IsKept net tree cover known × (text ≡ coverage_text known Text)

-- What was known after some traces is known after these and those of cases whose traces are read as they were written.
abbrev pub CoversCases : Network → List Ran → (old new : Cover) → Type 0
CoversCases net rs old new =
    (states : Ran → List State) → AllByRecursion (IsMeant IsReadBack states) rs →
    (traces : List (List ScanStep)) (first : Cover) → IsWhole net first → KnowsTraces net traces first old →
    KnowsTraces net (traces ++ traces_in states rs) first new
