-- The output that is named of a difference.
use Rattle.std.specs.Prelude.{◌≡◌, ◌<◌, ℕ, Bool, true, false, List, length, Some, slice_index_or}
use Rattle.ps_model.specs.Meaning.{Meaning}
use Rattle.ps_model.specs.Scanning.{State}
use Rattle.ps_pairs.specs.Outputs.{outputs_left}
use Rattle.ps_pairs.specs.Promised.{HaveAsMany}
use Rattle.ps_pairs.specs.Sides.{unlike}
use Rattle.ps_reach.specs.Telling.{items_of}
use Rattle.ps_reach.specs.declared.asked.Asked.{Asked}
use Rattle.ps_bench_rules.specs.declared.rules.RulesFile.{RulesFile}
use Rattle.ps_search.specs.declared.answer.Path.{Path}
use Rattle.ps_bench_never.specs.SameAnswering.{IsToldBy}
use Rattle.ps_reach.specs.Comparing.{Two}
use Rattle.ps_bench_never.specs.SameTelling.{apart_text}
use Rattle.ps_bench_never.specs.declared.same_answering.Told.{Told}

-- The scans of a run are told with one output, which after them is TRUE in one application and FALSE in the other.
pub record IsNamed (t : Two) (q : Asked) (path text : List ℕ) : Type 0 where
  pub values : List Bool
  pub others : List Bool
  pub place : ℕ
  pub first : (ws : List State) → Meaning t.net (items_of t.net q path) ws → values ≡ outputs_left t.net ws
  pub second : (vs : List State) → Meaning t.other (items_of t.net q path) vs → others ≡ outputs_left t.other vs
  pub within : place < length t.net.outputs
  pub differs : unlike (slice_index_or values place false) (slice_index_or others place false) ≡ true
  pub tells : text ≡ apart_text t q path values others place

-- What is told of a difference names an output that differs after the scans that are told.
abbrev pub NamedDiffers : Type 0
NamedDiffers = (t : Two) (file : RulesFile) (told : Told) → HaveAsMany t.net t.other → (is : IsToldBy t file told) →
    (path : Path) → is.path ≡ Some path → IsNamed t is.asked path.inputs.items told.text
