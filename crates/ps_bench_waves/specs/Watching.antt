-- What is written of a whole run.
use Rattle.std.specs.Prelude.{ℕ, Bool, true, false, List, [], ◌∷◌, ◌++◌, map, Option, Some, None, option_map}
use Rattle.ps_bench_names.specs.declared.name.Name.{Name}
use Rattle.ps_bench_judge.specs.Runs.{moments_of}
use Rattle.ps_bench_judge.specs.Moments.{Moment}
use Rattle.ps_bench_judge.specs.Named.{value_in}
use Rattle.ps_model.specs.Meaning.{Item, nothing}
use Rattle.ps_model.specs.Meaning.Item.{scan, restart}
use Rattle.ps_model.specs.Network.{Network}
use Rattle.ps_model.specs.Scanning.{State}
use Rattle.ps_world.specs.Answers.{Answer}
use Rattle.ps_bench_waves.specs.Lines.{Cell, head_text, restart_text, scan_text}
use Rattle.ps_bench_waves.specs.declared.format.Format.{Format}

-- what was seen before a scan: the last scan, where there is one since the beginning or a restart; and whether this is
-- the first scan after a restart
pub record Before : Type 0 where
  pub last : Option Moment
  pub is_restarted : Bool

-- no scan was made
abbrev pub at_first : Before
at_first = record { last = None; is_restarted = false }

-- all began anew
abbrev pub at_restart : Before
at_restart = record { last = None; is_restarted = true }

-- this scan was made
abbrev pub behind_scan : Moment → Before
behind_scan m = record { last = Some m; is_restarted = false }

-- a name with its values, after the scan before and in this one
abbrev pub cell_in : Network → Before → Moment → Name → Cell
cell_in net b m name = record {
  name = name;
  before = option_map (λ (last : Moment). value_in net last name) b.last;
  value = value_in net m name;
}

-- what is written of a scan of which this is seen
abbrev pub moment_text : Network → Format → List Name → Before → Moment → List ℕ
moment_text net format names b m = scan_text net format m.now b.is_restarted m.verdict (map (cell_in net b m) names)

-- What is written of items, of whose scans this is seen, after what was seen before: of a scan what stands for it
-- there, and of a restart a line.
abbrev pub written_of : {B : Type 0} → (told_of : B → Moment → List ℕ) (seen_then : B → Moment → B) (line : List ℕ)
    (anew_from : B → B) → B → List Item → List Moment → List ℕ
written_of told_of seen_then line anew_from b [] ms = []
written_of told_of seen_then line anew_from b (restart ∷ items) ms =
    line ++ written_of told_of seen_then line anew_from (anew_from b) items ms
written_of told_of seen_then line anew_from b (scan now ins ∷ items) [] = []
written_of told_of seen_then line anew_from b (scan now ins ∷ items) (m ∷ ms) =
    told_of b m ++ written_of told_of seen_then line anew_from (seen_then b m) items ms

-- the same in a format
abbrev pub items_text : Network → Format → List Name → Before → List Item → List Moment → List ℕ
items_text net format names b items ms =
    written_of (moment_text net format names) (λ before m. behind_scan m) (restart_text format) (λ before. at_restart)
    b items ms

-- What is written of a run over these items, whose scans have these answers and mean these states.
abbrev pub watch_text : Network → Format → List Name → List Item → List Answer → List State → List ℕ
watch_text net format names items answers ws =
    head_text net format names
    ++ items_text net format names at_first items (moments_of net nothing items answers ws)
