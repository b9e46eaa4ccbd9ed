-- The scans and restarts of a course.
use Rattle.std.specs.Prelude.{List, map}
use Rattle.ps_model.specs.Meaning.{Item, scan, restart}
use Rattle.ps_bench_trials.specs.declared.step.Step.{Step}
use Rattle.ps_bench_trials.specs.declared.step.Step.TheVariants.{Scanned, Anew}

-- the scan or restart that a step is
abbrev pub item_of : Step → Item
item_of (Scanned s meant) = scan s.now s.ins
item_of Anew = restart

-- the scans and restarts of steps
abbrev pub items_in : List Step → List Item
items_in steps = map item_of steps
