-- The scans and restarts of all cases of a file in one trace.
use Rattle.std.specs.Prelude.{ℕ, ◌+◌, List, [], ◌∷◌, ◌++◌, map}
use Rattle.ps_model.specs.Meaning.{Item, After}
use Rattle.ps_model.specs.Meaning.Item.{scan, restart}
use Rattle.ps_model.specs.Meaning.After.{nothing, last}
use Rattle.ps_model.specs.Network.{Network, input_count}
use Rattle.ps_bench_cases.specs.declared.case.Case.{Case}
use Rattle.ps_bench_cases.specs.declared.case.CaseFile.{CaseFile}
use Rattle.ps_bench_cases.specs.declared.case.Statement.{Statement}
use Rattle.ps_bench_cases.specs.Meant.{items_of}
use Rattle.ps_bench_cases.specs.Expanded.{end_point}

-- a scan so many ms later; a restart has no time
abbrev pub later_item : (by : ℕ) → Item → Item
later_item by (scan now ins) = scan (now + by) ins
later_item by restart = restart

-- scans and restarts so many ms later
abbrev pub later : (by : ℕ) → List Item → List Item
later by items = map (later_item by) items

-- what a scan starts from that comes so many ms later
abbrev pub later_past : {W : Type 0} → (by : ℕ) → After W → After W
later_past by nothing = nothing
later_past by (last now w) = last (now + by) w

-- Cases from this time on, with these items before the first of them and a restart before each other. A case begins at
-- the last time of the case before it.
abbrev pub joined : Network → (begin : List Statement) → (lead : List Item) → (base : ℕ) → List Case → List Item
joined net begin lead base [] = []
joined net begin lead base (c ∷ cases) =
    (lead ++ later base (items_of net (begin ++ c.statements)))
    ++ joined net begin (restart ∷ []) (base + (end_point (input_count net) base (begin ++ c.statements)).time) cases

-- the scans and restarts of all cases in one trace
abbrev pub items_of_file : Network → CaseFile → List Item
items_of_file net file = joined net file.begin [] 0 file.cases
