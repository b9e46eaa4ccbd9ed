use Rattle.std.proofs.Common.{◌≡◌, ◌++◌, drop, map, false}
use Rattle.std.specs.Prelude.{slice_index_or}
use Rattle.ps_why.specs.FactsRead.{fact_of_read}
use Rattle.ps_why.proofs.scene_reading.read_facts.Given as goal

-- the facts so far, and those of the signals that are left
abbrev pub invariant-loop-s : goal.invariant-loop-s
invariant-loop-s l =
    l.facts.items ++ map (λ s. fact_of_read l.app l.k s (slice_index_or l.read s false)) (drop l.s-index l.signals)
    ≡ map (λ s. fact_of_read l.app l.k s (slice_index_or l.read s false)) l.signals
