use Rattle.std.proofs.Common.{◌≡◌, drop}
use Rattle.std.specs.Prelude.{option_map}
use Rattle.ps_bench_report.specs.Changes.{changes_from, changes_text}
use Rattle.ps_bench_report.proofs.changes.changes_of.Given as goal

abbrev pub invariant-loop-number : goal.invariant-loop-number
invariant-loop-number l =
    changes_from l.app (option_map (λ m. m.now) l.before) l.moment l.words l.number (drop l.number l.names)
    ≡ changes_text l.app l.names (option_map (λ m. m.now) l.before) l.moment
