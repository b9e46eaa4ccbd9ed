use Rattle.std.proofs.Common.{◌≡◌, drop, find, map}
use Rattle.ps_findings.specs.Usage.{names_no_file}
use Rattle.ps_findings.proofs.usage.first_wrong.Given as goal

abbrev pub invariant-loop-word : goal.invariant-loop-word
invariant-loop-word l =
    find names_no_file (map (λ w. w.now) (drop l.word-index l.words)) ≡ find names_no_file (map (λ w. w.now) l.words)
