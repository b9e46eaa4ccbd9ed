use Rattle.std.proofs.Common.{◌≡◌, ℕ, List, ◌+◌, ◌-◌, ◌++◌, eqb, flat_map}
use Rattle.std.specs.List.{range_with_len}
use Rattle.ps_findings.specs.Said.{HasSaid}
use Rattle.ps_findings.specs.Usage.{count_taken, led, word_of}
use Rattle.ps_findings.proofs.usage.add_row.Given as goal

-- what is told of the words so far, and what is left of them, is what is told of all
abbrev pub invariant-loop-place : goal.invariant-loop-place
invariant-loop-place l =
    (more : List ℕ) × HasSaid more l.initial.telling l.telling
    × (more ++ flat_map (λ place. led (eqb place (count_taken l.row + 1)) (word_of l.row place)) (range_with_len l.place (10 - l.place))
    ≡ flat_map (λ place. led (eqb place (count_taken l.row + 1)) (word_of l.row place)) (range_with_len 1 9))
