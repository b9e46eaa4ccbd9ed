use Rattle.std.proofs.Common.{◌≡◌, ◌≤◌, ◌-◌, length, drop, fold, Ok, []}
use Rattle.ps_trace.specs.Words.{words}
use Rattle.ps_bench_cases.specs.Parts.{and_then}
use Rattle.ps_bench_names.specs.Words.{counted}
use Rattle.ps_bench_cases.specs.Line.{check_said}
use Rattle.ps_bench_cases.proofs.checks.checks_said.Given as goal

-- what was found, and the words that are left behind it
abbrev pub invariant-words : goal.invariant-words
invariant-words l = record {
  within : l.next ≤ length l.line;
  found : fold (λ found word. and_then found (check_said l.app word)) l.found (counted (words (drop l.next l.line)))
      ≡ fold (λ found word. and_then found (check_said l.app word)) (Ok []) (counted (words (drop l.at l.line)));
}

abbrev pub decreases-words : goal.decreases-words
decreases-words l = length l.line - l.next
