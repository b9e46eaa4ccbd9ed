use Rattle.std.proofs.Common.{◌≡◌, ◌≤◌, ◌-◌, length, drop, fold}
use Rattle.ps_trace.specs.Words.{words}
use Rattle.ps_bench_cases.specs.Parts.{and_then}
use Rattle.ps_bench_names.specs.Words.{counted}
use Rattle.ps_bench_cases.specs.Words.{setting_said}
use Rattle.ps_bench_cases.specs.Line.{settings_said}
use Rattle.ps_bench_cases.proofs.checks.settings_said.Given as goal

-- what was found, and the words that are left behind it
abbrev pub invariant-words : goal.invariant-words
invariant-words l = record {
  within : l.next ≤ length l.line;
  found : fold (λ found word. and_then found (setting_said l.app word)) l.found (counted (words (drop l.next l.line))) ≡ settings_said l.app (counted (words (drop l.at l.line)));
}

abbrev pub decreases-words : goal.decreases-words
decreases-words l = length l.line - l.next
