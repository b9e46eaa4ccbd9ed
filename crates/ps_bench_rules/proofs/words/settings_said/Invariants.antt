use Rattle.std.proofs.Common.{◌≡◌, ◌≤◌, ◌-◌, length, drop, fold}
use Rattle.ps_trace.specs.Words.{words}
use Rattle.ps_bench_rules.specs.Parts.{and_then, so_far}
use Rattle.ps_bench_names.specs.Words.{counted}
use Rattle.ps_bench_rules.specs.Words.{setting_said, settings_said}
use Rattle.ps_bench_rules.proofs.words.settings_said.Given as goal

-- what was found, and the words that are left behind it
abbrev pub invariant-words : goal.invariant-words
invariant-words l = record {
  within : l.next ≤ length l.line;
  found : fold (λ found word. and_then found (setting_said l.app word)) (so_far l.flaw l.settings) (counted (words (drop l.next l.line))) ≡ settings_said l.app (counted (words (drop l.at l.line)));
}

abbrev pub decreases-words : goal.decreases-words
decreases-words l = length l.line - l.next
