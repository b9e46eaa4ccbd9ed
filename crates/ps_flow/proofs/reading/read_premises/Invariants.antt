use Rattle.std.proofs.Common.{◌≡◌, ◌+◌, ◌<◌, ◌^◌, ◌++◌, ℕ, map, length, List, Option, Some, None}
use Rattle.std.specs.Prelude.{All, decimal, option_copied}
use Rattle.ps_flow.specs.Words.{words_left}
use Rattle.ps_flow.proofs.reading.read_premises.Given as goal

-- the words that were read say these numbers, and the others are left
abbrev pub invariant-loop-left : goal.invariant-loop-left
invariant-loop-left l = record {
  words : words_left (option_copied l.fn.words) ≡ map decimal l.premises ++ words_left (option_copied l.left);
  small : All (λ p. p < 2 ^ 32) l.premises;
}

abbrev bytes_left : Option (List ℕ) → ℕ
bytes_left None = 0
bytes_left (Some line) = length line + 1

abbrev pub decreases-loop-left : goal.decreases-loop-left
decreases-loop-left l = bytes_left (option_copied l.left)
