-- The lines of the faults of trials, one after another.
use Rattle.std.proofs.Common.{◌+◌, ℕ, List}
use Rattle.ps_bench_campaign.specs.Printing.{fault_text}
use Rattle.ps_bench_trials.specs.Faults.{fault_by}
use Rattle.ps_bench_trials.specs.Trials.{trial_of}
use Rattle.ps_bench_trials.specs.declared.drawing.Room.{Room}

-- the line of a trial, by how many are before it
abbrev pub line_of : (code_a code_b : List ℕ) → Room → (from k : ℕ) → List ℕ
line_of code_a code_b room from k = fault_text (fault_by code_a code_b (trial_of room (from + k)))
