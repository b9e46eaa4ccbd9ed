-- Counts that a campaign can write, all of which their text tells.
use Rattle.std.specs.Prelude.{◌≡◌, ◌≢◌, ℕ, false, true, List, replicate, slice_index_or}
use Rattle.ps_bench_trials.specs.declared.line.Line.{Line}
use Rattle.ps_bench_trials.specs.Lines.{no_trial}
use Rattle.ps_bench_trials.specs.Possible.{is_possible}
use Rattle.ps_bench_trials.specs.Telling.{is_of_trips}

-- a line of so many trials, none of which tripped
abbrev pub of_count : (count : ℕ) → Line
of_count count = record { count = count; sum = 0; largest = 0; table = replicate 33 0 }

-- The line of a place has no latencies where it has no trial, or is of no trips; else some trips have those that it has.
abbrev pub IsPlain : Line → (place : ℕ) → Type 0
IsPlain l place =
    (l.count ≡ 0 → l ≡ no_trial) × (is_of_trips place ≡ false → l ≡ of_count l.count)
    × (is_of_trips place ≡ true → l.count ≢ 0 → is_possible l ≡ true)

-- each line is so: the text of a tally leaves nothing out of it, and some trials have it
abbrev pub ArePlain : List Line → Type 0
ArePlain lines = (place : ℕ) → IsPlain (slice_index_or lines place no_trial) place
