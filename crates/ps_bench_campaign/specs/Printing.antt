-- The faults of trials, each as a line of a fault file.
use Rattle.std.specs.Prelude.{ℕ, List, ◌+◌, ◌++◌, codes, decimal}
use Rattle.std.specs.List.{flat_map, range_with_len}
use Rattle.hex.specs.Hex.{encode_lower}
use Rattle.ps_bench_cases.specs.Expanded.{region_text, turn_text}
use Rattle.ps_model.specs.declared.channel.Fault.{Fault}
use Rattle.ps_bench_trials.specs.Faults.{fault_by}
use Rattle.ps_bench_trials.specs.Trials.{trial_of}
use Rattle.ps_bench_trials.specs.declared.drawing.Room.{Room}

-- when a fault strikes: before its scan, or before a turn of it
abbrev pub moment_text : (scan turn : ℕ) → List ℕ
moment_text scan turn = codes "before " ++ decimal scan ++ codes " " ++ turn_text turn

-- what it strikes, and what stands there then
abbrev pub target_text : Fault → List ℕ
target_text f = region_text f.channel f.region ++ decimal f.at ++ codes " " ++ encode_lower f.bytes ++ codes "\n"

-- the line of a fault, as `before 8 turn 3 A code 53 05`
abbrev pub fault_text : Fault → List ℕ
fault_text f = moment_text f.scan f.turn ++ target_text f

-- the lines of the faults of so many trials, from this number on, where these are the codes of both channels
abbrev pub faults_text : (code_a code_b : List ℕ) → Room → (from count : ℕ) → List ℕ
faults_text code_a code_b room from count =
    flat_map (λ k. fault_text (fault_by code_a code_b (trial_of room (from + k)))) (range_with_len 0 count)
