-- The fault that a trial makes.
use Rattle.std.specs.Prelude.{ℕ, List, [], ◌∷◌}
use Rattle.ps_model.specs.declared.channel.Channel.{Channel}
use Rattle.ps_model.specs.declared.channel.Channel.TheVariants.{A, B}
use Rattle.ps_model.specs.declared.channel.Fault.{Fault}
use Rattle.ps_bench_trials.specs.Bytes.{byte_left}
use Rattle.ps_bench_trials.specs.declared.drawing.Trial.{Trial}

-- the code of a channel, where these are the codes of both as compiled
abbrev pub code_of : (code_a code_b : List ℕ) → Channel → List ℕ
code_of code_a code_b A = code_a
code_of code_a code_b B = code_b

-- the fault of a trial, where these are the codes of both channels as compiled: one byte is replaced
abbrev pub fault_by : (code_a code_b : List ℕ) → Trial → Fault
fault_by code_a code_b t = record {
  scan = t.scan;
  turn = t.turn;
  channel = t.channel;
  region = t.region;
  at = t.at;
  bytes = byte_left (code_of code_a code_b t.channel) t.region t.at t.bits ∷ [];
}
