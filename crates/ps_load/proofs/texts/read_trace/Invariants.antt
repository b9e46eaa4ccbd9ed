use Rattle.std.proofs.Common.{◌≡◌, ◌≤◌, ◌-◌, take, drop}
use Rattle.ps_load.specs.Texts.{trace_text}
use Rattle.ps_load.proofs.texts.read_trace.Given as goal

abbrev pub invariant-lines : goal.invariant-lines
invariant-lines l = record {
  within : l.done ≤ l.most;
  bytes : take l.done l.buf ≡ take l.done (drop l.at (trace_text l.number));
}

abbrev pub decreases-lines : goal.decreases-lines
decreases-lines l = l.most - l.done
