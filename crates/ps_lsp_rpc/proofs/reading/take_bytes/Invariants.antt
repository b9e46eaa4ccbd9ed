use Rattle.std.proofs.Common.{◌≡◌, ◌≤◌, ◌++◌, ◌-◌, IsTrue, length}
use Rattle.ps_lsp_rpc.proofs.reading.take_bytes.Given as goal

abbrev pub invariant-bytes : goal.invariant-bytes
invariant-bytes g l = record {
  few : length l.bytes ≤ l.count;
  taken : IsTrue (g.I.Incoming.tells l.initial.input) → g.I.Incoming.ahead l.initial.input ≡ l.bytes ++ g.I.Incoming.ahead l.input;
  telling : g.I.Incoming.tells l.input ≡ g.I.Incoming.tells l.initial.input;
}

abbrev pub decreases-bytes : goal.decreases-bytes
decreases-bytes g l = l.count - length l.bytes
