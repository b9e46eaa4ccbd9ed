use Rattle.std.proofs.Common.{◌≡◌, ◌≤◌, ◌<◌, ◌++◌, ◌-◌, ℕ, IsTrue, length, take, false}
use Rattle.ps_lsp_rpc.specs.Frames.{is_whole}
use Rattle.ps_lsp_rpc.specs.declared.reading.TheConstants.{LONGEST_HEAD}
use Rattle.ps_lsp_rpc.proofs.reading.take_head.Given as goal

abbrev pub invariant-head : goal.invariant-head
invariant-head g l = record {
  few : length l.bytes ≤ LONGEST_HEAD;
  taken : IsTrue (g.I.Incoming.tells l.initial.input) → g.I.Incoming.ahead l.initial.input ≡ l.bytes ++ g.I.Incoming.ahead l.input;
  first : (k : ℕ) → k < length l.bytes → is_whole (take k l.bytes) ≡ false;
  telling : g.I.Incoming.tells l.input ≡ g.I.Incoming.tells l.initial.input;
}

abbrev pub decreases-head : goal.decreases-head
decreases-head g l = LONGEST_HEAD - length l.bytes
