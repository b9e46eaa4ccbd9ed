use Rattle.ps_lsp_rpc.specs.Frames.{SaysNoneBefore}
use Rattle.ps_lsp_rpc.proofs.heads.length_said.Given as goal

abbrev pub invariant-lines : goal.invariant-lines
invariant-lines l = record { none : SaysNoneBefore l.head l.number }
