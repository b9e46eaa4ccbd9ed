use Rattle.std.proofs.Common.{ℕ, List, subst, arith}
use Rattle.ps_lsp_rpc.specs.Frames.{SaysLength}
use Rattle.ps_lsp_rpc.proofs.Lengths.{none_more}
use Rattle.ps_lsp_rpc.proofs.heads.length_said.Goals as goal

pub lines-preserved : goal.lines-preserved
lines-preserved c = record {
  none =
      none_more c.args.head.now c.lines.number c.lines.invariant.none
      (subst (λ (t : List ℕ). (n : ℕ) → ¬ (SaysLength t n)) c.line_at.ensures c.in-None.ensures.none);
}

pub returns-clause-none : goal.returns-clause-none
returns-clause-none c = λ k n from below. c.lines.invariant.none k n from (omega arith)
