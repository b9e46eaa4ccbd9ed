use Rattle.std.proofs.Common.{refl, sym, arith, true≢false}
use Rattle.ps_lsp_rpc.proofs.Saying.{not_named, said, says_none}
use Rattle.ps_lsp_rpc.proofs.heads.length_in.Goals as goal

pub returns-then-eq_ignore_ascii_case : goal.returns-then-eq_ignore_ascii_case
returns-then-eq_ignore_ascii_case c = record {
  some =
      said c.args.line.now c.split_at.result.0.now c.split_at.result.1.now c.trim_ascii.result.now c.number_in.result
      c.split_at.ensures.by_index.0 (c.if-eq_ignore_ascii_case.ensures.test.0 refl) c.trim_ascii.ensures.value
      c.number_in.ensures.some c.number_in.ensures.small;
  none =
      says_none c.args.line.now c.split_at.result.0.now c.split_at.result.1.now c.trim_ascii.result.now c.number_in.result
      c.split_at.ensures.by_index.0 (c.if-eq_ignore_ascii_case.ensures.test.0 refl) c.trim_ascii.ensures.value
      c.number_in.ensures.none;
}

pub returns-else-eq_ignore_ascii_case : goal.returns-else-eq_ignore_ascii_case
returns-else-eq_ignore_ascii_case c = record {
  some = tt;
  none = λ n. not_named c.args.line.now c.split_at.result.0.now c.split_at.result.1.now n c.split_at.ensures.by_index.0
      (λ long. omega arith) (λ same. true≢false (sym (c.if-eq_ignore_ascii_case.ensures.test.1 same)));
}
