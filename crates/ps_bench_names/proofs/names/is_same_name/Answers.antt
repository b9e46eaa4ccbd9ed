use Rattle.std.proofs.Common.{sym}
use Rattle.ps_trace.proofs.HeaderLemmas.{same_name}
use Rattle.ps_bench_names.proofs.names.is_same_name.Goals as goal

pub returns : goal.returns
returns c = sym (same_name c.eq_ignore_ascii_case.result c.args.word.now c.args.name.now c.eq_ignore_ascii_case.ensures.test)
