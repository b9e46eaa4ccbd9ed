use Rattle.ps_bench_names.proofs.CaseNames.{name_is_utf8}
use Rattle.ps_bench_cases.proofs.draft.label.Goals as goal

pub returns-in-Err : goal.returns-in-Err
returns-in-Err c = absurd (c.in-Err.ensures.cases.0 (name_is_utf8 c.args.name.now c.requires))
