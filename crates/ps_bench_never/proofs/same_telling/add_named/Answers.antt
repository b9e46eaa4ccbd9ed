use Rattle.ps_bench_never.proofs.same_telling.add_named.Goals as goal

pub add_case-requires : goal.add_case-requires
add_case-requires c = c.requires.few
