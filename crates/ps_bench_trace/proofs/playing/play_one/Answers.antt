use Rattle.std.proofs.Common.{◌∙◌, ◌++◌, sym}
use Rattle.std.proofs.lemmas.List.Elements.{filter_map-append}
use Rattle.ps_bench_cases.specs.Meant.{fault_made, faults_in}
use Rattle.ps_bench_cases.specs.declared.case.Statement.{Statement}
use Rattle.ps_bench_trace.proofs.playing.play_one.Goals as goal

pub returns-clause-faults : goal.returns-clause-faults
returns-clause-faults c =
    c.in_ok-faults_of.ensures
    ∙ (λ i. faults_in (c.as_slice.ensures i) ++ faults_in (c.as_slice-2.ensures i))
    ∙ sym (filter_map-append (λ (s : Statement). fault_made s.act) c.args.file.now.begin c.args.case.now.statements)
