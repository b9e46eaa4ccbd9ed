use Rattle.std.proofs.Common.{◌∙◌, List, Bor, sym, ap, subst}
use Rattle.std.specs.Prelude.{option_map}
use Rattle.ps_bench_cases.specs.Meant.{whole_case}
use Rattle.ps_bench_cases.specs.Runnable.{IsRunnable}
use Rattle.ps_bench_cases.specs.declared.case.Case.{Case}
use Rattle.ps_bench_cases.proofs.CaseWith.{has_case_with}
use Rattle.ps_model.specs.declared.channel.Fault.{Fault}
use Rattle.ps_trace.specs.FaultOrder.{AreInOrder, AreOfOneChannel}
use Rattle.ps_bench_trace.proofs.playing.play_with.Goals as goal

pub play_one-requires : goal.play_one-requires
play_one-requires c =
    has_case_with (λ (case : Case). IsRunnable c.args.app.now (whole_case c.args.file.now case)) c.args.line
    c.args.file.now.cases c.in-Some.case.now
    (sym c.case_with_line.ensures ∙ ap (option_map (λ (x : Bor Case). x.now)) c.in-Some.is) c.requires

pub returns-in_ok-play_one-in-Some-clause-ordered : goal.returns-in_ok-play_one-in-Some-clause-ordered
returns-in_ok-play_one-in-Some-clause-ordered c =
    let can = has_case_with (λ (case : Case). IsRunnable c.args.app.now (whole_case c.args.file.now case)) c.args.line
    c.args.file.now.cases c.in-Some.case.now
    (sym c.case_with_line.ensures ∙ ap (option_map (λ (x : Bor Case). x.now)) c.in-Some.is) c.requires in
    subst (λ (faults : List Fault). AreInOrder faults) (sym c.in_ok-play_one-in-Some.ensures.faults) can.ordered

pub returns-in_ok-play_one-in-Some-clause-one_channel : goal.returns-in_ok-play_one-in-Some-clause-one_channel
returns-in_ok-play_one-in-Some-clause-one_channel c =
    let can = has_case_with (λ (case : Case). IsRunnable c.args.app.now (whole_case c.args.file.now case)) c.args.line
    c.args.file.now.cases c.in-Some.case.now
    (sym c.case_with_line.ensures ∙ ap (option_map (λ (x : Bor Case). x.now)) c.in-Some.is) c.requires in
    subst (λ (faults : List Fault). AreOfOneChannel faults) (sym c.in_ok-play_one-in-Some.ensures.faults) can.one_channel
