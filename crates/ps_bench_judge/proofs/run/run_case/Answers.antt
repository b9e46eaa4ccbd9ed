use Rattle.std.proofs.Common.{◌≡◌, ◌∙◌, ◌++◌, ℕ, Bool, List, false, replicate, sym, ap, subst}
use Rattle.std.specs.Prelude.{All}
use Rattle.ps_model.specs.declared.channel.Fault.{Fault}
use Rattle.ps_model.specs.declared.report.Scan.{Scan}
use Rattle.ps_model.specs.Network.{input_count}
use Rattle.ps_trace.specs.FaultOrder.{AreInOrder, AreOfOneChannel}
use Rattle.ps_bench_cases.specs.declared.case.Statement.{Statement}
use Rattle.ps_bench_cases.specs.Meant.{faults_in, times_in, whole_case}
use Rattle.ps_bench_judge.specs.CaseRuns.{Task, tasks_from}
use Rattle.ps_bench_judge.specs.Rigs.{Goes, IsFirst, RiseFrom, SetsInputs, last_of, set_through}
use Rattle.ps_bench_judge.proofs.Judged.{judged, goes_whole, passes_exactly}
use Rattle.ps_bench_judge.proofs.Tasks.{all_first, all_rest, both_rise, faults_in-append}
use Rattle.ps_bench_judge.proofs.run.run_case.Goals as goal

pub build-requires-clause-ordered : goal.build-requires-clause-ordered
build-requires-clause-ordered c =
    let begin = c.args.file.now.begin in
    let own = c.args.case.now.statements in
    subst (λ (faults : List Fault). AreInOrder faults)
    (faults_in-append begin own ∙ (λ i. faults_in (sym c.as_slice-begin.ensures i) ++ faults_in (sym c.as_slice-own.ensures i)) ∙ sym c.in_ok-faults_of.ensures)
    c.requires.runnable.ordered

pub build-requires-clause-one_channel : goal.build-requires-clause-one_channel
build-requires-clause-one_channel c =
    let begin = c.args.file.now.begin in
    let own = c.args.case.now.statements in
    subst (λ (faults : List Fault). AreOfOneChannel faults)
    (faults_in-append begin own ∙ (λ i. faults_in (sym c.as_slice-begin.ensures i) ++ faults_in (sym c.as_slice-own.ensures i)) ∙ sym c.in_ok-faults_of.ensures)
    c.requires.runnable.one_channel

pub do_statements-requires-clause-inputs : goal.do_statements-requires-clause-inputs
do_statements-requires-clause-inputs c =
    subst (λ (ss : List Statement). All (SetsInputs c.args.app.now) ss) (sym c.as_slice-begin.ensures)
    (all_first (SetsInputs c.args.app.now) c.args.file.now.begin c.args.case.now.statements c.requires.runnable.inputs)

pub do_statements-requires-clause-rising : goal.do_statements-requires-clause-rising
do_statements-requires-clause-rising c =
    let time_is : c.in_ok-rig.rig.scan.now ≡ 0 = ap (λ (s : Scan). s.now) c.in_ok-rig.ensures.first.inputs in
    subst (λ (t : ℕ). RiseFrom t (times_in c.as_slice-begin.result.now)) (sym time_is)
    (subst (λ (ss : List Statement). RiseFrom 0 (times_in ss)) (sym c.as_slice-begin.ensures)
    (both_rise c.args.file.now.begin c.args.case.now.statements c.requires.runnable.rising).0)

pub do_statements-requires-2-clause-inputs : goal.do_statements-requires-2-clause-inputs
do_statements-requires-2-clause-inputs c =
    subst (λ (ss : List Statement). All (SetsInputs c.args.app.now) ss) (sym c.as_slice-own.ensures)
    (all_rest (SetsInputs c.args.app.now) c.args.file.now.begin c.args.case.now.statements c.requires.runnable.inputs)

pub do_statements-requires-2-clause-rising : goal.do_statements-requires-2-clause-rising
do_statements-requires-2-clause-rising c =
    let time_is : c.in_ok-rig.rig.scan.now ≡ 0 = ap (λ (s : Scan). s.now) c.in_ok-rig.ensures.first.inputs in
    let last_is : c.do_statements.new.rig.scan.now ≡ last_of 0 (times_in c.args.file.now.begin) =
    ap (λ (s : Scan). s.now) c.in_ok-do_statements.ensures.scan ∙ (λ i. last_of (time_is i) (times_in (c.as_slice-begin.ensures i))) in
    subst (λ (t : ℕ). RiseFrom t (times_in c.as_slice-own.result.now)) (sym last_is)
    (subst (λ (ss : List Statement). RiseFrom (last_of 0 (times_in c.args.file.now.begin)) (times_in ss)) (sym c.as_slice-own.ensures)
    (both_rise c.args.file.now.begin c.args.case.now.statements c.requires.runnable.rising).1)

pub returns-clause-judged : goal.returns-clause-judged
returns-clause-judged c =
    let net = c.args.app.now in
    let begin = c.args.file.now.begin in
    let own = c.args.case.now.statements in
    let rig = c.in_ok-rig.rig in
    let mid = c.do_statements.new.rig in
    let last = c.do_statements-2.new.rig in
    let blank : List Bool = replicate (input_count net) false in
    let faults_are : c.in_ok-faults_of.field-0 ≡ faults_in (whole_case c.args.file.now c.args.case.now) =
    c.in_ok-faults_of.ensures ∙ (λ i. faults_in (c.as_slice-begin.ensures i) ++ faults_in (c.as_slice-own.ensures i)) ∙ sym (faults_in-append begin own) in
    let ins_are : rig.scan.ins ≡ blank = ap (λ (s : Scan). s.ins) c.in_ok-rig.ensures.first.inputs in
    let mid_are : mid.scan.ins ≡ set_through blank begin =
    ap (λ (s : Scan). s.ins) c.in_ok-do_statements.ensures.scan ∙ (λ i. set_through (ins_are i) (c.as_slice-begin.ensures i)) in
    judged net (whole_case c.args.file.now c.args.case.now) rig last c.new-judge.result c.do_statements-2.new.judge c.in_ok-finish.field-0.items
    (subst (λ (faults : List Fault). IsFirst net faults rig) faults_are c.in_ok-rig.ensures.first)
    c.requires.runnable.rising
    (goes_whole net blank begin own rig mid last c.new-judge.result c.do_statements.new.judge c.do_statements-2.new.judge
    (subst (λ (ss : List Statement). (later : List Task) → Goes net (tasks_from blank ss ++ later) rig c.new-judge.result later mid c.do_statements.new.judge) c.as_slice-begin.ensures
    (subst (λ (ins : List Bool). (later : List Task) → Goes net (tasks_from ins c.as_slice-begin.result.now ++ later) rig c.new-judge.result later mid c.do_statements.new.judge) ins_are
    c.in_ok-do_statements.ensures.goes))
    (subst (λ (ss : List Statement). (later : List Task) → Goes net (tasks_from (set_through blank begin) ss ++ later) mid c.do_statements.new.judge later last c.do_statements-2.new.judge) c.as_slice-own.ensures
    (subst (λ (ins : List Bool). (later : List Task) → Goes net (tasks_from ins c.as_slice-own.result.now ++ later) mid c.do_statements.new.judge later last c.do_statements-2.new.judge) mid_are
    c.in_ok-do_statements-2.ensures.goes)))
    (λ p events. c.new-judge.ensures net p events)
    (λ p m is. c.in_ok-finish.ensures net p m is)

pub returns-clause-passes : goal.returns-clause-passes
returns-clause-passes c =
    passes_exactly c.args.app.now (whole_case c.args.file.now c.args.case.now) c.in_ok-finish.field-0.items (returns-clause-judged c)
