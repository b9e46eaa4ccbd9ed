use Rattle.std.proofs.Common.{◌≡◌, ◌∙◌, ℕ, List, true, Err, Result, refl, sym, ap, subst, arith}
use Rattle.std.specs.Prelude.{fold, is_some}
use Rattle.ps_load.specs.Holding.{held_of}
use Rattle.ps_load.specs.Texts.{trace_text}
use Rattle.ps_report.specs.Short.{refusal_text}
use Rattle.ps_runs.specs.Counting.{counted, none_counted}
use Rattle.ps_runs.specs.Resting.{answered, outcomes}
use Rattle.ps_runs.specs.declared.items.Cut.{Cut}
use Rattle.ps_runs.proofs.ToCome.{first_stands}
use Rattle.ps_trace.specs.Reading.{file_of, items_left}
use Rattle.ps_top.specs.Asking.{Answer}
use Rattle.ps_top.specs.Calls.{SaysAnswer}
use Rattle.ps_top.specs.Program.{answer}
use Rattle.ps_top.specs.Resting.{counted_answer, load_answer}
use Rattle.ps_top.specs.declared.Status.TheVariants.{Done, BadInput}
use Rattle.ps_top.proofs.Calling.{says_behind, says_nothing, writes_none}
use Rattle.ps_top.proofs.Counted.{CountsAsEnded, loop_counts, never_fails}
use Rattle.ps_top.proofs.loading.sum_scans.Goals as goal

pub returns-in-Ok-clause-says : goal.returns-in-Ok-clause-says
returns-in-Ok-clause-says g c =
    let net = c.args.app.now in
    let n = c.args.number in
    let p = c.args.runner.now.performer in
    let p' = c.do_items_of.new.runner.performer in
    let t' = c.do_items_of.new.runner.taker in
    let scans = items_left c.args.trace.now (trace_text n) in
    let old = g.C.Call.seen c.args.call.now in
    let new = g.C.Call.seen c.say.new.call in
    let held = ap (held_of c.args.files.now) c.requires.file ∙ c.requires.held in
    let came = loop_counts net p p' scans t' c.args.runner.now.taker c.do_items_of.result c.requires.none c.requires.first.no_trip (first_stands net p c.requires.first) (c.do_items_of.ensures.does refl (trace_text n) held c.requires.reading) in
    let ended = subst (λ (e : Result (Unit {0}) Cut). CountsAsEnded net p p' scans t' e) c.in-Ok.is came.1 in
    let said = ap (λ (l : List ℕ). answer l Done) (c.as_slice.ensures ∙ c.summary.ensures) ∙ (λ i. counted_answer n (sym ended.1 i) (ended.0 i)) in
    subst (λ (a : Answer). SaysAnswer a old new c.say.result) said
    (says_behind (λ cut. grind arith) (writes_none (λ is. let both = sym c.in-Ok.is ∙ is in cc) c.do_items_of.ensures.writes) came.0 c.say.ensures.says)

pub returns-in-Err-Refused-clause-says : goal.returns-in-Err-Refused-clause-says
returns-in-Err-Refused-clause-says g c =
    let net = c.args.app.now in
    let n = c.args.number in
    let p = c.args.runner.now.performer in
    let p' = c.do_items_of.new.runner.performer in
    let t' = c.do_items_of.new.runner.taker in
    let scans = items_left c.args.trace.now (trace_text n) in
    let old = g.C.Call.seen c.args.call.now in
    let new = g.C.Call.seen c.say_refused.new.call in
    let held = ap (held_of c.args.files.now) c.requires.file ∙ c.requires.held in
    let is = c.in-Err-Refused.is ∙ ap Err c.in-Err-Refused.field-0-is in
    let came = loop_counts net p p' scans t' c.args.runner.now.taker c.do_items_of.result c.requires.none c.requires.first.no_trip (first_stands net p c.requires.first) (c.do_items_of.ensures.does refl (trace_text n) held c.requires.reading) in
    let ended = subst (λ (e : Result (Unit {0}) Cut). CountsAsEnded net p p' scans t' e) is came.1 in
    let said : answer (refusal_text c.in-Err-Refused.refusal) BadInput ≡ load_answer n net p.faults p.world scans =
    (λ i. counted_answer n (sym ended.0 i) (fold counted none_counted (outcomes scans.items (answered net p.faults 1 scans.items p.world)))) in
    subst (λ (a : Answer). SaysAnswer a old new c.say_refused.result) said
    (says_behind (λ cut. grind arith) (writes_none (λ other. let both = sym is ∙ other in cc) c.do_items_of.ensures.writes) came.0 c.say_refused.ensures.says)

pub returns-in-Err-Unwritten-clause-says : goal.returns-in-Err-Unwritten-clause-says
returns-in-Err-Unwritten-clause-says g c =
    let net = c.args.app.now in
    let n = c.args.number in
    let p = c.args.runner.now.performer in
    let p' = c.do_items_of.new.runner.performer in
    let t' = c.do_items_of.new.runner.taker in
    let scans = items_left c.args.trace.now (trace_text n) in
    let held = ap (held_of c.args.files.now) c.requires.file ∙ c.requires.held in
    let is = c.in-Err-Unwritten.is ∙ ap Err c.in-Err-Unwritten.field-0-is in
    let came = loop_counts net p p' scans t' c.args.runner.now.taker c.do_items_of.result c.requires.none c.requires.first.no_trip (first_stands net p c.requires.first) (c.do_items_of.ensures.does refl (trace_text n) held c.requires.reading) in
    says_nothing (load_answer n net p.faults p.world scans) is c.do_items_of.ensures.writes came.0

pub returns-in-Ok-clause-ends : goal.returns-in-Ok-clause-ends
returns-in-Ok-clause-ends g c = λ not_cut.
    let net = c.args.app.now in
    let p = c.args.runner.now.performer in
    let p' = c.do_items_of.new.runner.performer in
    let t' = c.do_items_of.new.runner.taker in
    let scans = items_left c.args.trace.now (trace_text c.args.number) in
    let held = ap (held_of c.args.files.now) c.requires.file ∙ c.requires.held in
    let came = loop_counts net p p' scans t' c.args.runner.now.taker c.do_items_of.result c.requires.none c.requires.first.no_trip (first_stands net p c.requires.first) (c.do_items_of.ensures.does refl (trace_text c.args.number) held c.requires.reading) in
    (subst (λ (e : Result (Unit {0}) Cut). CountsAsEnded net p p' scans t' e) c.in-Ok.is came.1).2

pub returns-in-Err-Refused-clause-ends : goal.returns-in-Err-Refused-clause-ends
returns-in-Err-Refused-clause-ends g c = λ not_cut.
    let net = c.args.app.now in
    let p = c.args.runner.now.performer in
    let p' = c.do_items_of.new.runner.performer in
    let t' = c.do_items_of.new.runner.taker in
    let scans = items_left c.args.trace.now (trace_text c.args.number) in
    let held = ap (held_of c.args.files.now) c.requires.file ∙ c.requires.held in
    let is = c.in-Err-Refused.is ∙ ap Err c.in-Err-Refused.field-0-is in
    let came = loop_counts net p p' scans t' c.args.runner.now.taker c.do_items_of.result c.requires.none c.requires.first.no_trip (first_stands net p c.requires.first) (c.do_items_of.ensures.does refl (trace_text c.args.number) held c.requires.reading) in
    (subst (λ (e : Result (Unit {0}) Cut). CountsAsEnded net p p' scans t' e) is came.1).1

pub unreachable-requires : goal.unreachable-requires
unreachable-requires g c =
    let trace = file_of c.args.trace.now in
    let now : is_some (held_of c.args.files.now trace) ≡ true = ap is_some (ap (held_of c.args.files.now) c.requires.file ∙ c.requires.held) in
    let later : is_some (held_of c.do_items_of.new.files trace) ≡ true = ap (λ held. is_some (held trace)) c.do_items_of.ensures.kept ∙ now in
    never_fails c.args.files.now c.do_items_of.new.files trace now later (c.do_items_of.ensures.unread (c.in-Err-Unread.is ∙ ap Err c.in-Err-Unread.field-0-is))
