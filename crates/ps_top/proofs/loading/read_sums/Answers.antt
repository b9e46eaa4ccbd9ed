use Rattle.std.proofs.Common.{◌≡◌, ◌≤◌, ◌∙◌, [], List, true, Err, length, ap, subst, sym, refl, arith}
use Rattle.std.specs.Prelude.{codes, is_some}
use Rattle.ps_load.proofs.Parts.{trace_length}
use Rattle.ps_load.specs.Holding.{held_of}
use Rattle.ps_load.specs.Texts.{trace_text}
use Rattle.ps_model.specs.declared.channel.Fault.{Fault}
use Rattle.ps_runs.specs.Resting.{ran}
use Rattle.ps_trace.specs.Reading.{items_left, only_refused}
use Rattle.ps_trace.specs.Scans.{Scans, scans_behind, scans_of}
use Rattle.ps_world.specs.Whole.{machines_in}
use Rattle.ps_top.specs.Asking.{worked}
use Rattle.ps_runs.specs.Tripping.{first_trip}
use Rattle.ps_top.specs.Calls.{SaysAnswer, with_left}
use Rattle.ps_top.specs.Program.{sum_scans, with_world}
use Rattle.ps_top.specs.Resting.{load_answer}
use Rattle.ps_top.proofs.Calling.{memory_answers, passes_left, refuses_leaving, says_leaving}
use Rattle.ps_top.proofs.Counted.{load_answers, never_fails}
use Rattle.ps_top.proofs.Few.{items_few}
use Rattle.ps_top.proofs.Timely.{scans_timely}
use Rattle.ps_top.proofs.loading.read_sums.Goals as goal

pub returns-in-Ok-clause-answers : goal.returns-in-Ok-clause-answers
returns-in-Ok-clause-answers g c = λ behind world refusal.
    let net = c.args.app.now in
    let n = c.args.number in
    let text = trace_text n in
    let w = c.args.runner.now.performer.world in
    let scans = scans_of text net in
    let old = g.C.Call.seen c.args.call.now in
    let m = machines_in w.setup in
    let new = g.C.Call.seen c.sum_scans.new.call in
    let few : length scans.items ≤ 27000041 = omega (arith, items_few text net, trace_length n, c.requires.last) in
    let same : items_left c.in-Ok.reader text ≡ scans = c.in-Ok.ensures.begins refl text c.requires.held in
    let says : SaysAnswer (load_answer n net [] w scans) old new c.sum_scans.result =
    subst (λ (s : Scans). SaysAnswer (load_answer n net [] w s) old new c.sum_scans.result) same
    (subst (λ (fs : List Fault). SaysAnswer (load_answer n net fs w (items_left c.in-Ok.reader text)) old new c.sum_scans.result) c.requires.quiet c.sum_scans.ensures.says) in
    load_answers net c.sound.ensures n w c.requires.first.world (c.quiet_runs_release.ensures c.requires.accepted w.setup c.requires.first.world.setup) scans (scans_timely text net) few
    {old = old} {new = with_left behind new} (says_leaving behind says) (refuses_leaving new.left behind new.out c.sum_scans.result refusal c.sum_scans.ensures.refuses)
    (λ not_cut.
    let ends = c.sum_scans.ensures.ends not_cut in
    world ∙ (λ i. with_world (ends.world i) (ends.trip i) (c.sum_scans.ensures.worked i))
    ∙ (λ i. with_world (ran (c.requires.quiet i) 1 (same i).items w) (first_trip m (c.requires.quiet i) 1 (same i).items w.state) (worked old.left)))

pub returns-in-Err-Refused-clause-answers : goal.returns-in-Err-Refused-clause-answers
returns-in-Err-Refused-clause-answers g c = λ behind world refusal.
    let net = c.args.app.now in
    let n = c.args.number in
    let text = trace_text n in
    let w = c.args.runner.now.performer.world in
    let scans = scans_of text net in
    let old = g.C.Call.seen c.args.call.now in
    let m = machines_in w.setup in
    let new = g.C.Call.seen c.say_refused.new.call in
    let few : length scans.items ≤ 27000041 = omega (arith, items_few text net, trace_length n, c.requires.last) in
    let is : scans ≡ only_refused c.in-Err-Refused.refusal =
    ap scans_behind (c.start.ensures.refuses refl text c.requires.held c.in-Err-Refused.refusal (c.in-Err-Refused.is ∙ ap Err c.in-Err-Refused.field-0-is)) in
    let says : SaysAnswer (load_answer n net [] w scans) old new c.say_refused.result =
    subst (λ (s : Scans). SaysAnswer (load_answer n net [] w s) old new c.say_refused.result) (sym is) c.say_refused.ensures.says in
    load_answers net c.sound.ensures n w c.requires.first.world (c.quiet_runs_release.ensures c.requires.accepted w.setup c.requires.first.world.setup) scans (scans_timely text net) few
    {old = old} {new = with_left behind new} (says_leaving behind says) (refuses_leaving new.left behind new.out c.say_refused.result refusal c.say_refused.ensures.refuses)
    (λ not_cut. world ∙ (λ i. with_world w (c.requires.first.no_trip i) (c.say_refused.ensures.worked i))
    ∙ ap (λ (s : Scans). with_world (ran [] 1 s.items w) (first_trip m [] 1 s.items w.state) (worked old.left)) (sym is))

pub returns-in-Err-Memory-clause-answers : goal.returns-in-Err-Memory-clause-answers
returns-in-Err-Memory-clause-answers g c = λ behind world refusal.
    memory_answers (sum_scans c.args.number c.args.app.now c.args.runner.now.performer.world.setup (scans_of (trace_text c.args.number) c.args.app.now)) [] (passes_left behind refl)

pub sum_scans-requires-clause-held : goal.sum_scans-requires-clause-held
sum_scans-requires-clause-held g c = ap (λ held. held (codes "trace")) c.in-Ok.ensures.kept ∙ c.requires.held

pub sum_scans-requires-clause-reading : goal.sum_scans-requires-clause-reading
sum_scans-requires-clause-reading g c = c.in-Ok.ensures.reads refl (trace_text c.args.number) c.requires.held

pub unreachable-requires : goal.unreachable-requires
unreachable-requires g c =
    let now : is_some (held_of c.args.files.now (codes "trace")) ≡ true = ap is_some c.requires.held in
    let later : is_some (held_of c.start.new.files (codes "trace")) ≡ true = ap (λ held. is_some (held (codes "trace"))) c.start.ensures.kept ∙ now in
    never_fails c.args.files.now c.start.new.files (codes "trace") now later (c.start.ensures.fault (c.in-Err-Fault.is ∙ ap Err c.in-Err-Fault.field-0-is))
