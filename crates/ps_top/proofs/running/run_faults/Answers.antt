use Rattle.std.proofs.Common.{◌≡◌, ◌∷◌, ◌∙◌, [], ℕ, List, Ok, Err, subst}
use Rattle.ps_model.specs.declared.channel.Fault.{Fault}
use Rattle.ps_model.specs.declared.channel.ImageSizes.{ImageSizes}
use Rattle.ps_trace.specs.Faults.{FaultList, faults_of}
use Rattle.ps_world.specs.Whole.{Whole}
use Rattle.ps_top.specs.Asking.{Asking}
use Rattle.ps_top.specs.Calls.{Answers}
use Rattle.ps_top.specs.Opening.{GivesFaults}
use Rattle.ps_top.specs.Program.{region_sizes, run_named}
use Rattle.ps_top.proofs.Faulted.{sizes_at_first, faults_answer, no_faults_answer}
use Rattle.ps_top.proofs.running.run_faults.Goals as goal

pub run_in_world-requires-clause-first : goal.run_in_world-requires-clause-first
run_in_world-requires-clause-first g c = c.new.ensures.begins c.args.app.now c.requires.first

pub returns-in-Ok-clause-answers : goal.returns-in-Ok-clause-answers
returns-in-Ok-clause-answers g c =
    let net = c.args.app.now in
    let trace = c.args.trace.now in
    let name = c.args.faults.now in
    let w : Whole = c.args.world in
    let old = g.C.Call.seen c.args.call.now in
    let mid = g.C.Call.seen c.read_faults.new.self in
    let new = g.C.Call.seen c.run_in_world.new.call in
    let status = c.run_in_world.result in
    let struck : List Fault = c.in-Ok.faults in
    let faults_in : List ℕ → FaultList Fault = λ text. faults_of text (region_sizes w.setup) in
    let next : List Fault → Asking = λ list. run_named net w.setup list trace in
    let same : c.sizes-sizes.result ≡ region_sizes w.setup = c.sizes-sizes.ensures ∙ sizes_at_first w c.requires.first in
    let behind : Answers (next struck) (trace ∷ []) mid new status =
    subst (λ (v : Whole). Answers (run_named net v.setup struck trace) (trace ∷ []) mid new status) c.new.ensures.world
    (subst (λ (fs : List Fault). Answers (run_named net c.new.result.world.setup fs trace) (trace ∷ []) mid new status) c.new.ensures.faults c.run_in_world.ensures.answers) in
    faults_answer faults_in name next (trace ∷ []) {old = old} {mid = mid} {new = new} struck
    (λ tells. subst (λ (s : ImageSizes). GivesFaults (λ text. faults_of text s) (old.files.held name) (Ok struck)) same (c.in-Ok.ensures.gives tells))
    c.in-Ok.ensures.reads behind

pub returns-in-Err-clause-answers : goal.returns-in-Err-clause-answers
returns-in-Err-clause-answers g c =
    let net = c.args.app.now in
    let trace = c.args.trace.now in
    let name = c.args.faults.now in
    let w : Whole = c.args.world in
    let old = g.C.Call.seen c.args.call.now in
    let mid = g.C.Call.seen c.read_faults.new.self in
    let new = g.C.Call.seen c.fail.new.call in
    let same : c.sizes-sizes.result ≡ region_sizes w.setup = c.sizes-sizes.ensures ∙ sizes_at_first w c.requires.first in
    no_faults_answer (λ text. faults_of text (region_sizes w.setup)) name (λ list. run_named net w.setup list trace) (trace ∷ []) {old = old} {mid = mid} {new = new} c.in-Err.why
    (λ tells. subst (λ (s : ImageSizes). GivesFaults (λ text. faults_of text s) (old.files.held name) (Err c.in-Err.why)) same (c.in-Err.ensures.gives tells))
    c.in-Err.ensures.reads c.fail.ensures.fails c.fail.ensures.refuses c.fail.ensures.worked
