use Rattle.std.proofs.Common.{◌≡◌, ◌∷◌, ◌∙◌, [], Bool, List, Ok, Err, subst}
use Rattle.ps_vote.specs.Whole.{Whole}
use Rattle.ps_vote.specs.declared.faults.VoteFault.{VoteFault}
use Rattle.ps_vote.specs.declared.seat.VoteSizes.{VoteSizes}
use Rattle.ps_top.specs.Asking.{Asking}
use Rattle.ps_top.specs.Calls.{Answers}
use Rattle.ps_top.specs.Opening.{GivesFaults}
use Rattle.ps_top.specs.Program.{seat_faults_of, seat_sizes, vote_named}
use Rattle.ps_top.proofs.Faulted.{seat_sizes_at_first, faults_answer, no_faults_answer}
use Rattle.ps_top.proofs.voting.run_faults.Goals as goal

pub run_in_seats-requires-clause-first : goal.run_in_seats-requires-clause-first
run_in_seats-requires-clause-first g c = c.new.ensures.begins c.args.app.now c.requires.first

pub returns-in-Ok-clause-answers : goal.returns-in-Ok-clause-answers
returns-in-Ok-clause-answers g c =
    let net = c.args.app.now in
    let heals = c.args.heals in
    let trace = c.args.trace.now in
    let name = c.args.faults.now in
    let w : Whole = c.args.world in
    let old = g.C.Call.seen c.args.call.now in
    let mid = g.C.Call.seen c.read_seat_faults.new.self in
    let new = g.C.Call.seen c.run_in_seats.new.call in
    let status = c.run_in_seats.result in
    let struck : List VoteFault = c.in-Ok.faults in
    let next : List VoteFault → Asking = λ list. vote_named heals net w.setup list trace in
    let same : c.sizes-sizes.result ≡ seat_sizes w.setup = c.sizes-sizes.ensures ∙ seat_sizes_at_first w c.requires.first in
    let behind : Answers (next struck) (trace ∷ []) mid new status =
    subst (λ (v : Whole). Answers (vote_named heals net v.setup struck trace) (trace ∷ []) mid new status) c.new.ensures.world
    (subst (λ (fs : List VoteFault). Answers (vote_named heals net c.new.result.world.setup fs trace) (trace ∷ []) mid new status) c.new.ensures.faults
    (subst (λ (h : Bool). Answers (vote_named h net c.new.result.world.setup c.new.result.faults trace) (trace ∷ []) mid new status) c.new.ensures.heals c.run_in_seats.ensures.answers)) in
    faults_answer (λ text. seat_faults_of heals text (seat_sizes w.setup)) name next (trace ∷ []) {old = old} {mid = mid} {new = new} struck
    (λ tells. subst (λ (s : VoteSizes). GivesFaults (λ text. seat_faults_of heals text s) (old.files.held name) (Ok struck)) same (c.in-Ok.ensures.gives tells))
    c.in-Ok.ensures.reads behind

pub returns-in-Err-clause-answers : goal.returns-in-Err-clause-answers
returns-in-Err-clause-answers g c =
    let net = c.args.app.now in
    let heals = c.args.heals in
    let trace = c.args.trace.now in
    let name = c.args.faults.now in
    let w : Whole = c.args.world in
    let old = g.C.Call.seen c.args.call.now in
    let mid = g.C.Call.seen c.read_seat_faults.new.self in
    let new = g.C.Call.seen c.fail.new.call in
    let same : c.sizes-sizes.result ≡ seat_sizes w.setup = c.sizes-sizes.ensures ∙ seat_sizes_at_first w c.requires.first in
    no_faults_answer (λ text. seat_faults_of heals text (seat_sizes w.setup)) name (λ list. vote_named heals net w.setup list trace) (trace ∷ []) {old = old} {mid = mid} {new = new} c.in-Err.why
    (λ tells. subst (λ (s : VoteSizes). GivesFaults (λ text. seat_faults_of heals text s) (old.files.held name) (Err c.in-Err.why)) same (c.in-Err.ensures.gives tells))
    c.in-Err.ensures.reads c.fail.ensures.fails c.fail.ensures.refuses c.fail.ensures.worked
