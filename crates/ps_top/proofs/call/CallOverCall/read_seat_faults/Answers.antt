use Rattle.std.proofs.Common.{Bool, true, false, sym, subst}
use Rattle.ps_top.specs.Opening.{GivesFaults}
use Rattle.ps_top.specs.Program.{seat_faults_of}
use Rattle.ps_top.proofs.Opened.{gives_faults}
use Rattle.ps_top.proofs.call.CallOverCall.read_seat_faults.Goals as goal

pub returns-then-heals-clause-gives : goal.returns-then-heals-clause-gives
returns-then-heals-clause-gives g c = λ tells.
    let held = g.F.Files.held c.args.self.now.files.now c.args.name.now in
    subst (λ (h : Bool). GivesFaults (λ text. seat_faults_of h text c.args.sizes.now) held c.read_heal_faults.result) (sym c.if-heals.true)
    (gives_faults (λ text. seat_faults_of true text c.args.sizes.now) held c.read_heal_faults.result (c.read_heal_faults.ensures.found tells)
    (c.read_heal_faults.ensures.gives tells) (c.read_heal_faults.ensures.refuses tells))

pub returns-else-heals-clause-gives : goal.returns-else-heals-clause-gives
returns-else-heals-clause-gives g c = λ tells.
    let held = g.F.Files.held c.args.self.now.files.now c.args.name.now in
    subst (λ (h : Bool). GivesFaults (λ text. seat_faults_of h text c.args.sizes.now) held c.read_vote_faults.result) (sym c.if-heals.false)
    (gives_faults (λ text. seat_faults_of false text c.args.sizes.now) held c.read_vote_faults.result (c.read_vote_faults.ensures.found tells)
    (c.read_vote_faults.ensures.gives tells) (c.read_vote_faults.ensures.refuses tells))
