use Rattle.std.proofs.Common.{◌≡◌, ◌∙◌, true, List, [], ◌∷◌, length, refl, sym, ap, arith}
use Rattle.std.specs.Prelude.{◌==◌}
use Rattle.std.proofs.lemmas.Bool.{eqb-true}
use Rattle.ps_vote.specs.declared.faults.VoteFault.{VoteFault}
use Rattle.ps_vote.specs.Whole.{machines_in, after_events}
use Rattle.ps_vote.specs.Orders.{path_to_vote, path_answer}
use Rattle.ps_vote.proofs.world.VoteWorld.run_scan.Goals as goal

none_there : (faults : List VoteFault) → (length faults == 0) ≡ true → faults ≡ []
none_there [] h = refl
none_there (f ∷ faults) h = let none = eqb-true (length (f ∷ faults)) 0 h in absurd (omega arith)

pub returns-then-is_empty-clause-events : goal.returns-then-is_empty-clause-events
returns-then-is_empty-clause-events c =
    let m = machines_in c.args.self.now.setup in
    let none = none_there c.args.faults.now (sym c.is_empty.ensures ∙ c.if-is_empty.true) in
    c.run_quietly.ensures.events c.args.heals
    ∙ ap (λ faults. after_events (path_to_vote c.args.heals m faults c.args.scan.now.now c.args.scan.now.ins c.args.self.now.state).events c.args.self.now) (sym none)

pub returns-then-is_empty-clause-refused : goal.returns-then-is_empty-clause-refused
returns-then-is_empty-clause-refused c =
    let m = machines_in c.args.self.now.setup in
    let none = none_there c.args.faults.now (sym c.is_empty.ensures ∙ c.if-is_empty.true) in
    ap path_answer
    (sym (ap (λ faults. (path_to_vote c.args.heals m faults c.args.scan.now.now c.args.scan.now.ins c.args.self.now.state).refused) none ∙ c.run_quietly.ensures.goes c.args.heals))
