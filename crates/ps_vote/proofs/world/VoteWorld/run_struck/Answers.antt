use Rattle.std.proofs.Common.{◌≡◌, ◌∙◌, ◌≤◌, None, sym, ap, subst}
use Rattle.ps_vote.specs.Worlds.{Machines, World_state, Begin}
use Rattle.ps_vote.specs.Steps.{world_step, after}
use Rattle.ps_vote.specs.Whole.{Setup, Whole, machines_in, happened, after_events}
use Rattle.ps_vote.specs.Orders.{of_turn, Path, first, spoils, turns, most_turns, path_answer}
use Rattle.ps_vote.proofs.Paths.{answers_none, goes_behind, refused_behind}
use Rattle.ps_vote.proofs.Reaching.{spoils_alike}
use Rattle.ps_vote.proofs.world.VoteWorld.run_struck.Goals as goal

pub begin-requires-clause-rest : goal.begin-requires-clause-rest
begin-requires-clause-rest c =
    let m = machines_in c.args.self.now.setup in
    ap (λ (w : Whole). w.state.begun) c.strike.ensures.events
    ∙ (spoils_alike c.args.heals m (of_turn 0 c.args.faults.now) c.args.self.now.state).same_begun ∙ c.requires.rest

pub begin-requires-clause-later : goal.begin-requires-clause-later
begin-requires-clause-later c =
    let m = machines_in c.args.self.now.setup in
    subst (λ t. t ≤ c.args.scan.now.now)
    (sym (ap (λ (w : Whole). w.state.last) c.strike.ensures.events ∙ (spoils_alike c.args.heals m (of_turn 0 c.args.faults.now) c.args.self.now.state).same_last)) c.requires.later

pub returns-clause-events : goal.returns-clause-events
returns-clause-events c =
    let at : Setup → Machines = machines_in in
    let m = at c.args.self.now.setup in
    let x = c.args.self.now.state in
    let now = c.args.scan.now.now in
    let ins = c.args.scan.now.ins in
    let faults = c.args.faults.now in
    let heals = c.args.heals in
    let p = spoils heals m (of_turn 0 faults) x in
    let later : World_state → Path = λ y. first (Begin now ins) (turns heals m faults (most_turns m) 0 None (world_step m (Begin now ins) y)) in
    let none = answers_none p.refused c.in_ok-strike.ensures.refused in
    let begun : c.begin.new.self ≡ record { setup = c.args.self.now.setup; state = world_step m (Begin now ins) (after m p.events x) } =
    c.begin.ensures ∙ ap (λ (w : Whole). happened (Begin now ins) w) c.strike.ensures.events in
    c.take_turns.ensures.events
    ∙ ap (λ (w : Whole). after_events (turns heals (at w.setup) faults (most_turns (at w.setup)) 0 None w.state).events w) begun
    ∙ ap (λ (z : World_state). record { setup = c.args.self.now.setup; state = z }) (sym (goes_behind m x p later none))

pub returns-clause-refused : goal.returns-clause-refused
returns-clause-refused c =
    let at : Setup → Machines = machines_in in
    let m = at c.args.self.now.setup in
    let x = c.args.self.now.state in
    let now = c.args.scan.now.now in
    let ins = c.args.scan.now.ins in
    let faults = c.args.faults.now in
    let heals = c.args.heals in
    let p = spoils heals m (of_turn 0 faults) x in
    let later : World_state → Path = λ y. first (Begin now ins) (turns heals m faults (most_turns m) 0 None (world_step m (Begin now ins) y)) in
    let none = answers_none p.refused c.in_ok-strike.ensures.refused in
    let begun : c.begin.new.self ≡ record { setup = c.args.self.now.setup; state = world_step m (Begin now ins) (after m p.events x) } =
    c.begin.ensures ∙ ap (λ (w : Whole). happened (Begin now ins) w) c.strike.ensures.events in
    c.take_turns.ensures.refused
    ∙ ap (λ (w : Whole). path_answer (turns heals (at w.setup) faults (most_turns (at w.setup)) 0 None w.state).refused) begun
    ∙ ap path_answer (sym (refused_behind m x p later none))
