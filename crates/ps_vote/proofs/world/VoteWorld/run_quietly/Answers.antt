use Rattle.std.proofs.Common.{◌≡◌, ◌∙◌, [], None, sym, ap}
use Rattle.ps_vote.specs.Worlds.{Machines}
use Rattle.ps_vote.specs.Whole.{Setup, Whole, machines_in, after_events}
use Rattle.ps_vote.specs.Orders.{turns, most_turns}
use Rattle.ps_vote.proofs.world.VoteWorld.run_quietly.Goals as goal

pub returns-clause-events : goal.returns-clause-events
returns-clause-events c = λ heals.
    let at : Setup → Machines = machines_in in
    c.finish_all.ensures.events heals
    ∙ ap (λ (w : Whole). after_events (turns heals (at w.setup) [] (most_turns (at w.setup)) 0 None w.state).events w) c.begin.ensures

pub returns-clause-goes : goal.returns-clause-goes
returns-clause-goes c = λ heals.
    let at : Setup → Machines = machines_in in
    ap (λ (w : Whole). (turns heals (at w.setup) [] (most_turns (at w.setup)) 0 None w.state).refused) (sym c.begin.ensures) ∙ c.finish_all.ensures.goes heals
