use Rattle.std.proofs.Common.{◌∙◌, ◌+◌, cond, [], ◌∷◌, sym, ap, None}
use Rattle.ps_world.specs.Worlds.{Begin}
use Rattle.ps_world.specs.Steps.{world_step, after}
use Rattle.ps_world.specs.Whole.{Whole, machines_in, after_events}
use Rattle.ps_world.specs.Orders.{turn_events}
use Rattle.ps_world.proofs.world.World.run_quietly.Goals as goal

pub returns-clause-events : goal.returns-clause-events
returns-clause-events c =
    let m = machines_in c.args.self.now.setup in
    let x = c.args.self.now.state in
    let now = c.args.scan.now.now in
    let ins = c.args.scan.now.ins in
    let y = world_step m (Begin now ins) x in
    let turns = turn_events m [] (m.a.budget + m.b.budget) 0 None y in
    c.finish_both.ensures.events
    ∙ ap (λ (w : Whole). after_events (turn_events (machines_in w.setup) [] (w.setup.budget_a + w.setup.budget_b) 0 None w.state) w) c.begin.ensures
    ∙ ap (λ b. record { setup = c.args.self.now.setup; state = after m (cond b [] (Begin now ins ∷ turns)) x }) (sym c.requires.up)
