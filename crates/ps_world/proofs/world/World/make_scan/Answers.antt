use Rattle.std.proofs.Common.{◌≤◌, ◌∙◌, [], ◌∷◌, sym, ap, subst}
use Rattle.ps_world.proofs.Run.{last_within}
use Rattle.ps_world.specs.Worlds.{World_state, Compare}
use Rattle.ps_world.specs.Whole.{Whole, machines_in, happened}
use Rattle.ps_world.specs.Orders.{events_before_compare}
use Rattle.ps_world.proofs.Turning.{after_append}
use Rattle.ps_world.proofs.world.World.make_scan.Goals as goal

pub returns-clause-events : goal.returns-clause-events
returns-clause-events c =
    let m = machines_in c.args.self.now.setup in
    let x = c.args.self.now.state in
    c.compare.ensures.event
    ∙ ap (λ (w : Whole). happened Compare w) c.run_scan.ensures.events
    ∙ ap (λ (z : World_state). record { setup = c.args.self.now.setup; state = z })
    (sym (after_append m (events_before_compare m c.args.faults.now c.args.scan.now.now c.args.scan.now.ins x) (Compare ∷ []) x))

pub returns-clause-last : goal.returns-clause-last
returns-clause-last c =
    let m = machines_in c.args.self.now.setup in
    let x = c.args.self.now.state in
    subst (λ (w : Whole). w.state.last ≤ c.args.scan.now.now)
    (sym (returns-clause-events c)) (last_within m c.args.faults.now c.args.scan.now.now c.args.scan.now.ins x c.requires.later)
