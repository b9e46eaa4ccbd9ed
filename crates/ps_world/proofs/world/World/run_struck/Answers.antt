use Rattle.std.proofs.Common.{◌≡◌, ◌∙◌, ◌+◌, ◌≤◌, cond, [], ◌∷◌, ◌++◌, sym, ap, subst, None}
use Rattle.ps_world.specs.Worlds.{Machines, World_state, Begin}
use Rattle.ps_world.specs.Steps.{world_step, after}
use Rattle.ps_world.specs.Whole.{Setup, Whole, machines_in, happened, after_events}
use Rattle.ps_world.specs.Orders.{spoils_before, turn_events}
use Rattle.ps_world.proofs.Turning.{struck_alike, after_append}
use Rattle.ps_world.proofs.world.World.run_struck.Goals as goal

pub begin-requires-clause-rest : goal.begin-requires-clause-rest
begin-requires-clause-rest c =
    let m = machines_in c.args.self.now.setup in
    ap (λ (w : Whole). w.state.begun) c.strike.ensures ∙ (struck_alike m 0 c.args.faults.now c.args.self.now.state).begun ∙ c.requires.rest

pub begin-requires-clause-up : goal.begin-requires-clause-up
begin-requires-clause-up c =
    let m = machines_in c.args.self.now.setup in
    ap (λ (w : Whole). w.state.tripped) c.strike.ensures ∙ (struck_alike m 0 c.args.faults.now c.args.self.now.state).tripped ∙ c.requires.up

pub begin-requires-clause-later : goal.begin-requires-clause-later
begin-requires-clause-later c =
    let m = machines_in c.args.self.now.setup in
    subst (λ t. t ≤ c.args.scan.now.now)
    (sym (ap (λ (w : Whole). w.state.last) c.strike.ensures ∙ (struck_alike m 0 c.args.faults.now c.args.self.now.state).last)) c.requires.later

pub returns-clause-events : goal.returns-clause-events
returns-clause-events c =
    let at : Setup → Machines = machines_in in
    let m = at c.args.self.now.setup in
    let x = c.args.self.now.state in
    let now = c.args.scan.now.now in
    let ins = c.args.scan.now.ins in
    let faults = c.args.faults.now in
    let spoils = spoils_before 0 faults in
    let y = world_step m (Begin now ins) (after m spoils x) in
    let turns = turn_events m faults (m.a.budget + m.b.budget) 0 None y in
    let begun : c.begin.new.self ≡ record { setup = c.args.self.now.setup; state = y } =
    c.begin.ensures ∙ ap (λ (w : Whole). happened (Begin now ins) w) c.strike.ensures in
    c.take_turns.ensures.events
    ∙ ap (λ (w : Whole). after_events (turn_events (at w.setup) faults (w.setup.budget_a + w.setup.budget_b) 0 None w.state) w) begun
    ∙ ap (λ (z : World_state). record { setup = c.args.self.now.setup; state = z }) (sym (after_append m spoils (Begin now ins ∷ turns) x))
    ∙ ap (λ b. record { setup = c.args.self.now.setup; state = after m (cond b [] (spoils ++ Begin now ins ∷ turns)) x }) (sym c.requires.up)
