use Rattle.std.proofs.Common.{◌≡◌, ◌∙◌, ◌≤◌, None, sym, ap, subst}
use Rattle.ps_vote.specs.Worlds.{Machines, World_state}
use Rattle.ps_vote.specs.Steps.{all_ended}
use Rattle.ps_vote.specs.Whole.{Setup, Whole, machines_in, after_events}
use Rattle.ps_vote.specs.Orders.{Path, path_to_vote, closing}
use Rattle.ps_vote.proofs.Paths.{answers_none, goes_behind}
use Rattle.ps_vote.proofs.Reaching.{scan_comes, last_behind}
use Rattle.ps_vote.proofs.world.VoteWorld.make_scan.Goals as goal

pub returns-in_err-run_scan-clause-last : goal.returns-in_err-run_scan-clause-last
returns-in_err-run_scan-clause-last c =
    let m = machines_in c.args.self.now.setup in
    let comes = scan_comes c.args.heals m c.args.self.now.setup.sizes.inputs c.args.faults.now c.args.scan.now.now c.args.scan.now.ins c.args.self.now.state c.requires.later in
    subst (λ (w : Whole). w.state.last ≤ c.args.scan.now.now) (sym c.run_scan.ensures.events) comes.early

pub close_scan-requires-clause-begun : goal.close_scan-requires-clause-begun
close_scan-requires-clause-begun c =
    let m = machines_in c.args.self.now.setup in
    let now = c.args.scan.now.now in
    let ins = c.args.scan.now.ins in
    let x = c.args.self.now.state in
    let comes = scan_comes c.args.heals m c.args.self.now.setup.sizes.inputs c.args.faults.now now ins x c.requires.later in
    let none = answers_none (path_to_vote c.args.heals m c.args.faults.now now ins x).refused c.in_ok-run_scan.ensures.refused in
    ap (λ (w : Whole). w.state.begun) c.run_scan.ensures.events ∙ (comes.closes none).begun

pub close_scan-requires-clause-over : goal.close_scan-requires-clause-over
close_scan-requires-clause-over c =
    let at : Setup → Machines = machines_in in
    let m = at c.args.self.now.setup in
    let now = c.args.scan.now.now in
    let ins = c.args.scan.now.ins in
    let x = c.args.self.now.state in
    let comes = scan_comes c.args.heals m c.args.self.now.setup.sizes.inputs c.args.faults.now now ins x c.requires.later in
    let none = answers_none (path_to_vote c.args.heals m c.args.faults.now now ins x).refused c.in_ok-run_scan.ensures.refused in
    ap (λ (w : Whole). all_ended (at w.setup) w.state) c.run_scan.ensures.events ∙ (comes.closes none).over

pub returns-clause-events : goal.returns-clause-events
returns-clause-events c =
    let at : Setup → Machines = machines_in in
    let m = at c.args.self.now.setup in
    let now = c.args.scan.now.now in
    let ins = c.args.scan.now.ins in
    let x = c.args.self.now.state in
    let heals = c.args.heals in
    let p = path_to_vote heals m c.args.faults.now now ins x in
    let later : World_state → Path = λ y. record { events = closing heals m y; refused = None } in
    let none = answers_none p.refused c.in_ok-run_scan.ensures.refused in
    c.close_scan.ensures.events
    ∙ ap (λ (w : Whole). after_events (closing heals (at w.setup) w.state) w) c.run_scan.ensures.events
    ∙ ap (λ (z : World_state). record { setup = c.args.self.now.setup; state = z }) (sym (goes_behind m x p later none))

pub returns-clause-last : goal.returns-clause-last
returns-clause-last c =
    let at : Setup → Machines = machines_in in
    let m = at c.args.self.now.setup in
    let x = c.args.self.now.state in
    let comes = scan_comes c.args.heals m c.args.self.now.setup.sizes.inputs c.args.faults.now c.args.scan.now.now c.args.scan.now.ins x c.requires.later in
    let there : c.close_scan.new.self.state.last ≡ c.run_scan.new.self.state.last =
    ap (λ (w : Whole). w.state.last) c.close_scan.ensures.events ∙ last_behind (at c.run_scan.new.self.setup) c.args.heals c.run_scan.new.self.state in
    subst (λ t. t ≤ c.args.scan.now.now) (sym (there ∙ ap (λ (w : Whole). w.state.last) c.run_scan.ensures.events)) comes.early
