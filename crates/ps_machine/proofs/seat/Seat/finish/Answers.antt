use Rattle.std.proofs.Common.{◌∙◌, ◌+◌, sym, ap, subst}
use Rattle.ps_machine.specs.Progressing.{is_running}
use Rattle.ps_machine.specs.StoredChannel.{Stored}
use Rattle.ps_machine.specs.Seats.{Seat_state, Finishes}
use Rattle.ps_machine.proofs.Turning.{finishes}
use Rattle.ps_machine.proofs.seat.Seat.finish.Goals as goal

pub returns : goal.returns
returns g c =
    let workings = g.C.ScanMachine.workings in
    let old : Seat_state = record {
      sizes = (g.C.ScanMachine.stored c.self.inside.channel).sizes;
      image = c.self.inside.image;
      budget = c.self.inside.budget;
      channel = record { code = (g.C.ScanMachine.stored c.self.inside.channel).code; cells = (g.C.ScanMachine.stored c.self.inside.channel).cells; turns = c.self.inside.turns };
    } in
    let done = finishes workings old c.turns.result c.self.invariant.0 c.turns.ensures.most c.turns.ensures.running
    (λ low. ap (λ (s : Stored). is_running ((workings s.sizes).progress s.cells)) (sym c.turns.ensures.cells) ∙ c.turns.ensures.stopped low) in
    let seen : (s : Stored) → Seat_state = λ s. record {
      sizes = s.sizes;
      image = c.self.inside.image;
      budget = c.self.inside.budget;
      channel = record { code = s.code; cells = s.cells; turns = c.self.inside.turns + c.turns.result };
    } in
    subst (λ s. Finishes workings s (seen (g.C.ScanMachine.stored c.turns.new.self))) c.self.view_is
    (subst (Finishes workings old) (ap seen (sym c.turns.ensures.cells)) done)
