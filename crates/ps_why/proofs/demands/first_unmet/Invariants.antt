use Rattle.std.proofs.Common.{◌≡◌, drop, not}
use Rattle.std.specs.Prelude.{find}
use Rattle.ps_model.specs.Demand.{is_met}
use Rattle.ps_ways.specs.Stepping.{conditions_of}
use Rattle.ps_why.proofs.demands.first_unmet.Given as goal

-- the parts that are left decide
abbrev pub invariant-loop-need : goal.invariant-loop-need
invariant-loop-need l =
    find (λ n. not (is_met (conditions_of l.seen).pin n)) l.need-items
    ≡ find (λ n. not (is_met (conditions_of l.seen).pin n)) (drop l.need-index l.need-items)
