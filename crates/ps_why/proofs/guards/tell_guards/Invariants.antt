use Rattle.std.proofs.Common.{◌≡◌, ◌++◌, drop}
use Rattle.ps_ways.specs.Stepping.{conditions_of}
use Rattle.ps_why.specs.Reasons.{guards_are, tried}
use Rattle.ps_why.proofs.Taking.{next_by}
use Rattle.ps_why.proofs.guards.tell_guards.Given as goal

-- the guards so far are told, and those that are left, which decide
abbrev pub invariant-loop-way : goal.invariant-loop-way
invariant-loop-way l = record {
  told : l.facts.items ++ guards_are l.step (conditions_of l.seen) (tried (conditions_of l.seen) l.state (drop l.way-index l.way-items))
      ≡ l.fn.facts.items ++ guards_are l.step (conditions_of l.seen) (tried (conditions_of l.seen) l.state l.way-items);
  next : next_by l.state l.way-items (conditions_of l.seen) ≡ next_by l.state (drop l.way-index l.way-items) (conditions_of l.seen);
}
