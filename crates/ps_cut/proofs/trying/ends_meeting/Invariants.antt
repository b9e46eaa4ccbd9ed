use Rattle.std.proofs.Common.{map}
use Rattle.ps_reach.specs.Tracing.{inputs_in}
use Rattle.ps_cut.specs.Trying.{IsTrialFor}
use Rattle.ps_cut.proofs.Trials.{Tried}
use Rattle.ps_cut.proofs.trying.ends_meeting.Given as goal

-- the scans so far were made, and the others decide
abbrev pub invariant-loop-k : goal.invariant-loop-k
invariant-loop-k l = record {
  fits : IsTrialFor l.app l.trial;
  tried : Tried l.app l.asked l.rule (map inputs_in l.scans) l.k l.met l.trial;
}
