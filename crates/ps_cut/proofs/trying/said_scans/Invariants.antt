use Rattle.std.proofs.Common.{◌≡◌, length}
use Rattle.ps_cut.specs.Trying.{IsTrialFor}
use Rattle.ps_cut.proofs.trying.said_scans.Given as goal

abbrev pub invariant-loop-k : goal.invariant-loop-k
invariant-loop-k l = record {
  fits : IsTrialFor l.of.app.now l.trial;
  made : length l.scans.items ≡ l.k;
}
