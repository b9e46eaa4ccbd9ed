use Rattle.std.proofs.Common.{◌≡◌, take}
use Rattle.ps_model.proofs.report.Report.first_difference.Given as goal

-- the outputs passed so far are equal
abbrev pub invariant-loop-j : goal.invariant-loop-j
invariant-loop-j l = take l.j l.self.outs ≡ take l.j l.other.outs

-- all outputs are equal, and what the instances passed so far say of themselves
abbrev pub invariant-loop-i : goal.invariant-loop-i
invariant-loop-i l = record {
  outs : l.self.outs ≡ l.other.outs;
  diags : take l.i l.self.diags ≡ take l.i l.other.diags;
}
