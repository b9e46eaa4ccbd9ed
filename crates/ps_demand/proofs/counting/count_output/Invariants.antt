use Rattle.std.proofs.Common.{◌≡◌, ◌+◌, ◌≤◌, drop}
use Rattle.std.specs.Prelude.{sum_by}
use Rattle.ps_demand.specs.Passes.{saturated, count_in, weight_of_need}
use Rattle.ps_demand.proofs.counting.count_output.Given as goal

-- what is counted, and what the pins that are left demand, is the whole
abbrev pub invariant-loop-need : goal.invariant-loop-need
invariant-loop-need l = record {
  few : l.count ≤ 4294967295;
  counted : saturated (l.count + sum_by (weight_of_need l.app (count_in l.counts) l.kind l.args) (drop l.need-index l.needs))
      ≡ saturated (sum_by (weight_of_need l.app (count_in l.counts) l.kind l.args) l.needs);
}
