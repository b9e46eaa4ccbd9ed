use Rattle.std.proofs.Common.{◌∙◌}
use Rattle.ps_bench_never.proofs.same_answering.asked_by.Goals as goal

pub returns : goal.returns
returns c = record {
  pace = c.in_ok-asked.ensures.every;
  inputs = c.in_ok-asked.ensures.inputs ∙ c.in_ok-inputs.ensures;
  outputs = c.in_ok-asked.ensures.outputs;
}
