use Rattle.std.proofs.Common.{◌∙◌, length, ap}
use Rattle.std.proofs.lemmas.List.{length-replicate}
use Rattle.ps_model.specs.declared.report.Report.{Report}
use Rattle.ps_bench_campaign.proofs.trials.bench_for.Goals as goal

pub mark_course-requires : goal.mark_course-requires
mark_course-requires c = record {
  accepted = c.requires.accepted;
  course = c.requires.course;
  world = c.in_ok-world.ensures;
  outputs = ap (λ (r : Report). length r.outs) c.in_ok-report.ensures ∙ length-replicate _ _;
  diagnoses = ap (λ (r : Report). length r.diags) c.in_ok-report.ensures ∙ length-replicate _ _;
}

pub returns : goal.returns
returns c = record {
  code_a = c.in_ok-codes.ensures.a;
  code_b = c.in_ok-codes.ensures.b;
  marks = c.in_ok-marks.ensures.marks;
  setup = c.in_ok-marks.ensures.setup;
  outputs = c.in_ok-marks.ensures.outputs;
  diagnoses = c.in_ok-marks.ensures.diagnoses;
}
