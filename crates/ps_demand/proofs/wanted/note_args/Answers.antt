use Rattle.std.proofs.Common.{◌+◌, drop, ap, sym, ◌∙◌, arith}
use Rattle.std.specs.List.{flat_map, list_any}
use Rattle.ps_model.specs.Args.{actual}
use Rattle.ps_model.specs.FirstSteps.{step_noted, with_step}
use Rattle.ps_model.specs.Values.{reads, values_at_pin}
use Rattle.ps_demand.proofs.Lasting.{args_next, with_either}
use Rattle.ps_demand.proofs.wanted.note_args.Goals as goal

pub loop-j-preserved : goal.loop-j-preserved
loop-j-preserved c = record {
  long = c.note_arg.ensures.long ∙ c.loop-j.invariant.long;
  rest = λ n below.
      let left = list_any (reads n) (flat_map values_at_pin (drop (c.loop-j.j + 1) c.args.args.now)) in
      let a = list_any (reads n) (values_at_pin (actual c.at.result.now)) in
      let long = c.loop-j.invariant.long in
      ap (with_step left c.args.k) (c.note_arg.ensures.noted n (omega arith))
      ∙ with_either a left c.args.k (step_noted c.loop-j.last.items n)
      ∙ ap (λ b. with_step b c.args.k (step_noted c.loop-j.last.items n)) (sym (args_next c.args.args.now c.loop-j.j (actual c.at.result.now) n c.at.ensures))
      ∙ c.loop-j.invariant.rest n below;
}
