use Rattle.std.proofs.Common.{◌+◌, ◌&&◌, not, ap, sym, ◌∙◌, arith, drop}
use Rattle.std.specs.List.{flat_map, list_any}
use Rattle.ps_model.specs.Args.{actual}
use Rattle.ps_model.specs.FirstSteps.{step_noted, with_step}
use Rattle.ps_model.specs.Network.{drives}
use Rattle.ps_model.specs.Steps.{action}
use Rattle.ps_model.specs.Values.{reads, values_at_pin}
use Rattle.ps_notes.proofs.Walking.{args_next, with_both}
use Rattle.ps_notes.proofs.readers.note_args.Goals as goal

pub loop-j-preserved : goal.loop-j-preserved
loop-j-preserved c = record {
  long = omega arith;
  rest = λ n below.
      let apart = not (drives c.args.app.now n (action c.args.step.now)) in
      let left = list_any (reads n) (flat_map values_at_pin (drop (c.loop-j.j + 1) c.args.args.now)) in
      let a = list_any (reads n) (values_at_pin (actual c.at.result.now)) in
      ap (with_step (left && apart) c.args.k) (c.note_arg.ensures n (omega arith))
      ∙ with_both a left apart c.args.k (step_noted c.loop-j.readers n)
      ∙ ap (λ b. with_step (b && apart) c.args.k (step_noted c.loop-j.readers n)) (sym (args_next c.args.args.now c.loop-j.j (actual c.at.result.now) n c.at.ensures))
      ∙ c.loop-j.invariant.rest n below;
}
