use Rattle.std.proofs.Common.{◌≡◌, ◌+◌, ◌<◌, ◌∷◌, [], ◌++◌, length, take, drop, ap, sym, ◌∙◌, arith}
use Rattle.std.specs.Prelude.{position}
use Rattle.std.proofs.lemmas.Grind.{common_steps}
use Rattle.std.proofs.lemmas.List.{take_more, length-take-le}
use Rattle.std.proofs.lemmas.Option.{get_or_from_slice_get, slice_get_within}
use Rattle.ps_model.specs.FirstSteps.{step_noted, with_step}
use Rattle.ps_model.specs.Steps.{action}
use Rattle.ps_notes.specs.Notes.{is_reader}
use Rattle.ps_notes.proofs.Walking.{first_of_more}
use Rattle.ps_notes.proofs.readers.first_readers.Goals as goal

pub loop-k-preserved : goal.loop-k-preserved
loop-k-preserved c =
    let net = c.args.app.now in
    let k = c.loop-k.k in
    let step = action c.step.result.now in
    let same : take c.loop-k.readers.len (c.note_step.new.readers ++ drop (length c.note_step.new.readers) c.loop-k.readers.items) ≡ c.note_step.new.readers =
    grind (arith, common_steps) in
    let inside : k < length net.steps = slice_get_within net.steps k step c.step.ensures in
    let steps : take k net.steps ++ step ∷ [] ≡ take (k + 1) net.steps =
    ap (λ a. take k net.steps ++ a ∷ []) (sym (get_or_from_slice_get net.steps k step step c.step.ensures)) ∙ sym (take_more net.steps k step inside) in
    record {
      each = ap length same ∙ omega arith;
      first = λ s below.
          ap (λ r. step_noted r s) same
          ∙ c.note_step.ensures s (omega arith)
          ∙ ap (with_step (is_reader net s step) k) (ap (λ r. step_noted r s) c.deref_mut.ensures.value ∙ c.loop-k.invariant.first s below)
          ∙ first_of_more (is_reader net s) (take k net.steps) step k (sym (length-take-le k net.steps (omega arith)))
          ∙ ap (position (is_reader net s)) steps;
    }
