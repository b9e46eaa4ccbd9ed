use Rattle.ps_model.specs.Pins.{pin_count}
use Rattle.ps_lsp_text.proofs.Offered.{outputs_of}
use Rattle.ps_lsp_text.proofs.completing.add_items_at.Goals as goal
use Rattle.ps_lsp_text.proofs.completing.add_items_at.Goals.{in-Some, in_default}

pub returns-then-is_dot-clause-outputs : goal.returns-then-is_dot-clause-outputs
returns-then-is_dot-clause-outputs c = λ after empty whole. elim c.match-kind_at.branch [
  | in-Some w ↦ (
    w.in-Some.kind,
    w.in-Some.ensures.some,
    outputs_of w.in-Some.kind (pin_count w.in-Some.kind) c.match-kind_at.list w.add_outputs.new.list w.list-is (w.add_outputs.ensures empty) whole,
  )
  | in_default w ↦ absurd (w.in_default.ensures.none after.kind after.instance)
]
