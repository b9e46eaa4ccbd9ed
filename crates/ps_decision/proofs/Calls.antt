-- A call of an instance, from the step that it makes in the cells.
use Rattle.std.proofs.Common.{◌≡◌, ℕ, ◌+◌, ◌*◌, List, take, drop, map, None, sym, ap, ◌∙◌}
use Rattle.ps_model.specs.declared.kind.Kind.{Kind}
use Rattle.ps_model.specs.Blocks.{outs}
use Rattle.ps_model.specs.Budgets.{boolean_count}
use Rattle.ps_model.specs.Kept.{stepped_at}
use Rattle.ps_model.specs.PinBits.{pin_of}
use Rattle.ps_model.specs.Stored.{loaded, stored}
use Rattle.ps_machine.specs.Bytes.{bit, replaced}
use Rattle.ps_block.specs.declared.block.Pins.{Pins}
use Rattle.ps_block.specs.Stepping.{stepped_by}
use Rattle.ps_stackvm.specs.declared.trap.Trap.TheVariants.{NoState}
use Rattle.ps_stackvm.specs.Calling.{pins_in}
use Rattle.ps_stackvm.specs.Stepping.{HasStepped}
use Rattle.ps_decision.specs.declared.layout.TheConstants.{SIGNALS_AT}
use Rattle.ps_decision.specs.Cells.{scan_time, pin_bytes, block_bytes, with_offset, trapped}
use Rattle.ps_decision.specs.Calling.{stepped_to, called_with}

module _ (signals i first limit next : ℕ) (kind : Kind) (cells after : List ℕ) (p : ℕ) (is-place : p ≡ SIGNALS_AT + signals + 16 * i) where
  pub called_none : after ≡ cells → loaded kind (take 16 (drop p cells)) ≡ None →
      trapped NoState after ≡ called_with signals i first limit next kind (loaded kind (block_bytes signals i cells)) cells
  called_none kept none =
      ap (trapped NoState) kept
      ∙ ap (λ s. called_with signals i first limit next kind s cells)
      (sym (ap (λ q. loaded kind (take 16 (drop q cells))) (sym is-place) ∙ none))

  pub called_some : (pins : Pins) → HasStepped kind pins p (SIGNALS_AT + first) cells after →
      pins.limit ≡ limit → pins.now ≡ scan_time cells → ((j : ℕ) → pin_of pins.bits j ≡ pins_in (pin_bytes (boolean_count kind) cells) j) →
      with_offset next after ≡ called_with signals i first limit next kind (loaded kind (block_bytes signals i cells)) cells
  called_some pins steps same-limit same-now same-pins =
      let given = pins_in (pin_bytes (boolean_count kind) cells) in
      let kept' = stepped_by kind pins steps.kept in
      let pins-are : pin_of pins.bits ≡ given = λ x j. same-pins j x in
      let state : kept' ≡ stepped_at kind limit given (scan_time cells) steps.kept =
      ap (λ l. stepped_at kind l (pin_of pins.bits) pins.now steps.kept) same-limit
      ∙ ap (λ q. stepped_at kind limit q pins.now steps.kept) pins-are
      ∙ ap (λ t. stepped_at kind limit given t steps.kept) same-now in
      ap (with_offset next) steps.writes
      ∙ ap (λ q. with_offset next (replaced (replaced cells q (stored kept')) (SIGNALS_AT + first) (map bit (outs kind kept'.code kept'.mode)))) is-place
      ∙ ap (λ s. stepped_to signals i first next kind s cells) state
      ∙ ap (λ s. called_with signals i first limit next kind s cells)
      (sym (ap (λ q. loaded kind (take 16 (drop q cells))) (sym is-place) ∙ steps.loads))
