-- A call of an instance, from what its block answers.
use Rattle.std.proofs.Common.{◌≡◌, ℕ, ◌+◌, ◌-◌, ◌*◌, ◌<◌, ◌≤◌, List, ◌++◌, length, take, drop, map, None, sym, ap, ◌∙◌, arith, lit≤}
use Rattle.std.specs.Prelude.{slice_set, slice_index}
use Rattle.std.proofs.Math.Seq.{take-set-lt}
use Rattle.std.proofs.lemmas.List.{set-append_left, drop-set-lt, length-take}
use Rattle.ps_model.specs.declared.kind.Kind.{Kind}
use Rattle.ps_model.specs.declared.kind.Kind.TheVariants.{Equivalent, Antivalent, EmergencyStop, Espe, ModeSelector, TwoHandTwo, TwoHandThree, GuardMonitoring, GuardLocking, EnableSwitch, SafetyRequest, OutControl, Edm}
use Rattle.ps_model.specs.Blocks.{block, outs}
use Rattle.ps_model.specs.Budgets.{boolean_count}
use Rattle.ps_model.specs.Kept.{stepped_at}
use Rattle.ps_model.specs.Stored.{loaded, stored}
use Rattle.ps_machine.specs.Bytes.{bit, replaced}
use Rattle.ps_machine.proofs.Places.{length-replaced, index_before}
use Rattle.ps_block.specs.declared.block.Pins.{Pins}
use Rattle.ps_model.specs.PinBits.{pin_of}
use Rattle.ps_stackvm.specs.declared.layout.TheConstants.{SIGNALS_AT}
use Rattle.ps_stackvm.specs.declared.trap.Trap.TheVariants.{NoState}
use Rattle.ps_stackvm.specs.Cells.{scan_time, block_bytes, progress_of, with_pc, trapped}
use Rattle.ps_stackvm.specs.Calling.{topmost, pins_in, stepped_to, called_with}
use Rattle.ps_block.specs.Stepping.{stepped_by}
use Rattle.ps_stackvm.specs.Stepping.{HasStepped}

-- a byte is written before other bytes, or after them
pub set_replaced : (c : List ℕ) (i p v : ℕ) (m : List ℕ) → i < p → i < length c → slice_set (replaced c p m) i v ≡ replaced (slice_set c i v) p m
set_replaced c i p v m before within =
    let room : i < length (take p c) = omega (arith, length-take p c) in
    set-append_left (take p c) (m ++ drop (p + length m) c) i v room
    ∙ (λ x. sym (take-set-lt p c i v before) x ++ (m ++ sym (drop-set-lt (p + length m) c i v (omega arith)) x))

-- the height of the stack is set after the step, where the definition pops before it
set_before : (c : List ℕ) (p q v : ℕ) (m m' : List ℕ) → 4 < p → 4 < q → p + length m ≤ length c →
    slice_set (replaced (replaced c p m) q m') 4 v ≡ replaced (replaced (slice_set c 4 v) p m) q m'
set_before c p q v m m' before before' room =
    let size : length (replaced c p m) ≡ length c = length-replaced c p m room in
    set_replaced (replaced c p m) 4 q v m' before' (omega arith)
    ∙ ap (λ l. replaced l q m') (set_replaced c 4 p v m before (omega arith))

module _ (signals i first limit next : ℕ) (kind : Kind) (cells after : List ℕ) (p : ℕ) (is-place : p ≡ SIGNALS_AT + signals + 16 * i) where
  pub called_none : after ≡ cells → loaded kind (take 16 (drop p cells)) ≡ None →
      trapped NoState after ≡ called_with signals i first limit next kind (loaded kind (block_bytes signals i cells)) cells
  called_none kept none =
      ap (trapped NoState) kept
      ∙ ap (λ s. called_with signals i first limit next kind s cells)
      (sym (ap (λ q. loaded kind (take 16 (drop q cells))) (sym is-place) ∙ none))

  pub called_some : (pins : Pins) (height : ℕ) → SIGNALS_AT + signals + 16 * i + 16 ≤ length cells → HasStepped kind pins p (SIGNALS_AT + first) cells after →
      height ≡ slice_index cells 4 - boolean_count kind → pins.limit ≡ limit → pins.now ≡ scan_time cells →
      ((j : ℕ) → pin_of pins.bits j ≡ pins_in (topmost (boolean_count kind) cells) j) →
      with_pc next (slice_set after 4 height) ≡ called_with signals i first limit next kind (loaded kind (block_bytes signals i cells)) cells
  called_some pins height end steps is-height same-limit same-now same-pins =
      let top = pins_in (topmost (boolean_count kind) cells) in
      let kept' = stepped_by kind pins steps.kept in
      let pins-are : pin_of pins.bits ≡ top = λ x j. same-pins j x in
      let state : kept' ≡ stepped_at kind limit top (scan_time cells) steps.kept =
      ap (λ l. stepped_at kind l (pin_of pins.bits) pins.now steps.kept) same-limit
      ∙ ap (λ q. stepped_at kind limit q pins.now steps.kept) pins-are
      ∙ ap (λ t. stepped_at kind limit top t steps.kept) same-now in
      ap (λ c. with_pc next (slice_set c 4 height)) steps.writes
      ∙ ap (with_pc next) (set_before cells p (SIGNALS_AT + first) height (stored kept') (map bit (outs kind kept'.code kept'.mode)) (omega arith) (omega arith) (omega arith))
      ∙ ap (λ q. with_pc next (replaced (replaced (slice_set cells 4 height) q (stored kept')) (SIGNALS_AT + first) (map bit (outs kind kept'.code kept'.mode)))) is-place
      ∙ ap (λ h. with_pc next (replaced (replaced (slice_set cells 4 h) (SIGNALS_AT + signals + 16 * i) (stored kept')) (SIGNALS_AT + first) (map bit (outs kind kept'.code kept'.mode)))) is-height
      ∙ ap (λ s. stepped_to signals i first next kind s cells) state
      ∙ ap (λ s. called_with signals i first limit next kind s cells)
      (sym (ap (λ q. loaded kind (take 16 (drop q cells))) (sym is-place) ∙ steps.loads))

  -- a step leaves the progress of the scan
  pub progress_stays : (pins : Pins) → SIGNALS_AT + signals + 16 * i + 16 ≤ length cells → first ≤ signals → HasStepped kind pins p (SIGNALS_AT + first) cells after →
      progress_of after ≡ progress_of cells
  progress_stays pins end low steps =
      let kept' = stepped_by kind pins steps.kept in
      let size : length (replaced cells p (stored kept')) ≡ length cells = length-replaced cells p (stored kept') (omega arith) in
      ap progress_of steps.writes
      ∙ index_before (replaced cells p (stored kept')) (SIGNALS_AT + first) (map bit (outs kind kept'.code kept'.mode)) 5 (omega arith) (omega (arith, size))
      ∙ index_before cells p (stored kept') 5 (omega arith) (omega arith)

-- each kind has a pin
pub has_pins : (kind : Kind) → 1 ≤ boolean_count kind
unfolding boolean_count block
has_pins Equivalent = lit≤ tt
has_pins Antivalent = lit≤ tt
has_pins EmergencyStop = lit≤ tt
has_pins Espe = lit≤ tt
has_pins ModeSelector = lit≤ tt
has_pins TwoHandTwo = lit≤ tt
has_pins TwoHandThree = lit≤ tt
has_pins GuardMonitoring = lit≤ tt
has_pins GuardLocking = lit≤ tt
has_pins EnableSwitch = lit≤ tt
has_pins SafetyRequest = lit≤ tt
has_pins OutControl = lit≤ tt
has_pins Edm = lit≤ tt
