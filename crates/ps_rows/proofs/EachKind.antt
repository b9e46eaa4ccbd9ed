-- The rows of each kind decide as its table does.
use Rattle.std.proofs.Common.{◌≡◌, ◌∙◌, ℕ, Bool, true, false, ap, sym, Option, None}
use Rattle.ps_model.specs.declared.kind.Kind.{Kind}
use Rattle.ps_model.specs.declared.kind.Kind.TheVariants.{Equivalent, Antivalent, EmergencyStop, Espe, ModeSelector, TwoHandTwo, TwoHandThree, GuardMonitoring, GuardLocking, EnableSwitch, SafetyRequest, OutControl, Edm}
use Rattle.ps_rows.specs.Rows.{rows_of}
use Rattle.ps_rows.specs.Fitting.{first_fit}
use Rattle.ps_rows.specs.Names.{names, complemented}
use Rattle.ps_rows.specs.Decision.{RowsDecide, decision}
use Rattle.ps_model.specs.Kept.{Kept, seen}
use Rattle.ps_model.specs.Stored.{is_state}
use Rattle.ps_rows.proofs.Choices.{of_states, no_row}
use Rattle.ps_rows.proofs.Equivalence.{equivalent_states, equivalent_decides}
use Rattle.ps_rows.proofs.Antivalence.{antivalent_states, antivalent_decides}
use Rattle.ps_rows.proofs.Stopping.{emergency_stop_states, emergency_stop_decides}
use Rattle.ps_rows.proofs.Sensing.{espe_states, espe_decides}
use Rattle.ps_rows.proofs.Selecting.{mode_selector_states, mode_selector_decides}
use Rattle.ps_rows.proofs.TwoHandsTwo.{two_hand_two_states, two_hand_two_decides}
use Rattle.ps_rows.proofs.TwoHandsThree.{two_hand_three_states, two_hand_three_decides}
use Rattle.ps_rows.proofs.GuardsMonitored.{guard_monitoring_states, guard_monitoring_decides}
use Rattle.ps_rows.proofs.GuardsLocked.{guard_locking_states, guard_locking_decides}
use Rattle.ps_rows.proofs.Enabling.{enable_switch_states, enable_switch_decides}
use Rattle.ps_rows.proofs.Requesting.{safety_request_states, safety_request_decides}
use Rattle.ps_rows.proofs.Controlling.{out_control_states, out_control_decides}
use Rattle.ps_rows.proofs.DevicesMonitored.{edm_states, edm_decides}

pub each_decides : (kind : Kind) → RowsDecide kind
each_decides Equivalent = equivalent_decides
each_decides Antivalent = antivalent_decides
each_decides EmergencyStop = emergency_stop_decides
each_decides Espe = espe_decides
each_decides ModeSelector = mode_selector_decides
each_decides TwoHandTwo = two_hand_two_decides
each_decides TwoHandThree = two_hand_three_decides
each_decides GuardMonitoring = guard_monitoring_decides
each_decides GuardLocking = guard_locking_decides
each_decides EnableSwitch = enable_switch_decides
each_decides SafetyRequest = safety_request_decides
each_decides OutControl = out_control_decides
each_decides Edm = edm_decides

pub each_of_states : (kind : Kind) → of_states (rows_of kind) kind ≡ true
each_of_states Equivalent = equivalent_states
each_of_states Antivalent = antivalent_states
each_of_states EmergencyStop = emergency_stop_states
each_of_states Espe = espe_states
each_of_states ModeSelector = mode_selector_states
each_of_states TwoHandTwo = two_hand_two_states
each_of_states TwoHandThree = two_hand_three_states
each_of_states GuardMonitoring = guard_monitoring_states
each_of_states GuardLocking = guard_locking_states
each_of_states EnableSwitch = enable_switch_states
each_of_states SafetyRequest = safety_request_states
each_of_states OutControl = out_control_states
each_of_states Edm = edm_states

-- what the first row that fits gives over the named conditions of a step
pub decision_by_rows : (kind : Kind) (q c : ℕ) (o : Option (ℕ × ℕ)) → o ≡ first_fit (rows_of kind) q c →
    (pins : ℕ → Bool) (elapsed : Bool) (k : Kept) → c ≡ complemented (names kind pins elapsed k) → o ≡ decision kind q (seen kind pins elapsed k)
decision_by_rows kind q c o first pins elapsed k e = first ∙ ap (first_fit (rows_of kind) q) e ∙ each_decides kind q pins elapsed k

-- no row fits where the code is of no state
pub none_fits : (kind : Kind) (q c : ℕ) → is_state kind q ≡ false → None ≡ first_fit (rows_of kind) q c
none_fits kind q c h = sym (no_row (rows_of kind) kind q c (each_of_states kind) h)
