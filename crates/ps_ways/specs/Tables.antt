-- The ways of the kinds. They stand once, in the code, and are read here.
use Rattle.std.specs.Prelude.{◌≡◌, ◌-◌, ◌==◌, ℕ, Bool, false, true, List, Option, Some, None, slice_get}
use Rattle.std.specs.List.{list_all}
use Rattle.ps_model.specs.Blocks.{block}
use Rattle.ps_model.specs.Table.{Conditions, Rule, row_at}
use Rattle.ps_model.specs.declared.kind.Kind.{Kind}
use Rattle.ps_model.specs.declared.kind.Kind.TheVariants.{Equivalent, Antivalent, EmergencyStop, Espe, ModeSelector}
use Rattle.ps_model.specs.declared.kind.Kind.TheVariants.{TwoHandTwo, TwoHandThree, GuardMonitoring, GuardLocking}
use Rattle.ps_model.specs.declared.kind.Kind.TheVariants.{EnableSwitch, SafetyRequest, OutControl, Edm}
use Rattle.ps_ways.specs.declared.way.Way.{Way}
use Rattle.ps_ways.specs.declared.equivalent.TheConstants.{EQUIVALENT}
use Rattle.ps_ways.specs.declared.antivalent.TheConstants.{ANTIVALENT}
use Rattle.ps_ways.specs.declared.stop.TheConstants.{STOP}
use Rattle.ps_ways.specs.declared.modes.TheConstants.{MODES}
use Rattle.ps_ways.specs.declared.two_hand_two.TheConstants.{TWO_HAND_TWO}
use Rattle.ps_ways.specs.declared.two_hand_three.TheConstants.{TWO_HAND_THREE}
use Rattle.ps_ways.specs.declared.guard_monitoring.TheConstants.{GUARD_MONITORING}
use Rattle.ps_ways.specs.declared.guard_locking.TheConstants.{GUARD_LOCKING}
use Rattle.ps_ways.specs.declared.enable_switch.TheConstants.{ENABLE_SWITCH}
use Rattle.ps_ways.specs.declared.safety_request.TheConstants.{SAFETY_REQUEST}
use Rattle.ps_ways.specs.declared.out_control.TheConstants.{OUT_CONTROL}
use Rattle.ps_ways.specs.declared.edm.TheConstants.{EDM}
use Rattle.ps_ways.specs.Ways.{first_rule, taken}

-- the ways of a kind; SF_ESPE has those of SF_EmergencyStop
abbrev pub ways_of : Kind → List Way
ways_of Equivalent = EQUIVALENT
ways_of Antivalent = ANTIVALENT
ways_of EmergencyStop = STOP
ways_of Espe = STOP
ways_of ModeSelector = MODES
ways_of TwoHandTwo = TWO_HAND_TWO
ways_of TwoHandThree = TWO_HAND_THREE
ways_of GuardMonitoring = GUARD_MONITORING
ways_of GuardLocking = GUARD_LOCKING
ways_of EnableSwitch = ENABLE_SWITCH
ways_of SafetyRequest = SAFETY_REQUEST
ways_of OutControl = OUT_CONTROL
ways_of Edm = EDM

-- The ways of a kind are those of its table in a state: under any conditions both take the guard of the same number, or
-- none.
abbrev pub AreThose : Kind → (state : ℕ) → Type 0
AreThose kind q = (c : Conditions) → taken (ways_of kind) q c ≡ first_rule 1 (row_at (block kind).rows q).rules c

-- a rule leads to this state
abbrev pub leads_to : ℕ → Option Rule → Bool
leads_to q None = false
leads_to q (Some r) = r.next == q

-- the rule of a way: the one with its number in its state
abbrev pub rule_of : Kind → Way → Option Rule
rule_of kind w = slice_get (row_at (block kind).rows w.state).rules (w.number - 1)

-- Each way of a kind leads where the table leads: to the next state of its rule.
abbrev pub LeadAsTable : Kind → Type 0
LeadAsTable kind =
    list_all (λ (w : Way). leads_to w.next (rule_of kind w)) (ways_of kind) ≡ true
