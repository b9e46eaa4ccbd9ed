use Rattle.ps_model.specs.declared.kind.Kind.TheVariants.{Equivalent, Antivalent, EmergencyStop, Espe, ModeSelector, TwoHandTwo, TwoHandThree, GuardMonitoring, GuardLocking, EnableSwitch, SafetyRequest, OutControl, Edm}
use Rattle.ps_model.specs.Demand.{Demands}
use Rattle.ps_model.proofs.block_laws.each_demands.Goals as goal

pub returns : goal.returns
returns c = λ kind.
    elim kind as (λ k. Demands k) [
      | Equivalent ↦ c.equivalent_demand.ensures
      | Antivalent ↦ c.antivalent_demand.ensures
      | EmergencyStop ↦ c.emergency_stop_demand.ensures
      | Espe ↦ c.espe_demand.ensures
      | ModeSelector ↦ c.mode_selector_demand.ensures
      | TwoHandTwo ↦ c.two_hand_two_demand.ensures
      | TwoHandThree ↦ c.two_hand_three_demand.ensures
      | GuardMonitoring ↦ c.guard_monitoring_demand.ensures
      | GuardLocking ↦ c.guard_locking_demand.ensures
      | EnableSwitch ↦ c.enable_switch_demand.ensures
      | SafetyRequest ↦ c.safety_request_demand.ensures
      | OutControl ↦ c.out_control_demand.ensures
      | Edm ↦ c.edm_demand.ensures
    ]
