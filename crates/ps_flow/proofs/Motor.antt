-- Certificates and refusals of a small application, as a table of examples:
--   PROGRAM M VAR_INPUT S_In : SAFEBOOL; Ack, Run : BOOL; END_VAR VAR_OUTPUT S_Motor : SAFEBOOL; END_VAR
--   VAR E : SF_EmergencyStop; END_VAR
--   E(Activate := TRUE, S_EStopIn := S_In, Reset := Ack); S_Motor := E.S_EStopOut AND Run; END_PROGRAM
use Rattle.std.proofs.Common.{◌≡◌, [], ◌∷◌, None, refl, true, false}
use Rattle.std.specs.Prelude.{codes}
use Rattle.ps_base.specs.declared.failing.Rule.TheVariants.{S1}
use Rattle.ps_model.specs.declared.kind.Ty.TheVariants.{Safe, Bool as Plain}
use Rattle.ps_model.specs.declared.kind.Kind.TheVariants.{EmergencyStop}
use Rattle.ps_model.specs.Action.{Actual, Action, free, literal, wired, assigns, calls}
use Rattle.ps_model.specs.Blocks.{block}
use Rattle.ps_model.specs.Formula.{Formula, signal, all_of, any_of, operand, no_operand}
use Rattle.ps_model.specs.Named.{output_types}
use Rattle.ps_model.specs.Network.{Network}
use Rattle.ps_model.specs.Typing.{safe}
use Rattle.ps_flow.specs.declared.certificate.LineRule.TheVariants.{Src, And}
use Rattle.ps_flow.specs.Derivation.{line, certificate}
use Rattle.ps_flow.specs.Refusals.{BreaksStep}

-- the call of E with this at its pin S_EStopIn
abbrev pub call_with : Actual → Action
call_with at = calls 0 (literal true ∷ at ∷ free ∷ free ∷ wired (signal 1) ∷ [])

-- E.S_EStopOut AND Run
abbrev pub stop_and_run : Formula
stop_and_run = all_of (operand (signal 4) (operand (signal 2) no_operand))

abbrev pub motor_of : Action → Formula → Network
motor_of call value = record {
  name = codes "M";
  inputs = record { name = codes "S_In"; ty = Safe } ∷ record { name = codes "Ack"; ty = Plain } ∷ record { name = codes "Run"; ty = Plain } ∷ [];
  outputs = record { name = codes "S_Motor"; ty = Safe } ∷ [];
  locals = [];
  instances = record { name = codes "E"; kind = EmergencyStop } ∷ [];
  steps = call ∷ assigns 3 value ∷ [];
}

abbrev pub motor : Network
motor = motor_of (call_with (wired (signal 0))) stop_and_run

-- 0 SRC, 3 SRC, 2 AND 2
pub motor_lines : certificate motor ≡ line 0 Src [] ∷ line 3 Src [] ∷ line 2 And (2 ∷ []) ∷ []
unfolding block output_types
motor_lines = refl

-- E.S_EStopOut OR Run is BOOL, so S1 at the assignment
abbrev stop_or_run : Formula
stop_or_run = any_of (operand (signal 4) (operand (signal 2) no_operand))

pub or_is_not_safe : BreaksStep (motor_of (call_with (wired (signal 0))) stop_or_run) (assigns 3 stop_or_run) S1 None
unfolding block output_types
or_is_not_safe = (refl, refl, refl)

-- Ack is BOOL, so S2 at pin 1
pub plain_at_a_safe_pin : safe motor (signal 1) ≡ false
unfolding block output_types
plain_at_a_safe_pin = refl
