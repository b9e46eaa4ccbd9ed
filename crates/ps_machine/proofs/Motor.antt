-- A small application, whose code is an example of both channels' compilers:
--   PROGRAM M VAR_INPUT S_In : SAFEBOOL; Ack, Run : BOOL; END_VAR VAR_OUTPUT S_Motor : SAFEBOOL; END_VAR
--   VAR E : SF_EmergencyStop; END_VAR
--   E(Activate := TRUE, S_EStopIn := S_In, Reset := Ack); S_Motor := E.S_EStopOut AND Run; END_PROGRAM
use Rattle.std.proofs.Common.{[], ◌∷◌, true}
use Rattle.std.specs.Prelude.{codes}
use Rattle.ps_model.specs.declared.kind.Ty.TheVariants.{Safe, Bool as Plain}
use Rattle.ps_model.specs.declared.kind.Kind.TheVariants.{EmergencyStop}
use Rattle.ps_model.specs.Action.{free, literal, wired, assigns, calls}
use Rattle.ps_model.specs.Formula.{signal, all_of, operand, no_operand}
use Rattle.ps_model.specs.Network.{Network}

abbrev pub motor : Network
motor = record {
  name = codes "M";
  inputs = record { name = codes "S_In"; ty = Safe } ∷ record { name = codes "Ack"; ty = Plain } ∷ record { name = codes "Run"; ty = Plain } ∷ [];
  outputs = record { name = codes "S_Motor"; ty = Safe } ∷ [];
  locals = [];
  instances = record { name = codes "E"; kind = EmergencyStop } ∷ [];
  steps = calls 0 (literal true ∷ wired (signal 0) ∷ free ∷ free ∷ wired (signal 1) ∷ [])
      ∷ assigns 3 (all_of (operand (signal 4) (operand (signal 2) no_operand))) ∷ [];
}
