-- The pins of a kind fit a word of bits.
use Rattle.std.proofs.Common.{◌≤◌, length, arith}
use Rattle.ps_model.specs.declared.kind.Kind.{Kind}
use Rattle.ps_model.specs.declared.kind.Kind.TheVariants.{Equivalent, Antivalent, EmergencyStop, Espe, ModeSelector, TwoHandTwo, TwoHandThree, GuardMonitoring, GuardLocking, EnableSwitch, SafetyRequest, OutControl, Edm}
use Rattle.ps_model.specs.Blocks.{block}

-- a kind has at most 14 input pins
pub few_inputs : (kind : Kind) → length (block kind).inputs ≤ 14
unfolding block
few_inputs Equivalent = omega arith
few_inputs Antivalent = omega arith
few_inputs EmergencyStop = omega arith
few_inputs Espe = omega arith
few_inputs ModeSelector = omega arith
few_inputs TwoHandTwo = omega arith
few_inputs TwoHandThree = omega arith
few_inputs GuardMonitoring = omega arith
few_inputs GuardLocking = omega arith
few_inputs EnableSwitch = omega arith
few_inputs SafetyRequest = omega arith
few_inputs OutControl = omega arith
few_inputs Edm = omega arith
