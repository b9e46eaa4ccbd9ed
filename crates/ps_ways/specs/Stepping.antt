-- What a step shows the guards of the tables.
use Rattle.std.specs.Prelude.{◌≡◌, ℕ, Bool, ◌&&◌, nat_lt}
use Rattle.ps_model.specs.PinBits.{pin_of}
use Rattle.ps_model.specs.Table.{Conditions}
use Rattle.ps_model.specs.Kept.{Kept}
use Rattle.ps_ways.specs.declared.step.LastStep.{LastStep}
use Rattle.ps_ways.specs.declared.step.StepConditions.{StepConditions}

-- the pins in a number; those past the thirty-second are FALSE
abbrev pub pins_of : ℕ → ℕ → Bool
pins_of bits j = nat_lt j 32 && pin_of bits j

-- the conditions of a step, as the tables read them
abbrev pub conditions_of : StepConditions → Conditions
conditions_of s = record {
  pin = pins_of s.pins;
  edge = s.edge;
  static = s.held;
  rise = s.rise;
  elapsed = s.elapsed;
  modes = s.modes;
  exact = s.latched;
}

-- what was kept of the last step is so in what a channel keeps
pub record IsLastOf (k : Kept) (last : LastStep) : Type 0 where
  pub reset : k.last_reset ≡ last.reset
  pub auxiliary : k.last_auxiliary ≡ last.auxiliary
  pub mode : k.mode ≡ last.mode
