-- The step that drives a signal.
use Rattle.std.specs.Prelude.{ℕ}
use Rattle.ps_model.specs.declared.driver.Driver.{Driver}
use Rattle.ps_model.specs.declared.driver.Driver.TheVariants.{Assigned, Output}

-- the step that assigns a signal, or calls the instance whose output it is
abbrev pub driving_step : Driver → ℕ
driving_step (Assigned step) = step
driving_step (Output instance output step) = step
