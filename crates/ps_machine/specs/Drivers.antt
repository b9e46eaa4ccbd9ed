-- The step of a driver.
use Rattle.std.specs.Prelude.{ℕ}
use Rattle.ps_model.specs.declared.driver.Driver.{Driver}
use Rattle.ps_model.specs.declared.driver.Driver.TheVariants.{Assigned, Output}

-- the step that assigns a signal, or calls the instance whose output it is
abbrev pub step_of : Driver → ℕ
step_of (Assigned k) = k
step_of (Output i o k) = k
