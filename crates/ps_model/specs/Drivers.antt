-- What drives a signal.
use Rattle.std.specs.Prelude.{ℕ, ◌-◌, Option, slice_get, position}
use Rattle.std.specs.Option.{option_map, option_and_then}
use Rattle.ps_model.specs.declared.driver.Driver.{Driver}
use Rattle.ps_model.specs.declared.driver.Driver.TheVariants.{Assigned, Output}
use Rattle.ps_model.specs.Action.{Action, assigns, calls}
use Rattle.ps_model.specs.Network.{Network, first_pin, drives}

-- step k as the driver of a signal: it assigns the signal, or calls the instance of which the signal is an output
abbrev pub driver_by : Network → (s k : ℕ) → Action → Driver
driver_by net s k (assigns t e) = Assigned k
driver_by net s k (calls i args) = Output i (s - first_pin net i) k

-- the driver of a signal: the step that drives it, if one does
abbrev pub driver : Network → ℕ → Option Driver
driver net s = option_and_then (λ k. option_map (driver_by net s k) (slice_get net.steps k)) (position (drives net s) net.steps)
