-- What every step of an application is.
use Rattle.std.specs.Prelude.{◌≡◌, ◌<◌, length}
use Rattle.ps_model.specs.Action.{Action, assigns, calls}
use Rattle.ps_model.specs.Blocks.{block}
use Rattle.ps_model.specs.Network.{Network, kind_at, instance_count, signal_count}

-- a step assigns to a signal, or calls an instance with one argument for each input pin of its kind
abbrev pub IsStepOf : Network → Action → Type 0
IsStepOf net (assigns t e) = t < signal_count net
IsStepOf net (calls i args) = (i < instance_count net) × (length args ≡ length (block (kind_at net i)).inputs)
