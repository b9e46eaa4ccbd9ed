-- What an `App` of the program is.
use Rattle.ps_model.specs.declared.app.App.TheInside.{Inside}
use Rattle.ps_model.specs.Network.{Network}
use Rattle.ps_model.specs.Sound.{IsSound}

-- the application that the parts are
abbrev pub network : Inside → Network
network a = record {
  name = a.name;
  inputs = a.inputs;
  outputs = a.outputs;
  locals = a.locals;
  instances = a.instances;
  steps = a.steps;
}

-- the parts of every `App` are sound
abbrev pub IsSoundInside : Inside → Type 0
IsSoundInside a = IsSound (network a)
