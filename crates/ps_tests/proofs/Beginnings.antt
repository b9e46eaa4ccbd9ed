-- Worlds at the beginning.
use Rattle.std.proofs.Common.{ap}
use Rattle.ps_model.specs.Network.{Network}
use Rattle.ps_world.specs.Whole.{Whole, IsWorldOf}
use Rattle.ps_tests.specs.Beginning.{IsBeginning}

pub is_beginning : (net : Network) (w : Whole) → IsWorldOf net w → IsBeginning net w
is_beginning net w h = record {
  inputs = h.setup.sizes.inputs;
  outputs = h.setup.sizes.outputs;
  instances = h.setup.sizes.instances;
  last = ap (λ s. s.last) h.beginning;
  rest = ap (λ s. s.begun) h.beginning;
}
