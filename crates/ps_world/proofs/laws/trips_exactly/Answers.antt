use Rattle.ps_world.specs.Whole.{machines_in}
use Rattle.ps_world.proofs.Built.{sized_a, sized_b}
use Rattle.ps_world.proofs.Compared.{trips_exactly}
use Rattle.ps_world.proofs.laws.trips_exactly.Goals as goal

pub returns : goal.returns
returns c setup =
    trips_exactly (machines_in setup) setup.sizes.outputs setup.sizes.instances (sized_a setup.sizes setup.image_a setup.budget_a) (sized_b setup.sizes setup.image_b setup.budget_b)
