use Rattle.ps_model.proofs.Sixteen.{loads_loaded, loaded_loads}
use Rattle.ps_model.proofs.block_laws.loads_exactly.Goals as goal

pub returns : goal.returns
returns c = record { stored_loads = loads_loaded; loaded_is_stored = λ kind bytes k are. loaded_loads kind bytes are.sixteen are.small k }
