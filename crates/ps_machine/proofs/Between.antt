-- What is read of the states before a scan and after it.
use Rattle.std.proofs.Common.{◌≡◌, ℕ, Bool, List}
use Rattle.ps_model.specs.Network.{Network}
use Rattle.ps_model.specs.Scanning.{State, read_at}
use Rattle.ps_machine.specs.Reading.{read_between}

-- a step reads what it reads of any states with these signals
pub reads_are : (net : Network) (before behind : List Bool) (old new : State) → before ≡ old.signals → behind ≡ new.signals →
    (k : ℕ) → read_between net before behind k ≡ read_at net old new k
reads_are net before behind old new was is k = λ i. read_between net (was i) (is i) k
