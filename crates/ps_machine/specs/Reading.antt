-- What the steps of an application read in a scan, by the values of its signals before the scan and after it.
use Rattle.std.specs.Prelude.{ℕ, Bool, List, []}
use Rattle.ps_model.specs.Network.{Network}
use Rattle.ps_model.specs.Scanning.{State, read_at}
use Rattle.ps_machine.specs.declared.signals.Signals.{Signals}

-- a state with these signals; of its blocks no step reads anything but their outputs, which are signals
abbrev pub with_signals : List Bool → State
with_signals signals = record { signals = signals; blocks = [] }

-- a signal as step k reads it, where these are the signals before the scan and after it
abbrev pub read_between : Network → (before behind : List Bool) → (k s : ℕ) → Bool
read_between net before behind = read_at net (with_signals before) (with_signals behind)

-- the same, as the code has them
abbrev pub read_in : Network → Signals → (k s : ℕ) → Bool
read_in net x = read_between net x.before.now x.behind.now
