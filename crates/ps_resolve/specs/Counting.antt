-- What is counted for the limits.
use Rattle.std.specs.Prelude.{ℕ, nat_lt, List, if◌then◌else◌}
use Rattle.ps_names.specs.declared.entry.Entry.{Entry}
use Rattle.ps_names.specs.declared.entry.Sort.{Sort}
use Rattle.ps_names.specs.declared.entry.Sort.TheVariants.{Instance, Nothing}
use Rattle.ps_names.specs.Limits.{outputs_of, inputs, outputs, locals, instances}
use Rattle.ps_resolve.specs.declared.limits.Counts.{Counts}

-- how many declared names there are of each sort
abbrev pub counts_of : List Entry → Counts
counts_of es = record { inputs = inputs es; outputs = outputs es; locals = locals es; instances = instances es }

-- how many signals a name brings: itself, or its outputs
abbrev pub signals_of : Sort → ℕ
signals_of (Instance kind) = outputs_of (Instance kind)
signals_of Nothing = 0
signals_of _ = 1

-- the node that joins two parts or more
abbrev pub extra_of : ℕ → ℕ
extra_of parts = if nat_lt 1 parts then 1 else 0
