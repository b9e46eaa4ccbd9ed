use Rattle.std.proofs.Common.{◌≡◌, map, filter, take}
use Rattle.ps_names.specs.Names.{is_signal_of}
use Rattle.ps_names.specs.Stands.{signal_named}
use Rattle.ps_resolve.proofs.parts.signals.Given as goal

abbrev pub invariant-loop-i : goal.invariant-loop-i
invariant-loop-i l = l.signals ≡ map signal_named (filter (λ e. is_signal_of l.part e.sort) (take l.i l.entries))
