use Rattle.std.proofs.Common.{◌≡◌, map}
use Rattle.std.specs.List.{range_with_len}
use Rattle.ps_why.specs.Scenes.{read_in}
use Rattle.ps_why.proofs.scene_reading.read_signals.Given as goal

-- the signals so far
abbrev pub invariant-loop-s : goal.invariant-loop-s
invariant-loop-s l = l.read.items ≡ map (read_in l.app l.scene l.k) (range_with_len 0 l.s)
