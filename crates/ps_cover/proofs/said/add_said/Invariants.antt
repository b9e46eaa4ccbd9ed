use Rattle.std.proofs.Common.{◌≡◌, ◌++◌, take}
use Rattle.std.specs.List.{flat_map}
use Rattle.ps_cover.specs.Said.{said_text}
use Rattle.ps_cover.proofs.said.add_said.Given as goal

abbrev pub invariant-loop-piece : goal.invariant-loop-piece
invariant-loop-piece l = l.text ≡ l.initial.text ++ flat_map said_text (take l.piece-index l.pieces)
