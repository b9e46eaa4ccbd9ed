use Rattle.std.proofs.Common.{◌≡◌, take, flat_map}
use Rattle.ps_message.specs.NoteLine.{odd_text}
use Rattle.ps_edge.proofs.noting.odd_text.Given as goal

abbrev pub invariant-loop-odd : goal.invariant-loop-odd
invariant-loop-odd l = l.lines ≡ flat_map (odd_text l.name) (take l.odd-index l.odds)
