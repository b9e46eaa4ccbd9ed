use Rattle.ps_cover.specs.Covering.{shows_in}
use Rattle.ps_cover.proofs.Looking.{Looked}
use Rattle.ps_cover.proofs.point.look.Given as goal

abbrev pub invariant-loop-n : goal.invariant-loop-n
invariant-loop-n l = Looked (shows_in l.app l.signals l.calls l.value) l.points l.fn.seen l.seen l.n
