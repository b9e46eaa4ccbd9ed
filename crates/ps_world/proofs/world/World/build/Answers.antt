use Rattle.std.proofs.Common.{sym, subst}
use Rattle.ps_world.specs.Whole.{IsWorldOf}
use Rattle.ps_world.proofs.Built.{built_of}
use Rattle.ps_world.proofs.world.World.build.Goals as goal

pub returns : goal.returns
returns c =
    subst (IsWorldOf c.args.app.now) (sym c.from_seats.ensures)
    (built_of c.args.app.now c.in_ok-sizes.sizes c.in_ok-a.a c.in_ok-b.b c.in_ok-sizes.ensures c.in_ok-a.ensures c.in_ok-b.ensures)
