use Rattle.std.proofs.Common.{◌≡◌, take}
use Rattle.std.specs.List.{flat_map}
use Rattle.ps_eqvm.specs.Code.{bytes_of, step_rows}
use Rattle.ps_eqgen.proofs.image.emit_application.Given as goal

abbrev pub invariant-loop-k : goal.invariant-loop-k
invariant-loop-k l = l.code.items ≡ bytes_of (flat_map (step_rows l.app) (take l.k l.app.steps))
