use Rattle.std.proofs.Common.{◌≡◌, take}
use Rattle.std.specs.List.{flat_map}
use Rattle.ps_stackvm.specs.Code.{bytes_of, step_code}
use Rattle.ps_stackgen.proofs.image.emit_application.Given as goal

abbrev pub invariant-loop-k : goal.invariant-loop-k
invariant-loop-k l = l.code.items ≡ bytes_of (flat_map (step_code l.app) (take l.k l.app.steps))
