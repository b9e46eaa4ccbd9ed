use Rattle.std.proofs.Common.{◌≡◌, ◌∙◌, ◌+◌, ◌∷◌, drop, get_or, sym, ap}
use Rattle.std.proofs.lemmas.Option.{slice_get-get_or}
use Rattle.ps_cover.specs.Covering.{point_of}
use Rattle.ps_cover.specs.declared.point.Point.{Point}
use Rattle.ps_model.proofs.Rest.{rest_found}
use Rattle.ps_bench_cover.specs.Standing.{left_behind}
use Rattle.ps_bench_cover.specs.Operands.{nowhere}
use Rattle.ps_bench_cover.proofs.places.next_behind.Goals as goal

pub returns-in-Decides : goal.returns-in-Decides
returns-in-Decides c =
    let found = c.args.found.now in
    let n = c.args.next in
    let there : drop n found ≡ get_or found n nowhere ∷ drop (n + 1) found =
    rest_found found n (get_or found n nowhere) (slice_get-get_or found n nowhere c.if-next-found.true) in
    sym (ap (left_behind (point_of c.args.point.now)) there
    ∙ ap (λ (p : Point). left_behind (point_of p) (get_or found n nowhere ∷ drop (n + 1) found)) c.in-Decides.is)
