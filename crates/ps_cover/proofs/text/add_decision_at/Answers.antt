use Rattle.std.proofs.Common.{◌≡◌, ◌<◌, ◌∙◌, ◌++◌, ℕ, List, OnOk, Option, Some, ap, length, refl, slice_get, subst, sym, arith}
use Rattle.std.proofs.lemmas.Option.{slice_get_read}
use Rattle.ps_cover.specs.Covering.{point_of}
use Rattle.ps_cover.specs.declared.point.Point.{Point}
use Rattle.ps_cover.specs.Lines.{missed_decisions}
use Rattle.ps_cover.specs.Seen.{kept_of}
use Rattle.ps_cover.specs.Telling.{known_of}
use Rattle.ps_cover.specs.Text.{decisions_at, place_of}
use Rattle.ps_cover.proofs.text.add_decision_at.Goals as goal

pub returns : goal.returns
returns c =
    let t = c.args.told.now in
    let x = known_of t in
    let n = c.args.n in
    let points = c.points-points.result.now in
    let point = c.index-points-n.result in
    let few : n < length t.cover.now.points.items = c.requires in
    let within : n < length points = omega (arith, few, ap length c.points-points.ensures) in
    let here : slice_get t.cover.now.points.items n ≡ Some point =
    ap (λ (ps : List Point). slice_get ps n) (sym c.points-points.ensures) ∙ slice_get_read points _ n point refl within c.index-points-n.is in
    subst (λ (line : List ℕ). OnOk c.add_missed_decisions.result (c.add_missed_decisions.new.text ≡ c.args.text.now ++ line))
    ((λ i. missed_decisions c.args.format (c.place_of.ensures i) (point_of point) (c.is_seen_at-off.ensures i) (c.is_seen_at-on.ensures i))
    ∙ sym (ap (λ (o : Option Point). decisions_at c.args.format (place_of x n) (kept_of t.cover.now n o)) here)) c.add_missed_decisions.ensures
