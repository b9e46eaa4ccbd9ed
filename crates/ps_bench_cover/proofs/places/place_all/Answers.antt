use Rattle.std.proofs.Common.{◌≡◌, ◌∙◌, ◌++◌, ◌+◌, [], List, map, drop, sym, ap, append-nil, arith}
use Rattle.std.proofs.lemmas.List.{drop_all}
use Rattle.ps_base.specs.declared.failing.Place.{Place}
use Rattle.ps_cover.specs.Covering.{point_of}
use Rattle.ps_bench_cover.specs.Standing.{placed}
use Rattle.ps_bench_cover.proofs.Placing.{placed_more}
use Rattle.ps_bench_cover.proofs.places.place_all.Goals as goal

pub loop-point-preserved : goal.loop-point-preserved
loop-point-preserved c =
    ap (λ (ps : List Place). ps ++ placed (map point_of (drop (c.loop-point.point-index + 1) c.args.points.now)) (drop c.next_behind-next.result c.args.found.now)) c.in_ok-push.ensures.items
    ∙ placed_more c.args.points.now c.loop-point.point-index c.point-item.result c.loop-point.places.items _ (drop c.loop-point.next c.args.found.now)
    (drop c.next_behind-next.result c.args.found.now) c.place_at.result c.loop-point-test.true c.point-item.is c.loop-point.invariant c.place_at.ensures c.next_behind-next.ensures

pub returns : goal.returns
returns c =
    let none : drop c.loop-point.point-index c.args.points.now ≡ [] = drop_all c.loop-point.point-index c.args.points.now (omega arith) in
    sym (append-nil c.loop-point.places.items)
    ∙ ap (λ ps. c.loop-point.places.items ++ placed (map point_of ps) (drop c.loop-point.next c.args.found.now)) (sym none)
    ∙ c.loop-point.invariant
