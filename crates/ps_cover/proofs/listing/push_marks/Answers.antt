use Rattle.std.proofs.Common.{◌≡◌, ◌∙◌, ◌++◌, ◌*◌, ap, append-nil, length, map, sym, arith}
use Rattle.std.specs.List.{flat_map, range_with_len}
use Rattle.ps_ways.specs.Tables.{ways_of}
use Rattle.ps_cover.specs.Covering.{point_of}
use Rattle.ps_cover.specs.Listing.{mark_points}
use Rattle.ps_cover.proofs.Listings.{one_more}
use Rattle.ps_cover.proofs.listing.push_marks.Goals as goal

pub loop-mark-preserved : goal.loop-mark-preserved
loop-mark-preserved c =
    one_more (mark_points c.args.step c.args.kind) c.loop-mark.mark (map point_of c.args.points.now.items) (map point_of c.loop-mark.points.items) _
    c.loop-mark.invariant c.in_ok-push_mark.ensures

pub loop-mark-init : goal.loop-mark-init
loop-mark-init c = sym (append-nil (map point_of c.args.points.now.items))

pub push_mark-requires : goal.push_mark-requires
push_mark-requires c = omega (arith, c.loop-mark-test.true, ap length c.ways.ensures)

pub returns : goal.returns
returns c =
    let all : c.loop-mark.mark ≡ 2 * length (ways_of c.args.kind) = omega (arith, c.loop-mark-test.false, c.loop-mark.auto.mark-end, ap length c.ways.ensures) in
    c.loop-mark.invariant ∙ ap (λ n. map point_of c.args.points.now.items ++ flat_map (mark_points c.args.step c.args.kind) (range_with_len 0 n)) all
