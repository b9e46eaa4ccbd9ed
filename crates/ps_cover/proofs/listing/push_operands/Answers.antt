use Rattle.std.proofs.Common.{◌≡◌, ◌∙◌, ◌++◌, ap, append-nil, length, map, sym, arith}
use Rattle.std.specs.List.{flat_map, range_with_len}
use Rattle.std.proofs.lemmas.List.{length-map}
use Rattle.ps_cover.specs.Covering.{point_of}
use Rattle.ps_model.specs.Exprs.{formula}
use Rattle.ps_cover.specs.Listing.{place_points}
use Rattle.ps_cover.proofs.Listings.{one_more}
use Rattle.ps_cover.proofs.listing.push_operands.Goals as goal

pub loop-place-preserved : goal.loop-place-preserved
loop-place-preserved c =
    one_more (place_points c.args.step c.args.of_and (map formula c.args.operands.now.items.items)) c.loop-place.place (map point_of c.args.points.now.items) (map point_of c.loop-place.points.items) _
    c.loop-place.invariant c.in_ok-push_place.ensures

pub loop-place-init : goal.loop-place-init
loop-place-init c = sym (append-nil (map point_of c.args.points.now.items))

pub returns : goal.returns
returns c =
    let es = map formula c.args.operands.now.items.items in
    let all : c.loop-place.place ≡ length es =
    omega (arith, c.loop-place-test.false, c.loop-place.auto.place-end, c.len-place-end.ensures, length-map c.args.operands.now.items.items formula) in
    c.loop-place.invariant ∙ ap (λ n. map point_of c.args.points.now.items ++ flat_map (place_points c.args.step c.args.of_and es) (range_with_len 0 n)) all
