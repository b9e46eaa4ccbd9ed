use Rattle.std.proofs.Common.{◌≡◌, ◌∙◌, ◌++◌, ap, append-nil, map, sym, arith}
use Rattle.std.specs.List.{flat_map, range_with_len}
use Rattle.ps_model.specs.Network.{declared_count}
use Rattle.ps_cover.specs.Covering.{point_of}
use Rattle.ps_cover.specs.Listing.{value_points}
use Rattle.ps_cover.proofs.Listings.{one_more}
use Rattle.ps_cover.proofs.listing.push_values.Goals as goal

pub loop-signal-preserved : goal.loop-signal-preserved
loop-signal-preserved c =
    one_more (value_points) c.loop-signal.signal (map point_of c.args.points.now.items) (map point_of c.loop-signal.points.items) _
    c.loop-signal.invariant c.in_ok-push_value.ensures

pub loop-signal-init : goal.loop-signal-init
loop-signal-init c = sym (append-nil (map point_of c.args.points.now.items))

pub returns : goal.returns
returns c =
    let all : c.loop-signal.signal ≡ declared_count c.args.app.now = omega (arith, c.loop-signal-test.false, c.loop-signal.auto.signal-end, c.declared_count-signal-end.ensures) in
    c.loop-signal.invariant ∙ ap (λ n. map point_of c.args.points.now.items ++ flat_map value_points (range_with_len 0 n)) all
