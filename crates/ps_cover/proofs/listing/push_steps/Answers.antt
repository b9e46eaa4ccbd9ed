use Rattle.std.proofs.Common.{◌≡◌, ◌∙◌, ◌++◌, ap, append-nil, length, map, sym, arith}
use Rattle.std.specs.List.{flat_map, range_with_len}
use Rattle.ps_cover.specs.Covering.{point_of}
use Rattle.std.specs.Prelude.{slice_get}
use Rattle.ps_cover.specs.Listing.{step_points}
use Rattle.ps_cover.proofs.Listings.{one_more}
use Rattle.ps_cover.proofs.listing.push_steps.Goals as goal

pub loop-k-preserved : goal.loop-k-preserved
loop-k-preserved c =
    one_more (λ k. step_points c.args.app.now k (slice_get c.args.app.now.steps k)) c.loop-k.k (map point_of c.args.points.now.items) (map point_of c.loop-k.points.items) _
    c.loop-k.invariant c.in_ok-push_step.ensures

pub loop-k-init : goal.loop-k-init
loop-k-init c = sym (append-nil (map point_of c.args.points.now.items))

pub push_step-requires : goal.push_step-requires
push_step-requires c = omega (arith, c.loop-k-test.true, c.step_count-k-end.ensures)

pub returns : goal.returns
returns c =
    let net = c.args.app.now in
    let all : c.loop-k.k ≡ length net.steps = omega (arith, c.loop-k-test.false, c.loop-k.auto.k-end, c.step_count-k-end.ensures) in
    c.loop-k.invariant ∙ ap (λ n. map point_of c.args.points.now.items ++ flat_map (λ k. step_points net k (slice_get net.steps k)) (range_with_len 0 n)) all
