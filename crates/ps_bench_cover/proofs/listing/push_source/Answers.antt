use Rattle.std.proofs.Common.{◌≡◌, ◌∙◌, ◌++◌, ℕ, List, length, map, slice_get, ap, arith}
use Rattle.std.specs.List.{flat_map, range_with_len}
use Rattle.ps_base.specs.declared.failing.Place.{Place}
use Rattle.ps_cover.proofs.Listings.{one_more}
use Rattle.ps_bench_cover.specs.Standing.{step_operands}
use Rattle.ps_bench_cover.proofs.Placing.{map_flat}
use Rattle.ps_bench_cover.specs.Operands.{place_of}
use Rattle.ps_bench_cover.proofs.listing.push_source.Goals as goal

pub loop-step-preserved : goal.loop-step-preserved
loop-step-preserved c =
    one_more (λ k. map place_of (step_operands c.args.app.now k (slice_get c.args.source.now.statements k))) c.loop-step.step
    c.args.places.now.items c.loop-step.places.items _ c.loop-step.invariant c.in_ok-push_step.ensures

pub returns : goal.returns
returns c =
    let f : ℕ → List Place = λ (k : ℕ). map place_of (step_operands c.args.app.now k (slice_get c.args.source.now.statements k)) in
    let all : c.loop-step.step ≡ length c.args.app.now.steps = omega (arith, c.step_count-step-end.ensures) in
    c.loop-step.invariant
    ∙ ap (λ n. c.args.places.now.items ++ flat_map f (range_with_len 0 n)) all
    ∙ ap (λ ps. c.args.places.now.items ++ ps)
    (map_flat place_of (λ k. step_operands c.args.app.now k (slice_get c.args.source.now.statements k)) (range_with_len 0 (length c.args.app.now.steps)))
