use Rattle.std.proofs.Common.{◌≡◌, arith, ap, length, sym, false}
use Rattle.std.specs.Prelude.{slice_index_or}
use Rattle.std.proofs.lemmas.Option.{slice_get-get_or}
use Rattle.ps_why.specs.declared.fact.Fact.TheVariants.{SignalIs}
use Rattle.ps_bench_why.proofs.Placed.{all_placed, placed_more}
use Rattle.ps_bench_why.proofs.placing.places_of.Goals as goal

pub loop-fact-init : goal.loop-fact-init
loop-fact-init c = record {
  size = ap length c.in_ok-places.ensures.items;
  each = λ n f below at. absurd (omega (arith, below));
}

pub loop-fact-preserved : goal.loop-fact-preserved
loop-fact-preserved c =
    let facts = c.args.facts.now in
    let i = c.loop-fact.fact-index in
    let f = slice_index_or facts i (SignalIs 0 false) in
    placed_more c.args.app.now c.args.source.now facts i c.loop-fact.places.items _ f c.place_of.result c.loop-fact.invariant
    (slice_get-get_or facts i (SignalIs 0 false) c.loop-fact-test.true) c.place_of.ensures c.in_ok-push.ensures.items

pub returns : goal.returns
returns c =
    let facts = c.args.facts.now in
    let i = c.loop-fact.fact-index in
    let all : length facts ≡ i = omega (arith, c.loop-fact-test.false, c.loop-fact.auto.fact-index-end) in
    all_placed c.args.app.now c.args.source.now facts i c.loop-fact.places.items all c.loop-fact.invariant
