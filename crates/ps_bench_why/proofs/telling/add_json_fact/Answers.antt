use Rattle.std.proofs.Common.{List, Some, ap, slice_get}
use Rattle.std.specs.Prelude.{codes, decimal}
use Rattle.ps_cover.proofs.Chains.{being, carry, chain9}
use Rattle.ps_why.specs.declared.explaining.Reasons.{Reasons}
use Rattle.ps_why.specs.declared.fact.Fact.{Fact}
use Rattle.ps_bench_why.specs.Because.{json_place, reasons_text, told_at}
use Rattle.ps_bench_why.specs.Moments.{moment_of}
use Rattle.ps_bench_why.proofs.telling.add_json_fact.Goals as goal

pub returns : goal.returns
returns c =
    let m = moment_of c.args.m.now in
    let e = c.args.explanation.now in
    let n = c.args.n in
    let facts = c.as_slice.result.now in
    let reasons = c.as_slice-2.result.now in
    carry c.extend_from_slice-5.result
    (λ last. chain9 c.args.text.now (codes "{\"fact\":") (decimal n) (codes ",\"told\":\"") (told_at m (slice_get e.facts.items n)) (codes "\"")
    (json_place (slice_get c.args.places.now n)) (codes ",\"because\":[") (reasons_text (slice_get e.reasons.items n)) (codes "]}\n")
    c.in_ok-extend_from_slice.ensures c.in_ok-add_number.ensures c.in_ok-extend_from_slice-2.ensures
    (being _ (told_at m (slice_get facts n)) c.in_ok-add_told.ensures (ap (λ (fs : List Fact). told_at m (slice_get fs n)) c.as_slice.ensures.value))
    c.in_ok-extend_from_slice-3.ensures
    (being _ (json_place (Some c.place_at.result)) c.in_ok-add_json_place.ensures c.place_at.ensures.json)
    c.in_ok-extend_from_slice-4.ensures
    (being _ (reasons_text (slice_get reasons n)) c.in_ok-add_reasons.ensures (ap (λ (rs : List Reasons). reasons_text (slice_get rs n)) c.as_slice-2.ensures.value))
    last) c.extend_from_slice-5.ensures
