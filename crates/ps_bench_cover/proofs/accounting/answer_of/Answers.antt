use Rattle.std.proofs.Common.{◌∙◌, map, refl, ap}
use Rattle.ps_cover.specs.Covering.{point_of}
use Rattle.ps_bench_cover.proofs.accounting.answer_of.Goals as goal

pub returns : goal.returns
returns c = (
  _,
  (
    c.in_ok-exclusions.exclusions.rows.items,
    c.in_ok-exclusions.ensures.rows,
    c.as_slice.result.now,
    λ are. c.as_slice.ensures.value ∙ c.in_ok-places.ensures (ap (map point_of) c.points.ensures ∙ are),
    refl,
  ),
  c.status_of.ensures,
  c.in_ok-text.ensures,
)
