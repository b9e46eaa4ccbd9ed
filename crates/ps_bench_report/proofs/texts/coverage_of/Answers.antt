use Rattle.std.proofs.Common.{◌∙◌, map, refl, ap}
use Rattle.std.proofs.lemmas.Result.{IfOk-weaker}
use Rattle.ps_cover.specs.Covering.{point_of}
use Rattle.ps_bench_report.proofs.texts.coverage_of.Goals as goal

pub returns : goal.returns
returns c = IfOk-weaker c.coverage_text.result _ _
    (λ text is. (
      _,
      (
        c.in_ok-exclusions.exclusions.rows.items,
        c.in_ok-exclusions.ensures.rows,
        c.as_slice.result.now,
        λ are. c.as_slice.ensures.value ∙ c.in_ok-places.ensures (ap (map point_of) c.points.ensures ∙ are),
        refl,
      ),
      is,
    )) c.coverage_text.ensures
