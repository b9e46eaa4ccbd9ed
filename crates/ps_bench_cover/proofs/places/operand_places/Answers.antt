use Rattle.std.proofs.Common.{◌∙◌, ◌++◌, List, map, ap}
use Rattle.ps_base.specs.declared.failing.Place.{Place}
use Rattle.ps_cover.specs.Points.{Point}
use Rattle.ps_bench_cover.specs.Standing.{placed, source_operands}
use Rattle.ps_bench_cover.specs.Operands.{place_of}
use Rattle.ps_bench_cover.proofs.places.operand_places.Goals as goal

pub returns : goal.returns
returns c = λ are.
    c.in_ok-places.ensures ∙ ap (placed _) (c.as_slice.ensures.value ∙ c.in_ok-push_source.ensures ∙ ap (λ (ps : List Place). ps ++ map place_of (source_operands c.args.app.now c.args.source.now)) c.new-found.ensures.items)
    ∙ ap (λ (ps : List Point). placed ps (map place_of (source_operands c.args.app.now c.args.source.now))) are
