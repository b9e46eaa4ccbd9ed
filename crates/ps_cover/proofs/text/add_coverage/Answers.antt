use Rattle.std.specs.Prelude.{codes}
use Rattle.ps_cover.specs.declared.tallying.Sort.TheVariants.{Values, Decisions}
use Rattle.ps_cover.specs.Telling.{known_of}
use Rattle.ps_cover.specs.Text.{decisions_text, last_line, sort_line, steps_text, values_text}
use Rattle.ps_cover.proofs.Chains.{carry, chain6}
use Rattle.ps_cover.proofs.text.add_coverage.Goals as goal

pub returns : goal.returns
returns c =
    let x = known_of c.args.told.now in
    let format = c.args.format in
    carry c.add_last.result
    (λ last. chain6 c.args.text.now (steps_text x format) (sort_line x format Values (codes "values")) (values_text x format)
    (sort_line x format Decisions (codes "decisions")) (decisions_text x format) (last_line x format)
    c.in_ok-add_steps.ensures c.in_ok-add_sort.ensures c.in_ok-add_values.ensures c.in_ok-add_sort-2.ensures c.in_ok-add_decisions.ensures last)
    c.add_last.ensures
