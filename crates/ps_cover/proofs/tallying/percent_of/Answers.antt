use Rattle.ps_cover.proofs.Counting.{covered_within}
use Rattle.std.proofs.Common.{◌≤◌, None, subst, sym}
use Rattle.ps_cover.specs.Tallying.{tally}
use Rattle.ps_cover.specs.declared.tallying.Status.TheVariants.{Covered}
use Rattle.ps_cover.proofs.tallying.percent_of.Goals as goal

pub percent-requires : goal.percent-requires
percent-requires c =
    let a = c.args in
    let rows = a.exclusions.now.rows.items in
    subst (λ n. n ≤ c.tally-all.result) (sym c.tally-covered.ensures)
    (subst (λ n. tally a.app.now rows a.cover.now a.sort None Covered ≤ n) (sym c.tally-all.ensures) (covered_within a.app.now rows a.cover.now a.sort None))
