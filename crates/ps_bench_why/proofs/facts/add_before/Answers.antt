use Rattle.std.proofs.Common.{◌++◌, ap, sym}
use Rattle.std.specs.Prelude.{codes, decimal}
use Rattle.ps_bench_why.specs.Facts.{before_text}
use Rattle.ps_cover.proofs.Chains.{being, carry, chain2}
use Rattle.ps_bench_why.proofs.facts.add_before.Goals as goal

pub returns-in_ok-extend_from_slice-in-Some : goal.returns-in_ok-extend_from_slice-in-Some
returns-in_ok-extend_from_slice-in-Some c =
    let at = codes " in the scan before, at " in
    let ms = decimal c.in-Some.ms in
    carry c.add_number.result
    (λ last. being c.args.text.now (at ++ ms) (chain2 c.args.text.now at ms c.in_ok-extend_from_slice-in-Some.ensures last) (ap before_text (sym c.in-Some.is)))
    c.add_number.ensures

pub returns-in-None : goal.returns-in-None
returns-in-None c =
    carry c.extend_from_slice-in-None.result
    (λ last. being c.args.text.now (codes " before the first scan") last (ap before_text (sym c.in-None.is))) c.extend_from_slice-in-None.ensures
