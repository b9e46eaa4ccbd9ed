use Rattle.std.specs.Prelude.{codes}
use Rattle.ps_cover.proofs.Chains.{carry, chain6}
use Rattle.ps_bench_cover.specs.Ideas.{each_literal}
use Rattle.ps_bench_cover.specs.Shares.{share_text}
use Rattle.ps_bench_cover.specs.declared.ideas.Share.TheVariants.{Rest, Before, Now}
use Rattle.ps_bench_cover.proofs.ideas.add_lines.Goals as goal

pub returns : goal.returns
returns c =
    let a = c.args in
    carry c.extend_from_slice-3.result
    (λ last. chain6 a.text.now (each_literal (share_text a.called.now Rest) a.way.now) (codes "  +10") (each_literal (share_text a.called.now Before) a.way.now)
    (codes "\n  +10") (each_literal (share_text a.called.now Now) a.way.now) (codes "\n")
    c.in_ok-add_literals.ensures c.in_ok-extend_from_slice.ensures c.in_ok-add_literals-2.ensures c.in_ok-extend_from_slice-2.ensures c.in_ok-add_literals-3.ensures last)
    c.extend_from_slice-3.ensures
