use Rattle.std.proofs.Common.{◌++◌, ℕ, List, None}
use Rattle.std.specs.Prelude.{codes}
use Rattle.ps_cover.specs.Telling.{known_of}
use Rattle.ps_cover.specs.Text.{counts_of}
use Rattle.ps_cover.specs.declared.format.Format.TheVariants.{Json}
use Rattle.ps_cover.proofs.Chains.{carry, chain3}
use Rattle.ps_cover.proofs.text.add_json_sort.Goals as goal

pub returns : goal.returns
returns c =
    let x = known_of c.args.told.now in
    let first : List ℕ = codes "{\"" ++ c.args.word.now ++ codes "\":" in
    carry c.extend_from_slice.result
    (λ last. chain3 c.args.text.now first (counts_of x Json c.args.sort None) (codes "}\n") c.in_ok-add_said.ensures c.in_ok-add_counts_of.ensures last)
    c.extend_from_slice.ensures
