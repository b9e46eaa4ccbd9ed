use Rattle.std.proofs.Common.{◌≡◌, ◌++◌, ◌∙◌, ℕ, List, ap, append_assoc}
use Rattle.std.specs.Prelude.{codes, Some}
use Rattle.ps_model.specs.Blocks.{block}
use Rattle.ps_model.specs.Network.{instance_name, kind_at}
use Rattle.ps_model.specs.declared.kind.Kind.{Kind}
use Rattle.ps_cover.specs.declared.tallying.Sort.TheVariants.{States, Ways}
use Rattle.ps_cover.specs.Telling.{known_of}
use Rattle.ps_cover.specs.Text.{counts_of}
use Rattle.ps_cover.specs.declared.format.Format.TheVariants.{Text}
use Rattle.ps_cover.proofs.Chains.{carry, chain5}
use Rattle.ps_cover.proofs.text.add_said_head.Goals as goal

pub returns : goal.returns
returns c =
    let x = known_of c.args.told.now in
    let i = c.args.instance in
    let text : List ℕ = c.args.text.now in
    let name : List ℕ = instance_name x.net i in
    let kind : List ℕ = (block (kind_at x.net i)).name in
    let first : List ℕ = codes " " in
    let second : List ℕ = codes "  states " in
    let states : List ℕ = counts_of x Text States (Some c.args.step) in
    let ways : List ℕ = counts_of x Text Ways (Some c.args.step) in
    let named : c.kind_name.result.now ≡ kind = c.kind_name.ensures ∙ ap (λ (k : Kind). (block k).name) c.instance_kind.ensures in
    let said : c.add_said.new.text ≡ text ++ (c.instance_name.result.now ++ first ++ c.kind_name.result.now ++ second) = simp append_assoc c.in_ok-add_said.ensures in
    let head : c.add_said.new.text ≡ text ++ (name ++ first ++ kind ++ second) =
    said ∙ (λ j. text ++ (c.instance_name.ensures j ++ first ++ named j ++ second)) in
    carry c.extend_from_slice-2.result
    (λ last. chain5 text (name ++ first ++ kind ++ second) states (codes "  ways ") ways (codes "\n") head
    c.in_ok-add_counts_of.ensures c.in_ok-extend_from_slice.ensures c.in_ok-add_counts_of-2.ensures last)
    c.extend_from_slice-2.ensures
