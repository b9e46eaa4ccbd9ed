use Rattle.std.proofs.Common.{take, [], ◌++◌, ◌∷◌, ap, ◌∙◌, sym}
use Rattle.std.specs.List.{list_any}
use Rattle.std.proofs.lemmas.List.{map_more}
use Rattle.ps_base.specs.declared.failing.Rule.TheVariants.{B1}
use Rattle.ps_base.specs.LetterCase.{is_same_name}
use Rattle.ps_parser.specs.Tree.{SourceTree}
use Rattle.ps_names.specs.Offences.{noted}
use Rattle.ps_names.specs.Rules.{repeated}
use Rattle.ps_names.proofs.NamesAgain.{noted_next}
use Rattle.ps_offences.specs.BlockRules.{block_names}
use Rattle.ps_offences.proofs.naming.names_of.Goals as goal

pub loop-i-preserved : goal.loop-i-preserved
loop-i-preserved c =
    let xs = c.args.blocks.now in let i = c.loop-i.i in let d = c.index-blocks-i.result in
    let ns = block_names (take i xs) in
    let name = ap (λ (b : SourceTree). b.name) (c.block.view_is ∙ c.index-blocks-i.is) in
    let more = ap (λ n. ns ++ n ∷ []) name ∙ sym (map_more (λ (b : SourceTree). b.name) xs i d c.loop-i-test.true) in
    record {
      table = λ q. c.in_ok-found.ensures.table ns c.loop-i.invariant.table q ∙ ap (list_any (λ n. is_same_name q n.text)) more;
      found = noted_next B1 c.args.found c.loop-i.found c.in_ok-found.found ns _ c.loop-i.invariant.found (c.in_ok-found.ensures.found ns c.loop-i.invariant.table)
          ∙ ap (λ l. noted c.args.found (repeated B1 [] l)) more;
    }
