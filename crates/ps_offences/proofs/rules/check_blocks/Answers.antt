use Rattle.std.proofs.Common.{[], ◌∷◌, ◌++◌, map, take, get_or, ap, ◌∙◌, sym}
use Rattle.std.proofs.lemmas.List.{map_more, take_more}
use Rattle.ps_parser.specs.declared.heads.Heads.TheVariants.{Block}
use Rattle.ps_names.specs.Offences.{noted}
use Rattle.ps_names.proofs.NamesAgain.{noted_two}
use Rattle.ps_derived.specs.Interfaces.{interface_of}
use Rattle.ps_offences.specs.BlockRules.{body_breaks, blocks_break}
use Rattle.ps_offences.proofs.Breaking.{blocks_break_push}
use Rattle.ps_offences.proofs.rules.check_blocks.Goals as goal

pub loop-block-preserved : goal.loop-block-preserved
loop-block-preserved c =
    let xs = c.args.blocks.now in
    let i = c.loop-block.block-index in
    let d = c.block-item.result in
    let x = get_or xs i d in
    record {
      before =
          c.in_ok-before.ensures
          ∙ (λ j. c.loop-block.invariant.before j ++ (c.in_ok-interface.ensures ∙ ap interface_of c.block-item.is) j ∷ [])
          ∙ sym (map_more interface_of xs i d c.loop-block-test.true);
      found = λ ns has.
          noted_two c.args.found c.loop-block.found c.in_ok-found.found (blocks_break ns [] (take i xs)) (body_breaks ns (map interface_of (take i xs)) Block x)
          (c.loop-block.invariant.found ns has)
          (c.in_ok-found.ensures ns has ∙ ap (λ b. noted c.loop-block.found (body_breaks ns b Block d)) c.loop-block.invariant.before ∙ ap (λ s. noted c.loop-block.found (body_breaks ns (map interface_of (take i xs)) Block s)) c.block-item.is)
          ∙ ap (noted c.args.found) (sym (blocks_break_push ns [] (take i xs) x))
          ∙ ap (λ bs. noted c.args.found (blocks_break ns [] bs)) (sym (take_more xs i d c.loop-block-test.true));
    }
