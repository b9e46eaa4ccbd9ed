use Rattle.std.proofs.Common.{[], map, ap, ◌∙◌, sym}
use Rattle.ps_names.specs.Offences.{noted}
use Rattle.ps_derived.specs.Interfaces.{interface_of}
use Rattle.ps_offences.specs.BlockRules.{block_names, blocks_break}
use Rattle.ps_offences.proofs.Breaking.{ok_then, text_noted}
use Rattle.ps_offences.proofs.rules.first_offence.Goals as goal

pub returns : goal.returns
returns c =
    let bs = c.as_slice.result.now in
    let same = c.as_slice-2.ensures ∙ sym c.as_slice.ensures in
    ok_then _ _ c.check_size.result
    (λ r last.
    text_noted c.args.library.now bs c.in_ok-before.before c.in_ok-names.named c.in_ok-before.blocks c.in_ok-program.program r c.as_slice.ensures
    (c.in_ok-before.ensures.interfaces ∙ ap (map interface_of) same)
    c.in_ok-names.ensures.found
    (c.in_ok-before.ensures.found (block_names bs) c.in_ok-names.ensures.table ∙ ap (λ x. noted c.in_ok-names.named (blocks_break (block_names bs) [] x)) same)
    (c.in_ok-program.ensures (block_names bs) c.in_ok-names.ensures.table)
    last)
    c.check_size.ensures
