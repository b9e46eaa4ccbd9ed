use Rattle.std.proofs.Common.{sym, ◌∙◌}
use Rattle.std.proofs.lemmas.Bool.{and_parts}
use Rattle.ps_block.proofs.Reading.{reads}
use Rattle.ps_block.proofs.image.Image.read.Goals as goal

pub returns-clause-some : goal.returns-clause-some
returns-clause-some c =
    let lasts = and_parts _ _ (sym c.may_have.ensures ∙ c.if-not-may_have.false) in
    reads c.args.kind c.args.from.now c.from_be_bytes-code.result c.from_be_bytes.result c.told-from c.fits-from c.from_be_bytes-code.ensures c.from_be_bytes.ensures
    c.from_be_bytes-code.type_inv c.from_be_bytes.type_inv lasts.0 lasts.1 (sym c.may_latch.ensures ∙ c.if-not-may_latch.false)
    (sym c.ends_in_zeros.ensures ∙ c.if-not-ends_in_zeros.false)
