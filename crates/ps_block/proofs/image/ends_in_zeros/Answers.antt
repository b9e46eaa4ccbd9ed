use Rattle.std.proofs.Common.{◌-◌, drop, ap, ◌∙◌}
use Rattle.ps_block.proofs.Zeros.{last_zeros}
use Rattle.ps_block.proofs.image.ends_in_zeros.Goals as goal

pub returns-in-Some : goal.returns-in-Some
returns-in-Some c =
    let bytes = c.args.from.now in
    last_zeros bytes c.in-Some.last.now c.from_be_bytes.result c.told-from c.fits-from
    (c.in-Some.ensures.cases.1.same ∙ ap (λ n. drop (n - 8) bytes) c.told-from) c.from_be_bytes.ensures
