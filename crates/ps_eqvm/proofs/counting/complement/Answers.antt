use Rattle.std.proofs.Common.{◌-◌, ◌∙◌, sym, arith}
use Rattle.std.proofs.lemmas.List.{ext_get_or, length-map}
use Rattle.ps_eqvm.proofs.Complements.{complement_index}
use Rattle.ps_eqvm.proofs.counting.complement.Goals as goal

pub returns : goal.returns
returns c =
    let old = c.args.bytes.now in
    ext_get_or 0 c.loop-byte.bytes _ (c.loop-byte.auto.bytes ∙ sym (length-map old (λ byte. 255 - byte))) (λ k low.
    c.loop-byte.invariant.done k (omega arith) ∙ sym (complement_index old k (omega arith)))
