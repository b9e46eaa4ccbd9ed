use Rattle.std.proofs.Common.{◌+◌, List, ℕ, ap, ◌∙◌, arith}
use Rattle.std.specs.Prelude.{slice_index, slice_set}
use Rattle.std.specs.Int.{w64, to_be_bytes}
use Rattle.ps_eqvm.proofs.Poking.{write_more}
use Rattle.ps_eqvm.proofs.kept.put_eight.Goals as goal

pub loop-i-preserved : goal.loop-i-preserved
loop-i-preserved c =
    let a = c.args in
    let i = c.loop-i.i in
    ap (λ (l : List ℕ). slice_set c.loop-i.bytes (a.at + i) (slice_index l i)) c.to_be_bytes.ensures
    ∙ write_more c.loop-i.bytes a.bytes.now a.at i (to_be_bytes w64 a.number) c.requires (omega arith) c.loop-i.invariant
