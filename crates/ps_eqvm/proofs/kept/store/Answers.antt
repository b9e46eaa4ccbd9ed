use Rattle.std.proofs.Common.{arith, ◌+◌, ◌-◌, ◌^◌, ◌++◌, List, ℕ, refl, ap, ◌∙◌}
use Rattle.std.specs.Int.{w64, to_be_bytes}
use Rattle.ps_machine.specs.Bytes.{replaced}
use Rattle.ps_eqvm.proofs.Joining.{replaced_twice}
use Rattle.ps_eqvm.proofs.kept.store.Goals as goal

pub returns : goal.returns
returns c =
    let old = c.args.bytes.now in
    let at = c.args.at in
    let front : List ℕ = to_be_bytes w64 (2 ^ 64 - 1 - c.head.result) in
    let back : List ℕ = to_be_bytes w64 (2 ^ 64 - 1 - c.tail.result) in
    c.put_eight-2.ensures ∙ ap (λ (l : List ℕ). replaced l (at + 8) back) c.put_eight.ensures ∙ replaced_twice old at (at + 8) front back refl (omega (arith, c.requires))
    ∙ (λ x. replaced old at (c.head.ensures x ++ c.tail.ensures x))
