use Rattle.std.proofs.Common.{List, ℕ, ◌-◌, ◌*◌, ◌/◌, ◌++◌, ◌∙◌, take, ap, sym, append_assoc, arith}
use Rattle.ps_bench_waves.specs.Text.{bits}
use Rattle.ps_bench_waves.proofs.Steps.{octets_some}
use Rattle.ps_bench_waves.proofs.change.+put_bits.Goals as goal

pub returns-clause-bytes : goal.returns-clause-bytes
returns-clause-bytes t c =
    let before = take c.args.at c.args.text.now in let n = c.args.number in let k = c.args.octets in
    c.put.ensures.bytes
    ∙ (λ i. c.put_bits-end.ensures.bytes i ++ c.octet.ensures i)
    ∙ append_assoc before (bits (8 * (k - 1)) (n / 256)) (bits 8 n)
    ∙ ap (λ (bytes : List ℕ). before ++ bytes) (sym (octets_some k n (omega (arith, c.if-octets-eq0.false))))
