use Rattle.std.proofs.Common.{◌≡◌, ◌∙◌, length, subst, arith}
use Rattle.ps_bench_waves.specs.Reads.{AreReadsOf}
use Rattle.ps_bench_waves.proofs.dumper.Dumper.new.Goals as goal

pub returns-clause-fits : goal.returns-clause-fits
returns-clause-fits c =
    let sized : c.len-wires.result ≡ length c.args.parts.items = omega (arith, c.len-wires.ensures, c.args.parts.ok) in record {
      values = omega (arith, sized, c.in_ok-vec.ensures.len, c.in_ok-vec.field-0.ok);
      wires = c.in_ok-new.ensures.wires ∙ sized;
      reads = subst (AreReadsOf c.args.app.now c.in_ok-reads.reads.items) c.as_slice.ensures.value c.in_ok-reads.ensures;
    }
