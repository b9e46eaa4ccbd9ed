use Rattle.std.proofs.Common.{◌∙◌, ap, map}
use Rattle.ps_bench_waves.specs.Values.{held}
use Rattle.ps_bench_waves.specs.Dumping.{wires_held}
use Rattle.ps_bench_waves.proofs.Anyway.{on_any}
use Rattle.ps_bench_waves.proofs.dumper.DumperTakerWatchedStruckWorld.take_scan.Goals as goal

pub returns-clause-takes : goal.returns-clause-takes
returns-clause-takes g c = on_any c.put_scan.result _ (record {
  parts = c.take_values.ensures.takes.parts;
  begun = c.put_scan.ensures.begun;
  last = c.put_scan.ensures.last ∙ ap (map held) c.as_slice.ensures.value ∙ c.take_values.ensures.takes.values
      ∙ (λ i. wires_held c.args.app.now c.args.self.now.parts.items c.args.self.now.next (record {
        now = c.args.now;
        verdict = c.args.verdict;
        report = c.args.report.now;
        before = c.signals_before.ensures i;
        signals = c.signals.ensures i;
      }));
  next = c.take_values.ensures.takes.next;
})
