use Rattle.std.proofs.Common.{[], arith}
use Rattle.ps_model.specs.Meaning.{nothing}
use Rattle.ps_bench_report.proofs.Covering.{covered}
use Rattle.ps_bench_report.proofs.Recorded.{Takes, recorded}
use Rattle.ps_bench_report.proofs.Stopping.{done_refused}
use Rattle.ps_bench_report.proofs.filming.record_items.Goals as goal

pub returns : goal.returns
returns g c = record {
  records = λ tells text held reading names begun ws means.
      let does = c.do_items.ensures.does tells text held reading in
      recorded c.args.app.now names c.sound.ensures _ _ c.args.runner.now.performer c.args.runner.now.taker _ does.bytes _ _ _ begun does.did ws means;
  covers = λ tells text held reading stands is_at ws means.
      let does = c.do_items.ensures.does tells text held reading in
      covered c.args.app.now c.sound.ensures _ (Takes c.args.app.now []) (λ t p o t' took. took.1) _ c.args.runner.now.performer c.args.runner.now.taker _
      does.bytes _ _ _ nothing ws stands (omega arith) is_at means does.did;
  refuses = λ tells text held reading refusal is.
      done_refused c.args.app.now _ _ _ _ _ _ _ _ _ _ refusal (c.do_items.ensures.does tells text held reading).did is;
  failures = c.do_items.ensures.failures;
}
