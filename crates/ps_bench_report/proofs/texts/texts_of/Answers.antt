use Rattle.std.proofs.Common.{◌∙◌, ap}
use Rattle.ps_bench_report.specs.Telling.{notes_text}
use Rattle.ps_bench_report.proofs.texts.texts_of.Goals as goal

pub returns : goal.returns
returns c = record {
  texts = record {
    source = c.in_ok-source.ensures;
    notes = c.in_ok-notes.ensures ∙ ap (notes_text c.args.shown.now.app.now c.args.shown.now.source.now) c.as_bytes.ensures.value;
    demands = c.in_ok-demands.ensures;
  };
  coverage = c.in_ok-coverage.ensures;
}
