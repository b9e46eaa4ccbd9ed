use Rattle.ps_cover.proofs.OfTraces.{text_of_traces}
use Rattle.ps_cover.proofs.coverage_laws.text_is_of_traces.Goals as goal

pub returns : goal.returns
returns c = text_of_traces
