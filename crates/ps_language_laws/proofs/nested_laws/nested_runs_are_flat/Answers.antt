use Rattle.ps_language_laws.proofs.WholeRuns as runs
use Rattle.ps_language_laws.proofs.nested_laws.nested_runs_are_flat.Goals as goal

pub returns : goal.returns
returns c = runs.nested_runs_are_flat
