use Rattle.ps_bench_waves.proofs.Tokens.{identifier_unique, identifier_prints}
use Rattle.ps_bench_waves.proofs.laws.identifiers_are_unique.Goals as goal

pub returns-clause-unique : goal.returns-clause-unique
returns-clause-unique c = identifier_unique

pub returns-clause-printable : goal.returns-clause-printable
returns-clause-printable c = identifier_prints
