use Rattle.std.proofs.Common.{subst}
use Rattle.ps_names.specs.Offences.{IsFirst}
use Rattle.ps_names.proofs.Firsts.{refused_first}
use Rattle.ps_offences.specs.BlockRules.{block_offences}
use Rattle.ps_offences.proofs.laws.names_the_first.Goals as goal

pub returns-clause-first : goal.returns-clause-first
returns-clause-first c = λ l. refused_first (block_offences l)

pub returns-clause-none : goal.returns-clause-none
returns-clause-none c = λ l none. subst (IsFirst (block_offences l)) none (refused_first (block_offences l))
