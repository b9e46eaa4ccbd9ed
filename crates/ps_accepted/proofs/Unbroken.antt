-- Where nothing is refused, no rule is broken.
use Rattle.std.proofs.Common.{◌≡◌, [], None, sym, subst}
use Rattle.ps_names.specs.Offences.{refused, IsFirst}
use Rattle.ps_names.proofs.Firsts.{refused_first}
use Rattle.ps_derived.specs.declared.library.Library.{Library}
use Rattle.ps_offences.specs.BlockRules.{block_offences}

pub none_refused : (l : Library) → None ≡ refused (block_offences l) → block_offences l ≡ []
none_refused l none_ = subst (IsFirst (block_offences l)) (sym none_) (refused_first (block_offences l))
