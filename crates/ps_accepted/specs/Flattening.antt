-- What comes of a text with function blocks.
use Rattle.std.specs.Prelude.{◌≡◌, [], Some, Result, Ok, Err}
use Rattle.ps_base.specs.declared.failing.Fail.{Fail}
use Rattle.ps_base.specs.declared.failing.Fail.TheVariants.{Memory, Refused}
use Rattle.ps_parser.specs.Tree.{SourceTree}
use Rattle.ps_names.specs.Offences.{refused}
use Rattle.ps_derived.specs.declared.library.Library.{Library}
use Rattle.ps_derived.specs.Flat.{flat}
use Rattle.ps_offences.specs.BlockRules.{block_offences}

-- The text breaks no rule B, and the source is its flat source.
pub record IsFlat (l : Library) (s : SourceTree) : Type 0 where
  pub unbroken : block_offences l ≡ []
  pub is : s ≡ flat l

-- the flat source where no rule B is broken, and else the first offence
abbrev pub Flattens : Library → Result SourceTree Fail → Type 0
Flattens l (Ok s) = IsFlat l s
Flattens l (Err Memory) = Unit {0}
Flattens l (Err (Refused refusal)) = refused (block_offences l) ≡ Some refusal
