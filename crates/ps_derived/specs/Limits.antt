-- The limits of a text with function blocks, and the counts by which they are decided.
use Rattle.std.specs.Prelude.{ℕ, ◌+◌, ◌≤◌, min, length}
use Rattle.ps_parser.specs.Tree.{SourceTree}
use Rattle.ps_derived.specs.declared.library.Library.{Library}
use Rattle.ps_derived.specs.declared.sizes.BlockSize.{BlockSize}
use Rattle.ps_derived.specs.declared.limits.TheConstants.{MOST_BLOCKS, MOST_FLAT_NAMES, MOST_FLAT_STATEMENTS}
use Rattle.ps_derived.specs.Bodies.{declared_names, inputs}
use Rattle.ps_derived.specs.Flat.{FlatBlock, flat}

-- how many names a source declares
abbrev pub name_count : SourceTree → ℕ
name_count s = length (declared_names s.sections)

-- There are at most 64 function blocks, and the flat source has at most 4,000 declared names and 20,000 statements.
pub record IsWithinLimits (l : Library) : Type 0 where
  pub blocks : length l.blocks ≤ MOST_BLOCKS
  pub names : name_count (flat l) ≤ MOST_FLAT_NAMES
  pub statements : length (flat l).statements ≤ MOST_FLAT_STATEMENTS

-- a count that is over its limit is one more than the limit
abbrev pub counted_to : ℕ → ℕ → ℕ
counted_to limit n = min n (limit + 1)

-- the size of a block that is laid flat
abbrev pub size_of : FlatBlock → BlockSize
size_of b = record {
  name = b.name;
  inputs = counted_to MOST_FLAT_STATEMENTS (length (inputs b.declared));
  names = counted_to MOST_FLAT_NAMES (name_count b.flat);
  statements = counted_to MOST_FLAT_STATEMENTS (length b.flat.statements);
}
