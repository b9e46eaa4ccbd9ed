-- Whole texts: the function blocks, and then the program.
use Rattle.std.specs.Prelude.{ℕ, List, ◌++◌}
use Rattle.std.specs.List.{flat_map, AllByRecursion}
use Rattle.ps_parser.specs.declared.heads.Heads.TheVariants.{Program, Block}
use Rattle.ps_parser.specs.Symbol.{Symbol}
use Rattle.ps_parser.specs.Spelt.{spelt}
use Rattle.ps_parser.specs.Language.{Language}
use Rattle.ps_parser.specs.Parsing.{IsSourceWithin}
use Rattle.ps_derived.specs.declared.library.Library.{Library}

-- the function blocks in order, and then the program
abbrev pub library_spelt : Library → List Symbol
library_spelt l = flat_map (spelt Block) l.blocks ++ spelt Program l.program

-- Each source in it is one of the grammar, whose groups are nested at most so deep.
pub record IsLibraryWithin (depth : ℕ) (l : Library) : Type 0 where
  pub blocks : AllByRecursion (IsSourceWithin depth) l.blocks
  pub program : IsSourceWithin depth l.program

-- the language of whole texts
abbrev pub libraries : Language Library
libraries = record { within = IsLibraryWithin; spelt = library_spelt }
