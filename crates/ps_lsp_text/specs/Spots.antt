-- Places of tokens that are counted on from one to the next, and symbols that are made.
use Rattle.std.specs.Prelude.{◌≡◌, ◌≤◌, ℕ, List, min}
use Rattle.std.specs.List.{slice_range}
use Rattle.ps_text.specs.Columns.{last_column, units}
use Rattle.ps_text.specs.declared.positions.Range.{Range}
use Rattle.ps_lsp_text.specs.declared.listing.Spot.{Spot}
use Rattle.ps_lsp_text.specs.declared.listing.Symbol.{Symbol}

-- a place of a text is after the first byte of its line, and its code units are those between them
pub record IsSpot (text : List ℕ) (spot : Spot) : Type 0 where
  pub ordered : spot.begin ≤ spot.«from»
  pub units_are : spot.units ≡ min (units (slice_range text spot.begin spot.«from»)) last_column

-- a symbol with this name and this type
abbrev pub symbol_with : (name ty : List ℕ) → Range → Symbol
symbol_with name ty range = record { name = name; ty = ty; range = range }
