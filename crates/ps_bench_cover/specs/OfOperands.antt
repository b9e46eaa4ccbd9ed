-- Each place is that of the operand that decides.
use Rattle.std.specs.Prelude.{◌≡◌, ℕ, List, Some, slice_get, slice_index_or}
use Rattle.ps_cover.specs.Listing.{points_of}
use Rattle.ps_cover.specs.Points as points
use Rattle.ps_cover.specs.Points.{decision}
use Rattle.ps_model.specs.Formula.{Formula}
use Rattle.ps_model.specs.Network.{Network}
use Rattle.ps_names.specs.Names.{entries}
use Rattle.ps_names.specs.Stands.{Stands, factor_formula, product_formula}
use Rattle.ps_names.specs.declared.entry.Entry.{Entry}
use Rattle.ps_parser.specs.Tree.{SourceTree}
use Rattle.ps_bench_cover.specs.Standing.{places_of}
use Rattle.ps_bench_cover.specs.Operands.{Operand, nowhere, of_and, of_or, place_of}

-- the formula that an operand stands for, over these declared names
abbrev pub formula_of : List Entry → Operand → Formula
formula_of es (of_and f) = factor_formula es f
formula_of es (of_or p) = product_formula es p

-- an operand as it is written is the one that decides, and stands at this place
pub record IsWritten (tree : SourceTree) (o : points.Operand) (w : Operand) : Type 0 where
  pub is : slice_get o.operands o.place ≡ Some (formula_of (entries tree) w)

-- Where an application stands for a source, each point that is a decision has the place of its operand.
abbrev pub PlacesAreOfOperands : Type 0
PlacesAreOfOperands = (tree : SourceTree) (net : Network) → Stands tree net → (n : ℕ) (o : points.Operand) →
    slice_get (points_of net) n ≡ Some (decision o) →
    (w : Operand) × IsWritten tree o w × (slice_index_or (places_of net tree) n nowhere ≡ place_of w)
