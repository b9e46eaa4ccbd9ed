-- Where the operands that decide stand, by the numbers of their points.
use Rattle.std.specs.Prelude.{ℕ, List, [], ◌∷◌, map, length, Option, Some, None, slice_get}
use Rattle.std.specs.List.{flat_map, range_with_len}
use Rattle.ps_base.specs.declared.failing.Place.{Place}
use Rattle.ps_model.specs.Network.{Network}
use Rattle.ps_parser.specs.Tree.{SourceTree, StatementTree}
use Rattle.ps_cover.specs.Points.{Point, decision, has, marks}
use Rattle.ps_cover.specs.Listing.{points_of}
use Rattle.ps_cover.specs.Tallying.{called_kind}
use Rattle.ps_bench_cover.specs.Operands.{Operand, nowhere, place_of, statement_operands}

-- of the statement of a step, if it is there
abbrev pub step_operands : Network → (step : ℕ) → Option StatementTree → List Operand
step_operands net k None = []
step_operands net k (Some s) = statement_operands (called_kind net (slice_get net.steps k)) s

-- of all statements of a source that this application stands for, one after another
abbrev pub source_operands : Network → SourceTree → List Operand
source_operands net tree =
    flat_map (λ k. step_operands net k (slice_get tree.statements k)) (range_with_len 0 (length net.steps))

-- the place of a point, where these places of decisions are left: that of a decision is the next one
abbrev pub next_place : Point → (left : List Place) → Place
next_place (decision o) (place ∷ places) = place
next_place (decision o) [] = nowhere
next_place (marks k mark) places = nowhere
next_place (has s) places = nowhere

-- the places of decisions that are left after a point
abbrev pub left_behind : Point → (left : List Place) → List Place
left_behind (decision o) (place ∷ places) = places
left_behind (decision o) [] = []
left_behind (marks k mark) places = places
left_behind (has s) places = places

-- the points that are decisions get these places, one after another, and the others none
abbrev pub placed : List Point → List Place → List Place
placed [] places = []
placed (p ∷ points) places = next_place p places ∷ placed points (left_behind p places)

-- for each point of an application the place of its operand in the source
abbrev pub places_of : Network → SourceTree → List Place
places_of net tree = placed (points_of net) (map place_of (source_operands net tree))
