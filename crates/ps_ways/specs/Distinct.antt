-- The conditions of a kind, and that no two have the same words.
use Rattle.std.specs.Prelude.{ℕ, Bool, true, false, ◌&&◌, ◌++◌, not, nat_lt, List, [], ◌∷◌, codes, flat_map, length}
use Rattle.std.specs.Prelude.{map}
use Rattle.std.specs.List.{list_all, range_with_len}
use Rattle.std.specs.Str.{bytes_eq}
use Rattle.ps_model.specs.Blocks.{block}
use Rattle.ps_model.specs.declared.kind.Kind.{Kind}
use Rattle.ps_ways.specs.declared.way.Ask.{Ask}
use Rattle.ps_ways.specs.declared.way.Ask.TheVariants.{Pin, Edge, Held, Rise, Elapsed, NoMode, OneMode}
use Rattle.ps_ways.specs.declared.way.Ask.TheVariants.{ManyModes, LatchedMode}
use Rattle.ps_ways.specs.declared.way.Literal.{Literal}
use Rattle.ps_ways.specs.declared.way.Literal.TheVariants.{Any, Is, Not}
use Rattle.ps_ways.specs.declared.way.Way.{Way}
use Rattle.ps_ways.specs.Tables.{ways_of}
use Rattle.ps_ways.specs.Conditions.{subject_words, told_words}

-- what can be asked of a kind: of its input pins, and the rest
abbrev pub asks_of : Kind → List Ask
asks_of kind =
    map (λ j. Pin j) (range_with_len 0 (length (block kind).inputs))
    ++ Edge ∷ Held ∷ Rise ∷ Elapsed ∷ NoMode ∷ OneMode ∷ ManyModes ∷ LatchedMode ∷ []

-- a condition in words
abbrev pub words : Kind → Ask → (holds : Bool) → List ℕ
words kind a holds = subject_words kind a holds ++ codes " " ++ told_words a holds

-- all conditions of a kind in words
abbrev pub all_words : Kind → List (List ℕ)
all_words kind = flat_map (λ a. words kind a true ∷ words kind a false ∷ []) (asks_of kind)

-- no two of these are the same
abbrev pub differ : List (List ℕ) → Bool
differ [] = true
differ (w ∷ ws) = list_all (λ other. not (bytes_eq w other)) ws && differ ws

-- No two conditions of a kind have the same words.
abbrev pub have_words_of_their_own : Kind → Bool
have_words_of_their_own kind = differ (all_words kind)

-- what is asked is of an input pin of the kind, where it is of a pin
abbrev pub is_of : Kind → Ask → Bool
is_of kind (Pin j) = nat_lt j (length (block kind).inputs)
is_of kind _ = true

-- and so of a literal
abbrev pub asks_of_kind : Kind → Literal → Bool
asks_of_kind kind Any = true
asks_of_kind kind (Is a) = is_of kind a
asks_of_kind kind (Not a) = is_of kind a

-- What the ways of a kind ask can be asked of it.
abbrev pub are_asked : Kind → Bool
are_asked kind =
    list_all (λ (w : Way). asks_of_kind kind w.first && (asks_of_kind kind w.second && asks_of_kind kind w.third))
    (ways_of kind)
