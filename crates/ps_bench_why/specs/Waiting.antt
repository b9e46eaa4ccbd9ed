-- What a state waits for that stays.
use Rattle.std.specs.Prelude.{ℕ, ◌+◌, ◌==◌, ◌&&◌, ◌||◌, not, Bool, false, List, codes}
use Rattle.std.specs.List.{list_any}
use Rattle.ps_model.specs.declared.kind.Kind.{Kind}
use Rattle.ps_ways.specs.Tables.{ways_of}
use Rattle.ps_ways.specs.declared.way.Ask.{Ask}
use Rattle.ps_ways.specs.declared.way.Ask.TheVariants.{Pin, Edge, Held, Rise, Elapsed, NoMode, OneMode}
use Rattle.ps_ways.specs.declared.way.Ask.TheVariants.{ManyModes, LatchedMode}
use Rattle.ps_ways.specs.declared.way.Literal.{Literal}
use Rattle.ps_ways.specs.declared.way.Literal.TheVariants.{Any, Is, Not}
use Rattle.ps_ways.specs.declared.way.Way.{Way}
use Rattle.ps_ways.specs.Conditions.{subject_words}
use Rattle.ps_why.specs.Ending.{is_end}

-- a number of its own for each thing that can be asked
abbrev pub number_of : Ask → ℕ
number_of Edge = 0
number_of Held = 1
number_of Rise = 2
number_of Elapsed = 3
number_of NoMode = 4
number_of OneMode = 5
number_of ManyModes = 6
number_of LatchedMode = 7
number_of (Pin j) = 8 + j

-- two ask the same
abbrev pub is_same_ask : Ask → Ask → Bool
is_same_ask a b = number_of a == number_of b

-- a literal does not hold, since something is so (`holds`), or is not so
abbrev pub is_against : Ask → (holds : Bool) → Literal → Bool
is_against a holds Any = false
is_against a holds (Is b) = not holds && is_same_ask a b
is_against a holds (Not b) = holds && is_same_ask a b

-- a way is closed by that: one of its literals does not hold
abbrev pub is_closed_by : Ask → (holds : Bool) → Way → Bool
is_closed_by a holds w =
    is_against a holds w.first || (is_against a holds w.second || is_against a holds w.third)

-- a state has a way to one that is no error
abbrev pub has_way_on : Kind → (state : ℕ) → Bool
has_way_on kind q = list_any (is_end q false) (ways_of kind)

-- a way that would end a state is closed, since something is so, or is not so
abbrev pub is_end_closed : (state : ℕ) → (to_errors_alone : Bool) → Ask → (holds : Bool) → Way → Bool
is_end_closed q to_errors_alone a holds w = is_end q to_errors_alone w && is_closed_by a holds w

-- there is such a way
abbrev pub closes_an_end : Kind → (state : ℕ) → Ask → (holds : Bool) → Bool
closes_an_end kind q a holds = list_any (is_end_closed q (not (has_way_on kind q)) a holds) (ways_of kind)

-- A state that stays waits until something is no longer so (`holds`), or no longer not so: a way that would end it is
-- closed by that. In 8000 nothing is waited for: there the block does what it is for.
abbrev pub is_waited_for : Kind → (state : ℕ) → Ask → (holds : Bool) → Bool
is_waited_for kind q a holds = not (q == 0x8000) && closes_an_end kind q a holds

-- What stands in the place of what is waited for: `it`, which is what was spoken of, and of modes what there is of them.
abbrev pub standing_words : Kind → Ask → (holds : Bool) → List ℕ
standing_words kind NoMode holds = subject_words kind NoMode holds
standing_words kind ManyModes holds = subject_words kind ManyModes holds
standing_words kind (Pin j) holds = codes "it"
standing_words kind Edge holds = codes "it"
standing_words kind Held holds = codes "it"
standing_words kind Rise holds = codes "it"
standing_words kind Elapsed holds = codes "it"
standing_words kind OneMode holds = codes "it"
standing_words kind LatchedMode holds = codes "it"
