-- The conditions of guards in words.
use Rattle.std.specs.Prelude.{ℕ, Bool, true, false, List, Option, Some, None, codes, find, slice_index_or}
use Rattle.std.specs.Prelude.{if◌then◌else◌, ◌==◌}
use Rattle.std.specs.Option.{option_map_or}
use Rattle.ps_model.specs.Blocks.{Pin as PinRow, block}
use Rattle.ps_model.specs.Pins.{pin_names}
use Rattle.ps_model.specs.declared.kind.Kind.{Kind}
use Rattle.ps_model.specs.declared.kind.Ty.{Ty}
use Rattle.ps_model.specs.declared.kind.Ty.TheVariants.{Safe, Bool as Plain, Time}
use Rattle.ps_ways.specs.declared.way.Ask.{Ask}
use Rattle.ps_ways.specs.declared.way.Ask.TheVariants.{Pin, Edge, Held, Rise, Elapsed, NoMode, OneMode}
use Rattle.ps_ways.specs.declared.way.Ask.TheVariants.{ManyModes, LatchedMode}
use Rattle.ps_ways.specs.declared.way.Literal.{Literal}
use Rattle.ps_ways.specs.declared.way.Literal.TheVariants.{Any, Is, Not}
use Rattle.ps_ways.specs.declared.condition.Condition.{Condition}

-- what a literal of a guard asks for
abbrev pub condition_of : Literal → Option Condition
condition_of Any = None
condition_of (Is a) = Some (record { ask = a; holds = true })
condition_of (Not a) = Some (record { ask = a; holds = false })

-- a pin by its name
abbrev pub pin_words : Kind → (j : ℕ) → List ℕ
pin_words kind j = slice_index_or (pin_names kind) j (codes "no pin")

-- the auxiliary input by its name
abbrev pub auxiliary_words : Kind → List ℕ
auxiliary_words kind = option_map_or (pin_words kind) (block kind).auxiliary (codes "no pin")

-- a pin is of the type TIME
abbrev pub is_time : Ty → Bool
is_time Safe = false
is_time Plain = false
is_time Time = true

-- what stands for a time that no TIME pin gives
abbrev pub fixed_words : (ms : ℕ) → List ℕ
fixed_words ms = if ms == 500 then codes "the time of 500 ms" else codes "no time"

-- the time that the states of a kind wait for: its TIME pin by its name, and else the time that is fixed
abbrev pub limit_words : Kind → List ℕ
limit_words kind =
    option_map_or (λ (p : PinRow). p.name) (find (λ (p : PinRow). is_time p.ty) (block kind).inputs)
    (fixed_words (block kind).fixed_limit)

-- what a condition of a kind speaks of
abbrev pub subject_words : Kind → Ask → (holds : Bool) → List ℕ
subject_words kind (Pin j) holds = pin_words kind j
subject_words kind Edge holds = codes "Reset"
subject_words kind Held holds = codes "Reset"
subject_words kind Rise holds = auxiliary_words kind
subject_words kind Elapsed holds = limit_words kind
subject_words kind NoMode true = codes "no mode"
subject_words kind NoMode false = codes "a mode"
subject_words kind OneMode holds = codes "one mode alone"
subject_words kind ManyModes true = codes "two or more modes"
subject_words kind ManyModes false = codes "at most one mode"
subject_words kind LatchedMode holds = codes "the latched mode alone"

-- what is told of it where the condition is so
abbrev pub told_words : Ask → (holds : Bool) → List ℕ
told_words (Pin j) true = codes "is TRUE"
told_words (Pin j) false = codes "is FALSE"
told_words Edge true = codes "rises"
told_words Edge false = codes "does not rise"
told_words Held true = codes "is held"
told_words Held false = codes "is not held"
told_words Rise true = codes "rises"
told_words Rise false = codes "does not rise"
told_words Elapsed true = codes "has elapsed"
told_words Elapsed false = codes "has not elapsed"
told_words NoMode holds = codes "is TRUE"
told_words OneMode true = codes "is TRUE"
told_words OneMode false = codes "is not TRUE"
told_words ManyModes true = codes "are TRUE"
told_words ManyModes false = codes "is TRUE"
told_words LatchedMode true = codes "is TRUE"
told_words LatchedMode false = codes "is not TRUE"

-- what is told of it where the condition is waited for
abbrev pub awaited_words : Ask → (holds : Bool) → List ℕ
awaited_words (Pin j) true = codes "to be TRUE"
awaited_words (Pin j) false = codes "to be FALSE"
awaited_words Edge true = codes "to rise"
awaited_words Edge false = codes "not to rise"
awaited_words Held true = codes "to be held"
awaited_words Held false = codes "not to be held"
awaited_words Rise true = codes "to rise"
awaited_words Rise false = codes "not to rise"
awaited_words Elapsed true = codes "to elapse"
awaited_words Elapsed false = codes "not to elapse"
awaited_words NoMode holds = codes "to be TRUE"
awaited_words OneMode true = codes "to be TRUE"
awaited_words OneMode false = codes "not to be TRUE"
awaited_words ManyModes holds = codes "to be TRUE"
awaited_words LatchedMode true = codes "to be TRUE"
awaited_words LatchedMode false = codes "not to be TRUE"
