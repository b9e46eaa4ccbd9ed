-- A fact of a scan in words.
use Rattle.std.specs.Prelude.{ℕ, ◌==◌, Bool, true, not, List, [], ◌++◌, Option, Some, None, codes, decimal, nat_lt}
use Rattle.std.specs.Prelude.{slice_get, slice_index_or, if◌then◌else◌}
use Rattle.ps_ways.specs.Conditions.{awaited_words, subject_words, told_words}
use Rattle.ps_cover.specs.Tallying.{called_kind}
use Rattle.ps_cover.specs.Lines.{called_name, condition_text, truth}
use Rattle.ps_model.specs.Action.{Action, Actual, assigns, calls}
use Rattle.ps_model.specs.Action.Actual.{free, literal, time, wired}
use Rattle.ps_model.specs.Network.{Network, input_count, instance_name, kind_at}
use Rattle.ps_model.specs.declared.kind.Kind.{Kind}
use Rattle.ps_why.specs.declared.call.CallScene.{CallScene}
use Rattle.ps_report.specs.Lines.{code_text}
use Rattle.ps_ways.specs.States.{state_words}
use Rattle.ps_ways.specs.declared.way.Ask.{Ask}
use Rattle.ps_ways.specs.declared.way.Ask.TheVariants.{Edge, Rise}
use Rattle.ps_why.specs.declared.fact.Fact.{Fact}
use Rattle.ps_why.specs.declared.fact.Fact.TheVariants.{SignalIs, SignalWas, PinIs, AskIs, StateIs, StateWas}
use Rattle.ps_why.specs.declared.fact.Fact.TheVariants.{ResetWas, AuxiliaryWas, ModeIs, ModeWas}
use Rattle.ps_bench_why.specs.Moments.{Moment, call_pin_text, signal_text}
use Rattle.ps_bench_why.specs.Waiting.{is_waited_for, standing_words}
use Rattle.ps_why.specs.Ending.{is_error}

-- when something was that was before the scan
abbrev pub before_text : (before : Option ℕ) → List ℕ
before_text None = codes " before the first scan"
before_text (Some ms) = codes " in the scan before, at " ++ decimal ms

-- an input of the application ends a branch
abbrev pub input_text : Network → (s : ℕ) → List ℕ
input_text net s = if nat_lt s (input_count net) then codes ", an input" else []

-- a signal in this scan, as `S_L is FALSE, an input`
abbrev pub signal_is : Network → (s : ℕ) → Bool → List ℕ
signal_is net s b = signal_text net s ++ codes " is " ++ truth b ++ input_text net s

-- a signal in the scan before
abbrev pub signal_was : Moment → (s : ℕ) → Bool → List ℕ
signal_was m s b = signal_text m.net s ++ codes " was " ++ truth b ++ before_text m.before

-- what stands at a pin of a call, where that ends a branch
abbrev pub ending_of : Option Actual → List ℕ
ending_of (Some free) = codes ", left open"
ending_of (Some (literal b)) = codes ", a literal"
ending_of (Some (time ms)) = []
ending_of (Some (wired e)) = []
ending_of None = []

-- the same, by the step of the call
abbrev pub pin_ending : Option Action → (j : ℕ) → List ℕ
pin_ending (Some (calls i args)) j = ending_of (slice_get args j)
pin_ending (Some (assigns s e)) j = []
pin_ending None j = []

-- a pin of the call that a step is, as `Guard.Reset is FALSE, left open`
abbrev pub pin_is : Network → (k j : ℕ) → Bool → List ℕ
pin_is net k j b = call_pin_text net k j ++ codes " is " ++ truth b ++ pin_ending (slice_get net.steps k) j

-- the state of an instance, if it stayed in it
abbrev pub stayed_in : Option CallScene → Option ℕ
stayed_in (Some c) = if c.from == c.code then Some c.code else None
stayed_in None = None

-- that of the instance that a step calls
abbrev pub called_stayed : Moment → Option Action → Option ℕ
called_stayed m (Some (calls i args)) = stayed_in (slice_get m.calls i)
called_stayed m (Some (assigns s e)) = None
called_stayed m None = None

-- what is so of what a guard asks, as `: Reset does not rise`
abbrev pub so_text : Kind → Ask → Bool → List ℕ
so_text kind a b = codes ": " ++ condition_text kind (record { ask = a; holds = b })

-- what is waited for, and what there is in its place, as ` waits for Reset to rise: it does not rise`
abbrev pub awaited_text : Kind → Ask → Bool → List ℕ
awaited_text kind a b =
    codes " waits for " ++ subject_words kind a (not b) ++ codes " " ++ awaited_words a (not b) ++ codes ": "
    ++ standing_words kind a b ++ codes " " ++ told_words a b

-- one of both, of an instance that stayed in a state, or did not
abbrev pub asked_text : Kind → (stayed : Option ℕ) → Ask → Bool → List ℕ
asked_text kind (Some q) a b = if is_waited_for kind q a b then awaited_text kind a b else so_text kind a b
asked_text kind None a b = so_text kind a b

-- what a guard asks of the instance that a step calls
abbrev pub ask_is : Moment → (k : ℕ) → Ask → Bool → List ℕ
ask_is m k a b =
    called_name m.net (slice_get m.net.steps k)
    ++ asked_text (called_kind m.net (slice_get m.net.steps k)) (called_stayed m (slice_get m.net.steps k)) a b

-- words in brackets, if there are some
abbrev pub bracketed : Option (List ℕ) → List ℕ
bracketed (Some words) = codes " (" ++ words ++ codes ")"
bracketed None = []

-- a state, as `8004 (waiting for switch 2)`
abbrev pub state_named : Kind → (code : ℕ) → List ℕ
state_named kind q = code_text q ++ bracketed (state_words kind q)

-- A state that stayed waits: Idle for Activate, an error for its end. In 8000 the block does what it is for.
abbrev pub waits_words : (code : ℕ) → List ℕ
waits_words q =
    if q == 0 then codes " and waits for Activate"
    else if q == 0x8000 then []
    else if is_error q then codes " and waits to be ended"
    else codes " and waits"

-- the same of a state that stayed, and nothing of one that did not
abbrev pub waits_text : (stayed : Option ℕ) → List ℕ
waits_text (Some q) = waits_words q
waits_text None = []

-- a state, since when it has been entered, and that it waits
abbrev pub state_is : Moment → (i code : ℕ) → List ℕ
state_is m i q =
    instance_name m.net i ++ codes " is in " ++ state_named (kind_at m.net i) q ++ codes " since "
    ++ decimal (slice_index_or m.since i 0) ++ waits_text (stayed_in (slice_get m.calls i))

-- since when a state before the scan had been entered; before the first scan each instance is idle
abbrev pub since_text : (since : ℕ) → (before : Option ℕ) → List ℕ
since_text since None = codes " before the first scan"
since_text since (Some ms) = codes " since " ++ decimal since ++ codes ", up to this scan"

-- the state before the scan, and since when it has been entered
abbrev pub state_was : Moment → (i code : ℕ) → List ℕ
state_was m i q =
    instance_name m.net i ++ codes " was in " ++ state_named (kind_at m.net i) q
    ++ since_text (slice_index_or m.since_before i 0) m.before

-- a pin of an instance in its last step: Reset, or the auxiliary input
abbrev pub edge_was : Moment → (i : ℕ) → Ask → Bool → List ℕ
edge_was m i a b =
    instance_name m.net i ++ codes "." ++ subject_words (kind_at m.net i) a true ++ codes " was " ++ truth b
    ++ before_text m.before

-- the mode that an instance has latched
abbrev pub mode_is : Network → (i mode : ℕ) → List ℕ
mode_is net i mode = instance_name net i ++ codes " has latched mode " ++ decimal mode

-- the mode that it had latched before
abbrev pub mode_was : Moment → (i mode : ℕ) → List ℕ
mode_was m i mode = instance_name m.net i ++ codes " had latched mode " ++ decimal mode ++ before_text m.before

-- A fact in words.
abbrev pub fact_text : Moment → Fact → List ℕ
fact_text m (SignalIs s b) = signal_is m.net s b
fact_text m (SignalWas s b) = signal_was m s b
fact_text m (PinIs k j b) = pin_is m.net k j b
fact_text m (AskIs k a b) = ask_is m k a b
fact_text m (StateIs i q) = state_is m i q
fact_text m (StateWas i q) = state_was m i q
fact_text m (ResetWas i b) = edge_was m i Edge b
fact_text m (AuxiliaryWas i b) = edge_was m i Rise b
fact_text m (ModeIs i mode) = mode_is m.net i mode
fact_text m (ModeWas i mode) = mode_was m i mode
