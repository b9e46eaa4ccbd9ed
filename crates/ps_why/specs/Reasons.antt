-- The reasons of a fact of a scan: the facts on which it rests directly, in the order in which they are told.
use Rattle.std.specs.Prelude.{ℕ, ◌==◌, not, Bool, true, false, List, [], ◌∷◌, ◌++◌, Option, Some, None, find, flat_map, map, length}
use Rattle.std.specs.Prelude.{nat_lt, option_to_list, slice_get, if◌then◌else◌}
use Rattle.std.specs.List.{range_with_len}
use Rattle.std.specs.Option.{option_map_or}
use mathlib.Core.Bool.{beq}
use Rattle.ps_model.specs.Action.{Action, Actual, assigns, calls, free, literal, time, wired}
use Rattle.ps_model.specs.Blocks.{block}
use Rattle.ps_model.specs.Demand.{demand, is_met}
use Rattle.ps_model.specs.Drivers.{driver}
use Rattle.ps_model.specs.Formula.{Formula, Formulas, signal, all_of, any_of, no_operand, operand, value, all_true, any_true}
use Rattle.ps_model.specs.Network.{Network, input_count, kind_at}
use Rattle.ps_model.specs.Table.{Conditions}
use Rattle.ps_model.specs.declared.demands.Need.{Need}
use Rattle.ps_model.specs.declared.driver.Driver.{Driver}
use Rattle.ps_model.specs.declared.driver.Driver.TheVariants.{Assigned, Output}
use Rattle.ps_model.specs.declared.kind.Kind.{Kind}
use Rattle.ps_model.specs.declared.kind.Kind.TheVariants.{ModeSelector}
use Rattle.ps_ways.specs.Tables.{ways_of}
use Rattle.ps_ways.specs.Ways.{asks, holds, meets}
use Rattle.ps_ways.specs.declared.way.Ask.{Ask}
use Rattle.ps_ways.specs.declared.way.Ask.TheVariants.{Pin, Edge, Held, Rise, Elapsed, NoMode, OneMode}
use Rattle.ps_ways.specs.declared.way.Ask.TheVariants.{ManyModes, LatchedMode}
use Rattle.ps_ways.specs.declared.way.Literal.{Literal}
use Rattle.ps_ways.specs.declared.way.Literal.TheVariants.{Any, Is, Not}
use Rattle.ps_ways.specs.declared.way.Way.{Way}
use Rattle.ps_why.specs.FactsRead.{fact_of_read}
use Rattle.ps_why.specs.Guards.{asked}
use Rattle.ps_why.specs.Rests.{unmet}
use Rattle.ps_why.specs.Scenes.{conditions_in, pins_in, read_in}
use Rattle.ps_why.specs.declared.asks.Call.{Call}
use Rattle.ps_why.specs.declared.call.CallScene.{CallScene}
use Rattle.ps_why.specs.declared.fact.Fact.{Fact}
use Rattle.ps_why.specs.declared.fact.Fact.TheVariants.{SignalIs, SignalWas, PinIs, AskIs, StateIs, StateWas}
use Rattle.ps_why.specs.declared.fact.Fact.TheVariants.{ResetWas, AuxiliaryWas, ModeIs, ModeWas}
use Rattle.ps_why.specs.declared.scene.Scene.{Scene}

-- these, if there are some, else those
abbrev pub or_else : {X : Type 0} → List X → List X → List X
or_else [] those = those
or_else (x ∷ xs) those = x ∷ xs

-- ---- A formula.

-- `v`: the value of each signal
module _ (v : ℕ → Bool) where
  abbrev mutual
    -- The signals by which a formula has its value: those of the operands that have the value of the whole. Of an AND
    -- that is FALSE these are the FALSE operands, of one that is TRUE all, of an OR the other way round.
    pub deciding : Formula → List ℕ
    deciding (signal s) = s ∷ []
    deciding (all_of es) = deciding_with (all_true v es) es
    deciding (any_of es) = deciding_with (any_true v es) es

    -- the signals of the operands that have this value
    pub deciding_with : Bool → Formulas → List ℕ
    deciding_with b no_operand = []
    deciding_with b (operand e es) = (if beq (value v e) b then deciding e else []) ++ deciding_with b es

-- ---- An output of an instance, and its state.

-- `k`: the step that calls; `pins`: what it reads at the pins
module _ (k : ℕ) (pins : ℕ → Bool) where
  -- the first pin that a demand names and that is not as it asks, if there is one
  abbrev pub denied : List Need → List Fact
  denied needs = map (unmet k) (option_to_list (find (λ n. not (is_met pins n)) needs))

  -- the pin that a safe output lacks; one that is TRUE lacks none
  abbrev pub lacked : Kind → (output : ℕ) → (is : Bool) → List Fact
  lacked kind j true = []
  lacked kind j false = if nat_lt j (length (block kind).outputs) then denied (demand kind j) else []

  -- a pin that a kind may lack, and what it was in the last step, if it is TRUE
  abbrev pub with_last : Option ℕ → (was : Fact) → List Fact
  with_last None was = []
  with_last (Some j) was = PinIs k j (pins j) ∷ (if pins j then was ∷ [] else [])

  -- the eight pins of the modes
  abbrev pub mode_pins : List Fact
  mode_pins = map (λ j. PinIs k j (pins j)) (range_with_len 1 8)

-- the state of an instance after its call, and the mode if its outputs show one
abbrev pub shown : Kind → (i : ℕ) → CallScene → List Fact
shown ModeSelector i c = StateIs i c.code ∷ ModeIs i c.mode ∷ []
shown _ i c = StateIs i c.code ∷ []

-- what a literal asks, and whether it holds
abbrev pub literal_is : (k : ℕ) → Conditions → Literal → List Fact
literal_is k c Any = []
literal_is k c (Is a) = AskIs k a (asks a c) ∷ []
literal_is k c (Not a) = AskIs k a (asks a c) ∷ []

-- What decides in a guard: the first that it asks and that does not hold; where all holds, all that it asks.
abbrev pub decisive : Conditions → Way → List Literal
decisive c w = or_else (option_to_list (find (λ l. not (meets l c)) (asked w))) (asked w)

-- the guards of a state in their order, up to the one that is taken
abbrev pub tried : Conditions → (state : ℕ) → List Way → List Way
tried c q [] = []
tried c q (w ∷ ws) = if w.state == q then w ∷ (if holds w c then [] else tried c q ws) else tried c q ws

-- what decides in these guards
abbrev pub guards_are : (k : ℕ) → Conditions → List Way → List Fact
guards_are k c ws = flat_map (λ w. flat_map (literal_is k c) (decisive c w)) ws

-- A state rests on Activate; where that is TRUE, on the state before; and where that was not Idle, on its guards.
abbrev pub state_reasons : Kind → (i : ℕ) → CallScene → Conditions → List Fact
state_reasons kind i c seen =
    PinIs c.step 0 (seen.pin 0)
    ∷ (if seen.pin 0
    then StateWas i c.from ∷ (if c.from == 0 then [] else guards_are c.step seen (tried seen c.from (ways_of kind)))
    else [])

-- A mode rests on the states before and after; and on the pins of the modes if it was latched anew, else on the mode
-- before.
abbrev pub mode_reasons : (i : ℕ) → CallScene → (pins : ℕ → Bool) → List Fact
mode_reasons i c pins =
    StateWas i c.from ∷ StateIs i c.code
    ∷ (if c.from == 0x8005 then mode_pins c.step pins else ModeWas i c.last.mode ∷ [])

-- What a guard asks rests on the pins that it looks at, and for an edge on what was in the last step.
abbrev pub ask_reasons : Call → (pins : ℕ → Bool) → Ask → List Fact
ask_reasons call pins (Pin j) = PinIs call.step j (pins j) ∷ []
ask_reasons call pins Edge = with_last call.step pins (block call.kind).reset (ResetWas call.instance call.last.reset)
ask_reasons call pins Held = with_last call.step pins (block call.kind).reset (ResetWas call.instance call.last.reset)
ask_reasons call pins Rise =
    with_last call.step pins (block call.kind).auxiliary (AuxiliaryWas call.instance call.last.auxiliary)
ask_reasons call pins Elapsed = []
ask_reasons call pins NoMode = mode_pins call.step pins
ask_reasons call pins OneMode = mode_pins call.step pins
ask_reasons call pins ManyModes = mode_pins call.step pins
ask_reasons call pins LatchedMode = mode_pins call.step pins ++ ModeWas call.instance call.last.mode ∷ []

-- ---- A fact of a scan.

-- what stands at the pins of the call that a step is
abbrev pub arguments : Option Action → List Actual
arguments (Some (calls i args)) = args
arguments (Some (assigns s e)) = []
arguments None = []

-- a call of an instance
abbrev pub call_at : Network → (k i : ℕ) → CallScene → Call
call_at net k i c = record { step = k; instance = i; kind = kind_at net i; last = c.last }

-- an application, and what is seen of a scan of it
module _ (net : Network) (x : Scene) where
  -- what the guards of an instance see in its call
  abbrev pub seen_in : (i : ℕ) → CallScene → Conditions
  seen_in i c = conditions_in net x c.step i (arguments (slice_get net.steps c.step)) c

  -- what a step reads of the signals by which a formula has its value
  abbrev pub reads : (k : ℕ) → Formula → List Fact
  reads k e = map (λ s. fact_of_read net k s (read_in net x k s)) (deciding (read_in net x k) e)

  -- of a signal that a step assigns
  abbrev pub assigned_by : (k : ℕ) → Option Action → List Fact
  assigned_by k (Some (assigns s e)) = reads k e
  assigned_by k (Some (calls i args)) = []
  assigned_by k None = []

  -- An output of an instance rests on the pin that it lacks, if it lacks one, and else on what it shows.
  abbrev pub output_by : (i j : ℕ) → (is : Bool) → CallScene → List Fact
  output_by i j b c = or_else (lacked c.step (seen_in i c).pin (kind_at net i) j b) (shown (kind_at net i) i c)

  -- the same, of an instance by its number
  abbrev pub output_of : (i j : ℕ) → (is : Bool) → List Fact
  output_of i j b = option_map_or (output_by i j b) (slice_get x.calls.now i) []

  -- of a signal, by what drives it
  abbrev pub driven_by : (is : Bool) → Option Driver → List Fact
  driven_by b (Some (Assigned k)) = assigned_by k (slice_get net.steps k)
  driven_by b (Some (Output i j k)) = output_of i j b
  driven_by b None = []

  -- of what a call reads at a pin where this stands
  abbrev pub wired_by : (k : ℕ) → Option Actual → List Fact
  wired_by k (Some (wired e)) = reads k e
  wired_by k (Some (time t)) = []
  wired_by k (Some (literal b)) = []
  wired_by k (Some free) = []
  wired_by k None = []

  -- of what a guard asks in the call that a step is
  abbrev pub asked_by : (k : ℕ) → Ask → Option Action → List Fact
  asked_by k a (Some (calls i args)) =
      option_map_or (λ c. ask_reasons (call_at net k i c) (pins_in net x k i args) a) (slice_get x.calls.now i) []
  asked_by k a (Some (assigns s e)) = []
  asked_by k a None = []

  -- of the state of an instance
  abbrev pub state_of : (i : ℕ) → List Fact
  state_of i = option_map_or (λ c. state_reasons (kind_at net i) i c (seen_in i c)) (slice_get x.calls.now i) []

  -- of its mode
  abbrev pub mode_of : (i : ℕ) → List Fact
  mode_of i = option_map_or (λ c. mode_reasons i c (seen_in i c).pin) (slice_get x.calls.now i) []

  -- The reasons of a fact. An input, and what was before the scan, has none.
  abbrev pub reasons_of : Fact → List Fact
  reasons_of (SignalIs s b) = if nat_lt s (input_count net) then [] else driven_by b (driver net s)
  reasons_of (PinIs k j b) = wired_by k (slice_get (arguments (slice_get net.steps k)) j)
  reasons_of (AskIs k a b) = asked_by k a (slice_get net.steps k)
  reasons_of (StateIs i q) = state_of i
  reasons_of (ModeIs i m) = mode_of i
  reasons_of (SignalWas s b) = []
  reasons_of (StateWas i q) = []
  reasons_of (ResetWas i b) = []
  reasons_of (AuxiliaryWas i b) = []
  reasons_of (ModeWas i m) = []
