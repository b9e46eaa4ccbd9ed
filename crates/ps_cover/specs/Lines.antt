-- The lines of what was never seen.
use Rattle.std.specs.Prelude.{ℕ, ◌+◌, ◌-◌, ◌==◌, ◌&&◌, not, Bool, true, false, List, [], ◌++◌, Option, Some, None}
use Rattle.std.specs.Prelude.{codes, decimal, length, nat_lt, slice_get, if◌then◌else◌}
use Rattle.std.specs.List.{flat_map, range_with_len}
use Rattle.ps_base.specs.declared.failing.Place.{Place}
use Rattle.ps_ways.specs.Conditions.{condition_of, subject_words, told_words}
use Rattle.ps_ways.specs.declared.condition.Condition.{Condition}
use Rattle.ps_model.specs.Action.{Action, assigns, calls}
use Rattle.ps_model.specs.Network.{Network, declared_count, instance_name, signal_name}
use Rattle.ps_model.specs.declared.kind.Kind.{Kind}
use Rattle.ps_report.specs.Lines.{code_text}
use Rattle.ps_ways.specs.States.{state_words}
use Rattle.ps_ways.specs.Tables.{ways_of}
use Rattle.ps_ways.specs.declared.way.Way.{Way}
use Rattle.ps_cover.specs.Points.{Point, decision, has, marks}
use Rattle.ps_cover.specs.Tallying.{called_kind, row_bit}
use Rattle.ps_cover.specs.declared.excluding.Row.{Row}
use Rattle.ps_cover.specs.declared.format.Format.{Format}
use Rattle.ps_cover.specs.declared.format.Format.TheVariants.{Text, Json}

-- words after a code, where it has some
abbrev pub behind : Option (List ℕ) → List ℕ
behind (Some words) = codes " " ++ words
behind None = []

-- a state, as `8004 waiting for switch 2`
abbrev pub state_text : Kind → (code : ℕ) → List ℕ
state_text kind code = code_text code ++ behind (state_words kind code)

-- a truth value in capitals, as the language has it, and as JSON has it (RFC 8259)
abbrev pub truth : Bool → List ℕ
truth b = if b then codes "TRUE" else codes "FALSE"

-- a value in JSON
abbrev pub json_truth : Bool → List ℕ
json_truth b = if b then codes "true" else codes "false"

-- the name of the instance that a step calls
abbrev pub called_name : Network → Option Action → List ℕ
called_name net (Some (calls i args)) = instance_name net i
called_name net (Some (assigns t e)) = []
called_name net None = []

-- a state that a block never entered, and in JSON
abbrev pub never_entered : Kind → Way → List ℕ
never_entered kind w = codes "  never: " ++ state_text kind w.state ++ codes "\n"

-- the same in JSON
abbrev pub json_entered : (name : List ℕ) → Way → List ℕ
json_entered name w =
    codes "{\"never\":\"state\",\"instance\":\"" ++ name ++ codes "\",\"state\":\"" ++ code_text w.state ++ codes "\"}\n"

-- the same in a format
abbrev pub state_line : Format → (name : List ℕ) → Kind → Option Way → List ℕ
state_line Text name kind (Some w) = never_entered kind w
state_line Json name kind (Some w) = json_entered name w
state_line Text name kind None = []
state_line Json name kind None = []

-- a condition of a guard, as `S_GuardSwitch1 is TRUE`
abbrev pub condition_text : Kind → Condition → List ℕ
condition_text kind c = subject_words kind c.ask c.holds ++ codes " " ++ told_words c.ask c.holds

-- what is asked first; a guard that asks nothing holds wherever those before it do not
abbrev pub first_text : Kind → Option Condition → List ℕ
first_text kind (Some c) = condition_text kind c
first_text kind None = codes "otherwise"

-- what is asked besides
abbrev pub more_text : Kind → Option Condition → List ℕ
more_text kind (Some c) = codes " and " ++ condition_text kind c
more_text kind None = []

-- what an alternative of a guard asks
abbrev pub asked_text : Kind → Way → List ℕ
asked_text kind w =
    first_text kind (condition_of w.first) ++ more_text kind (condition_of w.second)
    ++ more_text kind (condition_of w.third)

-- a further alternative of the guard of a way, which stands later among the ways of the kind
abbrev pub or_text : Kind → Way → (later : Bool) → Option Way → List ℕ
or_text kind w later (Some v) =
    if later && v.state == w.state && v.number == w.number then codes " or " ++ asked_text kind v else []
or_text kind w later None = []

-- the further alternatives of the guard of the way at a place
abbrev pub alternatives : Kind → (place : ℕ) → Way → List ℕ
alternatives kind place w =
    flat_map (λ n. or_text kind w (nat_lt place n) (slice_get (ways_of kind) n))
    (range_with_len 0 (length (ways_of kind)))

-- what the guard of the way at a place asks
abbrev pub guard_text : Kind → (place : ℕ) → Way → List ℕ
guard_text kind place w = asked_text kind w ++ alternatives kind place w

-- a way that a block never took, by its place among those of its kind, and in JSON
abbrev pub never_taken : Kind → (place : ℕ) → Way → List ℕ
never_taken kind place w =
    codes "  never: " ++ code_text w.next ++ codes " from " ++ state_text kind w.state ++ codes ": "
    ++ guard_text kind place w ++ codes "\n"

-- the same in JSON
abbrev pub json_taken : (name : List ℕ) → Kind → (place : ℕ) → Way → List ℕ
json_taken name kind place w =
    codes "{\"never\":\"way\",\"instance\":\"" ++ name ++ codes "\",\"from\":\"" ++ code_text w.state
    ++ codes "\",\"to\":\"" ++ code_text w.next ++ codes "\",\"guard\":" ++ decimal w.number
    ++ codes ",\"when\":\"" ++ guard_text kind place w ++ codes "\"}\n"

-- the same in a format
abbrev pub way_line : Format → (name : List ℕ) → Kind → (place : ℕ) → Option Way → List ℕ
way_line Text name kind place (Some w) = never_taken kind place w
way_line Json name kind place (Some w) = json_taken name kind place w
way_line Text name kind place None = []
way_line Json name kind place None = []

-- a mark that a call of a block of this name and kind never made: a way, or after these a state
abbrev pub made_line : Format → (name : List ℕ) → Kind → (mark : ℕ) → List ℕ
made_line format name kind mark =
    if nat_lt mark (length (ways_of kind)) then way_line format name kind mark (slice_get (ways_of kind) mark)
    else state_line format name kind (slice_get (ways_of kind) (mark - length (ways_of kind)))

-- the same of the call of a step
abbrev pub mark_line : Network → Format → (step mark : ℕ) → List ℕ
mark_line net format k mark =
    made_line format (called_name net (slice_get net.steps k)) (called_kind net (slice_get net.steps k)) mark

-- a mark of step k that is not excluded and was not made; nothing of another point
abbrev pub missed_mark : Network → List Row → Format → (step : ℕ) → Point → (shown : Bool) → List ℕ
missed_mark net rows format k (marks j mark) shown =
    if j == k && not (row_bit (slice_get rows j) mark) && not shown then mark_line net format j mark else []
missed_mark net rows format k (has s) shown = []
missed_mark net rows format k (decision o) shown = []

-- the name of an input, output or local
abbrev pub signal_label : Network → ℕ → List ℕ
signal_label net s = if nat_lt s (declared_count net) then signal_name net s else []

-- a value that a signal never had, and in JSON
abbrev pub never_had : Network → (signal : ℕ) → (value : Bool) → List ℕ
never_had net s b = codes "  never " ++ truth b ++ codes ": " ++ signal_label net s ++ codes "\n"

-- the same in JSON
abbrev pub json_had : Network → (signal : ℕ) → (value : Bool) → List ℕ
json_had net s b =
    codes "{\"never\":\"value\",\"signal\":\"" ++ signal_label net s ++ codes "\",\"value\":" ++ json_truth b
    ++ codes "}\n"

-- the same in a format
abbrev pub value_line : Network → Format → (signal : ℕ) → (value : Bool) → List ℕ
value_line net Text s b = never_had net s b
value_line net Json s b = json_had net s b

-- what an operand is of
abbrev pub joined_by : (of_and : Bool) → List ℕ
joined_by of_and = if of_and then codes "AND" else codes "OR"

-- a value with which an operand never decided: the line and the column at which it stands, counted from 1, and its
-- number among the operands; and in JSON
abbrev pub never_decided : Place → (of_and : Bool) → (place : ℕ) → (value : Bool) → List ℕ
never_decided at of_and place b =
    codes "  never decided " ++ truth b ++ codes ": line " ++ decimal at.line ++ codes " column " ++ decimal at.column
    ++ codes ", operand " ++ decimal (place + 1) ++ codes " of an " ++ joined_by of_and ++ codes "\n"

-- the same in JSON
abbrev pub json_decided : Place → (of_and : Bool) → (place : ℕ) → (value : Bool) → List ℕ
json_decided at of_and place b =
    codes "{\"never\":\"decision\",\"line\":" ++ decimal at.line ++ codes ",\"column\":" ++ decimal at.column
    ++ codes ",\"operand\":" ++ decimal (place + 1) ++ codes ",\"of\":\"" ++ joined_by of_and
    ++ codes "\",\"value\":" ++ json_truth b ++ codes "}\n"

-- the same in a format
abbrev pub decision_line : Format → Place → (of_and : Bool) → (place : ℕ) → (value : Bool) → List ℕ
decision_line Text at of_and place b = never_decided at of_and place b
decision_line Json at of_and place b = json_decided at of_and place b

-- a line where it was not seen
abbrev pub unless : (seen : Bool) → List ℕ → List ℕ
unless seen line = if seen then [] else line

-- the values that a signal never had; nothing of another point
abbrev pub missed_values : Network → Format → Point → (off on : Bool) → List ℕ
missed_values net format (has s) off on =
    unless off (value_line net format s false) ++ unless on (value_line net format s true)
missed_values net format (marks j mark) off on = []
missed_values net format (decision o) off on = []

-- the values with which an operand that stands there never decided; nothing of another point
abbrev pub missed_decisions : Format → Place → Point → (off on : Bool) → List ℕ
missed_decisions format at (decision o) off on =
    unless off (decision_line format at o.of_and o.place false)
    ++ unless on (decision_line format at o.of_and o.place true)
missed_decisions format at (marks j mark) off on = []
missed_decisions format at (has s) off on = []
