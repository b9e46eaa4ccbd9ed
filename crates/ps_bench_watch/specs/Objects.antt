-- What a reader of a run's JSON is to see of its scans, and what it gives of a text.
use Rattle.std.specs.Prelude.{ℕ, ◌==◌, not, Bool, true, false, List, [], ◌∷◌, Option, codes, decimal, if◌then◌else◌}
use Rattle.std.specs.Prelude.{map}
use Rattle.json.specs.Json.{Json, Members, boolean, number, string, object, no_members, member, document}
use Rattle.ps_bench_names.specs.declared.name.Name.{Name}
use Rattle.ps_bench_names.specs.declared.name.Name.TheVariants.{Signal, Code, Pin}
use Rattle.ps_bench_judge.specs.Moments.{Moment, is_stopped}
use Rattle.ps_bench_judge.specs.Named.{value_in}
use Rattle.ps_model.specs.Meaning.{Item}
use Rattle.ps_model.specs.Meaning.Item.{scan, restart}
use Rattle.ps_model.specs.Network.{Network}
use Rattle.ps_report.specs.Lines.{code_text}
use Rattle.ps_bench_waves.specs.Shown.{label}

-- the value of a name: of an instance a string, its DiagCode in four hexadecimal digits, and of others a truth value
abbrev pub json_of : Name → ℕ → Json
json_of (Signal s) v = boolean (not (v == 0))
json_of (Code i) v = string (code_text v)
json_of (Pin i j) v = boolean (not (v == 0))

-- the values of names, each by what it is called
abbrev pub members_of : Network → Moment → List Name → Members
members_of net m [] = no_members
members_of net m (name ∷ names) = member (label net name) (json_of name (value_in net m name)) (members_of net m names)

-- A scan: its time in ms, whether it is the first after a restart, whether it tripped or is down, and the values.
abbrev pub object_of : Network → List Name → (is_restarted : Bool) → Moment → Json
object_of net names is_restarted m = object
    (member (codes "@time") (number (decimal m.now))
    (member (codes "@restart") (boolean is_restarted)
    (member (codes "@trip") (boolean (is_stopped m.verdict)) (members_of net m names))))

-- the scans among items, of which this is seen
abbrev pub objects_seen : Network → List Name → (is_restarted : Bool) → List Item → List Moment → List Json
objects_seen net names is_restarted [] ms = []
objects_seen net names is_restarted (restart ∷ items) ms = objects_seen net names true items ms
objects_seen net names is_restarted (scan now ins ∷ items) [] = []
objects_seen net names is_restarted (scan now ins ∷ items) (m ∷ ms) =
    object_of net names is_restarted m ∷ objects_seen net names false items ms

-- ---- The reader.

-- a byte in front of lines
abbrev pub onto_line : ℕ → List (List ℕ) → List (List ℕ)
onto_line b [] = (b ∷ []) ∷ []
onto_line b (line ∷ lines) = (b ∷ line) ∷ lines

-- the lines of a text, without the line feeds that end them
abbrev pub lines_in : List ℕ → List (List ℕ)
lines_in [] = []
lines_in (b ∷ bytes) = if b == 10 then [] ∷ lines_in bytes else onto_line b (lines_in bytes)

-- the values that the lines of a text are (RFC 8259)
abbrev pub values_read : (text : List ℕ) → List (Option Json)
values_read text = map document (lines_in text)
