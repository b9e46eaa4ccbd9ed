-- The lines of what is watched, in each format.
use Rattle.std.specs.Prelude.{ℕ, ◌==◌, Bool, false, List, [], ◌∷◌, ◌++◌, codes, decimal, drop, length, map}
use Rattle.std.specs.Prelude.{if◌then◌else◌, Option, Some, None}
use Rattle.std.specs.List.{flat_map}
use Rattle.csv.specs.Writing.{default_writer, row_text}
use Rattle.ps_bench_names.specs.declared.name.Name.{Name}
use Rattle.ps_bench_names.specs.declared.name.Name.TheVariants.{Signal, Code, Pin}
use Rattle.ps_bench_judge.specs.Moments.{is_stopped, trips}
use Rattle.ps_model.specs.declared.channel.Verdict.{Verdict}
use Rattle.ps_model.specs.Network.{Network}
use Rattle.ps_model.specs.Stored.{bit}
use Rattle.ps_bench_waves.specs.Shown.{digit, field_text, json_key, json_value, label, truth_text, value_text}
use Rattle.ps_bench_waves.specs.declared.format.Format.{Format}
use Rattle.ps_bench_waves.specs.declared.format.Format.TheVariants.{Text, Csv, Json}

-- a name that is watched, with its value after the scan before, if there was one, and its value in this scan
pub record Cell : Type 0 where
  pub name : Name
  pub before : Option ℕ
  pub value : ℕ

-- ---- text: what changed

-- what stands between the value before and the value now
abbrev pub arrow : Name → List ℕ
arrow (Signal s) = codes ">"
arrow (Code i) = codes " > "
arrow (Pin i j) = codes ">"

-- a value, as `S_Ram=0` or `Stop=8001 first state`, or a change, as `S_Ram 1>0` or
-- `Guard 8000 enabled > 8002 the guard has to be opened`
abbrev pub change_text : Network → Name → (before : Option ℕ) → (now : ℕ) → List ℕ
change_text net name None v = label net name ++ codes "=" ++ value_text net name v
change_text net name (Some u) v =
    label net name ++ codes " " ++ value_text net name u ++ arrow name ++ value_text net name v

-- a value stayed as it was
abbrev pub stays : (before : Option ℕ) → (now : ℕ) → Bool
stays None v = false
stays (Some u) v = u == v

-- what changed, each after a mark: this one before the first, and commas between them
abbrev pub changes_told : Network → (mark : List ℕ) → List Cell → List ℕ
changes_told net mark [] = []
changes_told net mark (c ∷ cells) =
    if stays c.before c.value then changes_told net mark cells
    else mark ++ change_text net c.name c.before c.value ++ changes_told net (codes ", ") cells

-- what is told of a scan: first of all that it trips, where it does
abbrev pub told : Network → Verdict → List Cell → List ℕ
told net verdict cells =
    if trips verdict then codes " TRIP" ++ changes_told net (codes ", ") cells else changes_told net (codes " ") cells

-- a time in ms, with blanks after it up to a width of six
abbrev pub time_text : ℕ → List ℕ
time_text now = decimal now ++ drop (length (decimal now)) (codes "      ")

-- the line of a scan, where something is told of it
abbrev pub line_unless_none : (now : ℕ) → (told : List ℕ) → List ℕ
line_unless_none now [] = []
line_unless_none now (b ∷ told) = time_text now ++ b ∷ told ++ codes "\n"

-- ---- CSV: a row a scan (RFC 4180)

-- values, each after a comma
abbrev pub fields_text : List Cell → List ℕ
fields_text cells = flat_map (λ (c : Cell). codes "," ++ field_text c.name c.value) cells

-- the row of a scan: its time in ms, whether it is the first after a restart, whether it tripped or is down, and the
-- values
abbrev pub csv_row : (now : ℕ) → (is_restarted : Bool) → Verdict → List Cell → List ℕ
csv_row now is_restarted verdict cells =
    decimal now ++ codes "," ++ digit (bit is_restarted) ++ codes "," ++ digit (bit (is_stopped verdict))
    ++ fields_text cells ++ codes "\n"

-- the names of the columns; those of the language have no `@`
abbrev pub csv_names : Network → List Name → List (List ℕ)
csv_names net names = codes "@time" ∷ codes "@restart" ∷ codes "@trip" ∷ map (label net) names

-- ---- JSON: an object a line (RFC 8259)

-- values, each after a comma and what stands for its name
abbrev pub members_text : Network → List Cell → List ℕ
members_text net cells = flat_map (λ (c : Cell). codes "," ++ json_key net c.name ++ json_value c.name c.value) cells

-- the object of a scan, with the same members as the columns of CSV
abbrev pub json_line : Network → (now : ℕ) → (is_restarted : Bool) → Verdict → List Cell → List ℕ
json_line net now is_restarted verdict cells =
    codes "{\"@time\":" ++ decimal now ++ codes ",\"@restart\":" ++ truth_text (bit is_restarted)
    ++ codes ",\"@trip\":" ++ truth_text (bit (is_stopped verdict)) ++ members_text net cells ++ codes "}\n"

-- ---- each format

-- what stands for a name in a line of a format: nothing in CSV, whose header has it
abbrev pub key_text : Format → Network → Name → List ℕ
key_text Text net name = label net name
key_text Csv net name = label net name
key_text Json net name = json_key net name

-- what is written of a scan, which is or is not the first after a restart
abbrev pub scan_text : Network → Format → (now : ℕ) → (is_restarted : Bool) → Verdict → List Cell → List ℕ
scan_text net Text now is_restarted verdict cells = line_unless_none now (told net verdict cells)
scan_text net Csv now is_restarted verdict cells = csv_row now is_restarted verdict cells
scan_text net Json now is_restarted verdict cells = json_line net now is_restarted verdict cells

-- what is written of a restart: CSV and JSON mark the scan after it
abbrev pub restart_text : Format → List ℕ
restart_text Text = codes "restart\n"
restart_text Csv = []
restart_text Json = []

-- what stands before the first scan
abbrev pub head_text : Network → Format → List Name → List ℕ
head_text net Text names = []
head_text net Csv names = row_text default_writer (csv_names net names)
head_text net Json names = []
