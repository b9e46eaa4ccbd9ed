-- The text of one trace of all cases of a file.
use Rattle.std.specs.Prelude.{ℕ, ◌+◌, ◌<◌, List, [], ◌∷◌, ◌++◌, ◌==◌, Bool, false, if◌then◌else◌, All, replicate, fold}
use Rattle.std.specs.Prelude.{flat_map}
use Rattle.std.specs.Prelude.{codes, decimal}
use Rattle.hex.specs.Hex.{encode_lower}
use Rattle.ps_model.specs.declared.channel.Channel.{Channel}
use Rattle.ps_model.specs.declared.channel.Channel.TheVariants.{A, B}
use Rattle.ps_model.specs.declared.channel.Region.{Region}
use Rattle.ps_model.specs.declared.channel.Region.TheVariants.{Code, Cells}
use Rattle.ps_model.specs.declared.channel.Fault.{Fault as Strike}
use Rattle.ps_model.specs.Network.{Network, input_count}
use Rattle.ps_bench_names.specs.declared.name.Setting.{Setting}
use Rattle.ps_bench_cases.specs.declared.case.Pace.{Pace}
use Rattle.ps_bench_cases.specs.declared.case.Act.{Act}
use Rattle.ps_bench_cases.specs.declared.case.Act.TheVariants as act
use Rattle.ps_bench_cases.specs.declared.case.Statement.{Statement}
use Rattle.ps_bench_cases.specs.declared.case.Case.{Case}
use Rattle.ps_bench_cases.specs.declared.case.CaseFile.{CaseFile}
use Rattle.ps_bench_cases.specs.declared.point.Point.{Point}
use Rattle.ps_bench_cases.specs.Meant.{time_at, times_of, set_by}

-- ---- Lines, each ended by a line feed.

-- the header: `time` and each input in order of declaration
abbrev pub header_line : Network → List ℕ
header_line net = codes "time" ++ (flat_map (λ s. 32 ∷ s.name) net.inputs ++ codes "\n")

-- a value of an input after a space: `1` for TRUE and `0` for FALSE
abbrev pub value_text : Bool → List ℕ
value_text value = 32 ∷ (if value then 49 else 48) ∷ []

-- a scan: its time and the values of the inputs
abbrev pub scan_line : (now : ℕ) → List Bool → List ℕ
scan_line now ins = decimal now ++ (flat_map value_text ins ++ codes "\n")

-- a restart
abbrev pub restart_line : List ℕ
restart_line = codes "restart\n"

-- the name of a case, as a comment
abbrev pub name_line : (name : List ℕ) → List ℕ
name_line name = codes "# case " ++ (name ++ codes "\n")

-- the turn of a fault, where it strikes before one
abbrev pub turn_text : (turn : ℕ) → List ℕ
turn_text turn = if turn == 0 then [] else codes "turn " ++ (decimal turn ++ codes " ")

-- the words of a channel and a region
abbrev pub region_text : Channel → Region → List ℕ
region_text A Code = codes "A code "
region_text A Cells = codes "A memory "
region_text B Code = codes "B code "
region_text B Cells = codes "B memory "

-- a fault of the next scan, as a comment
abbrev pub fault_line : Strike → List ℕ
fault_line f =
    codes "# fault "
    ++ (turn_text f.turn ++ (region_text f.channel f.region
    ++ (decimal f.at ++ (codes " " ++ (encode_lower f.bytes ++ codes "\n")))))

-- ---- The lines of a case.

-- `Point` says how the trace stands between two lines of a case: when the case begins in the trace (`base`), the time
-- of
-- its last scan within the case, 0 before the first one (`time`), the values of the inputs (`ins`), and the lines of
-- the
-- faults of its next scan (`held`).

-- a line of a case whose inputs are set makes no scan, or scans after the faults of the first one, or a restart
abbrev pub act_text : Point → Act → List ℕ
act_text p (act.Scans pace) =
    if pace.count == 0 then [] else p.held ++ flat_map (λ now. scan_line (p.base + now) p.ins) (times_of pace)
act_text p act.Restart = restart_line
act_text p _ = []

-- the time of the last scan, after a pace
abbrev pub last_after : Point → Pace → ℕ
last_after p pace = if pace.count == 0 then p.time else time_at pace pace.count

-- the lines of the faults of the next scan, after a pace
abbrev pub held_after : Point → Pace → List ℕ
held_after p pace = if pace.count == 0 then p.held else []

-- the inputs are set
abbrev pub point_set : Point → List Setting → Point
point_set p settings = record { base = p.base; time = p.time; ins = set_by p.ins settings; held = p.held }

-- how the trace stands after what a line does
abbrev pub point_after : Point → Act → Point
point_after p (act.Scans pace) =
    record { base = p.base; time = last_after p pace; ins = p.ins; held = held_after p pace }
point_after p (act.Fault fault) =
    record { base = p.base; time = p.time; ins = p.ins; held = p.held ++ fault_line fault }
point_after p _ = p

-- how it stands after a statement
abbrev pub next_point : Point → Statement → Point
next_point p s = point_after (point_set p s.settings) s.act

-- the lines of statements
abbrev pub statements_text : Point → List Statement → List ℕ
statements_text p [] = []
statements_text p (s ∷ statements) =
    act_text (point_set p s.settings) s.act ++ statements_text (next_point p s) statements

-- the settings of statements are of so many inputs
abbrev pub SetInputs : (inputs : ℕ) → List Statement → Type 0
SetInputs inputs statements =
    All (λ (s : Statement). All (λ (setting : Setting). setting.input < inputs) s.settings) statements

-- ---- All cases.

-- how the trace stands where a case begins, with so many inputs
abbrev pub begin_point : (inputs base : ℕ) → Point
begin_point inputs base = record { base = base; time = 0; ins = replicate inputs false; held = [] }

-- how it stands after a case that begins at this time
abbrev pub end_point : (inputs base : ℕ) → List Statement → Point
end_point inputs base statements = fold next_point (begin_point inputs base) statements

-- a case: its name, and the lines of its statements
abbrev pub case_text : (inputs base : ℕ) → (name : List ℕ) → List Statement → List ℕ
case_text inputs base name statements = name_line name ++ statements_text (begin_point inputs base) statements

-- Cases from this time on, with these bytes before the first of them and a restart before each other. A case begins at
-- the last time of the case before it.
abbrev pub cases_text : (inputs : ℕ) → (begin : List Statement) → (lead : List ℕ) → (base : ℕ) → List Case → List ℕ
cases_text inputs begin lead base [] = []
cases_text inputs begin lead base (c ∷ cases) =
    (lead ++ case_text inputs base c.name (begin ++ c.statements))
    ++ cases_text inputs begin restart_line (base + (end_point inputs base (begin ++ c.statements)).time) cases

-- one trace of all cases: the header, and the cases in their order
abbrev pub expanded : Network → CaseFile → List ℕ
expanded net file = header_line net ++ cases_text (input_count net) file.begin [] 0 file.cases
