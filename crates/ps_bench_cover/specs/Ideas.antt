-- Beginnings of cases for ways that were never taken: what the guard of a way asks for where that is an input, and the
-- rest in words. They are lines that a case file takes, and need not take the way.
use Rattle.std.specs.Prelude.{ℕ, ◌&&◌, not, Bool, List, [], ◌++◌, Option, Some, None}
use Rattle.std.specs.Prelude.{codes, nat_lt, slice_get, if◌then◌else◌}
use Rattle.std.specs.List.{flat_map, range_with_len}
use Rattle.ps_ways.specs.Conditions.{condition_of}
use Rattle.ps_ways.specs.declared.condition.Condition.{Condition}
use Rattle.ps_cover.specs.Points.{Point, decision, has, marks}
use Rattle.ps_cover.specs.Tallying.{row_bit}
use Rattle.ps_cover.specs.Lines.{condition_text}
use Rattle.ps_cover.specs.Seen.{Known, Seen}
use Rattle.ps_model.specs.Action.{Action, Actual, assigns, calls, free, literal, time, wired}
use Rattle.ps_model.specs.Blocks.{block}
use Rattle.ps_model.specs.Formula.{Formula, all_of, any_of, signal}
use Rattle.ps_model.specs.Network.{Network, input_count, instance_name, kind_at, signal_name}
use Rattle.ps_model.specs.declared.kind.Kind.{Kind}
use Rattle.ps_report.specs.Lines.{code_text}
use Rattle.ps_ways.specs.Tables.{ways_of}
use Rattle.ps_ways.specs.declared.way.Ask.{Ask}
use Rattle.ps_ways.specs.declared.way.Ask.TheVariants.{Pin, Edge, Held, Rise, Elapsed, NoMode, OneMode}
use Rattle.ps_ways.specs.declared.way.Ask.TheVariants.{ManyModes, LatchedMode}
use Rattle.ps_ways.specs.declared.way.Way.{Way}

-- the pin of which something is asked, if it is one
abbrev pub pin_asked : Kind → Ask → Option ℕ
pin_asked kind (Pin j) = Some j
pin_asked kind Edge = (block kind).reset
pin_asked kind Held = (block kind).reset
pin_asked kind Rise = (block kind).auxiliary
pin_asked kind Elapsed = None
pin_asked kind NoMode = None
pin_asked kind OneMode = None
pin_asked kind ManyModes = None
pin_asked kind LatchedMode = None

-- the input that a formula is, if it is one
abbrev pub input_in : Network → Formula → Option ℕ
input_in net (signal s) = if nat_lt s (input_count net) then Some s else None
input_in net (all_of es) = None
input_in net (any_of es) = None

-- the input that stands at a pin, if one does
abbrev pub input_wired : Network → Option Actual → Option ℕ
input_wired net (Some (wired e)) = input_in net e
input_wired net (Some free) = None
input_wired net (Some (literal b)) = None
input_wired net (Some (time t)) = None
input_wired net None = None

-- at a pin, where there is one
abbrev pub input_at : Network → List Actual → Option ℕ → Option ℕ
input_at net args (Some j) = input_wired net (slice_get args j)
input_at net args None = None

-- the input of which a condition asks something, if it is one
abbrev pub input_asked : Network → Kind → List Actual → Condition → Option ℕ
input_asked net kind args c = input_at net args (pin_asked kind c.ask)

-- the value that an input has a scan before a condition is to be so: one that is to rise is FALSE
abbrev pub value_before : Ask → (holds : Bool) → Bool
value_before Edge holds = not holds
value_before Rise holds = not holds
value_before Held holds = holds
value_before (Pin j) holds = holds
value_before Elapsed holds = holds
value_before NoMode holds = holds
value_before OneMode holds = holds
value_before ManyModes holds = holds
value_before LatchedMode holds = holds

-- an input takes a value, in a line of a case
abbrev pub setting_text : Network → Option ℕ → Bool → List ℕ
setting_text net (Some s) b = codes " " ++ signal_name net s ++ (if b then codes "=1" else codes "=0")
setting_text net None b = []

-- what is told in words, after `#`
abbrev pub rest_text : Kind → Condition → Option ℕ → List ℕ
rest_text kind c (Some s) = []
rest_text kind c None = codes "  # " ++ condition_text kind c ++ codes "\n"

-- what a literal of a guard asks for, in words after `#`, where it is of no input
abbrev pub literal_rest : Network → Kind → List Actual → Option Condition → List ℕ
literal_rest net kind args (Some c) = rest_text kind c (input_asked net kind args c)
literal_rest net kind args None = []

-- what a literal asks for of an input in the scan before, if it is of an input
abbrev pub literal_before : Network → Kind → List Actual → Option Condition → List ℕ
literal_before net kind args (Some c) = setting_text net (input_asked net kind args c) (value_before c.ask c.holds)
literal_before net kind args None = []

-- what a literal asks for of an input in the scan that is to take the way
abbrev pub literal_now : Network → Kind → List Actual → Option Condition → List ℕ
literal_now net kind args (Some c) = setting_text net (input_asked net kind args c) c.holds
literal_now net kind args None = []

-- of each literal of a way
abbrev pub each_literal : (Option Condition → List ℕ) → Way → List ℕ
each_literal text w =
    text (condition_of w.first) ++ text (condition_of w.second) ++ text (condition_of w.third)

-- the line with which the case of a way of an instance begins, and the lines after it
abbrev pub idea_head : Network → (instance : ℕ) → Way → List ℕ
idea_head net i w =
    codes "case " ++ instance_name net i ++ codes " from " ++ code_text w.state ++ codes " to " ++ code_text w.next
    ++ codes "\n"

-- the lines after that: what no input gives, after `#`, the scan before, and the scan that is to take the way
abbrev pub idea_lines : Network → Kind → List Actual → Way → List ℕ
idea_lines net kind args w =
    each_literal (literal_rest net kind args) w ++ codes "  +10" ++ each_literal (literal_before net kind args) w
    ++ codes "\n  +10" ++ each_literal (literal_now net kind args) w ++ codes "\n"

-- the case that begins for a way of an instance
abbrev pub way_idea : Network → (instance : ℕ) → List Actual → Way → List ℕ
way_idea net i args w = idea_head net i w ++ idea_lines net (kind_at net i) args w

-- where there is a way
abbrev pub idea_if : Network → (instance : ℕ) → List Actual → Option Way → List ℕ
idea_if net i args (Some w) = way_idea net i args w
idea_if net i args None = []

-- for a mark of the call of a step
abbrev pub mark_idea : Network → Option Action → (mark : ℕ) → List ℕ
mark_idea net (Some (calls i args)) mark = idea_if net i args (slice_get (ways_of (kind_at net i)) mark)
mark_idea net (Some (assigns t e)) mark = []
mark_idea net None mark = []

-- for a point: a way that was not taken and is not excluded
abbrev pub point_idea : Known → Point → (shown : Bool) → List ℕ
point_idea x (marks k mark) shown =
    if not shown && not (row_bit (slice_get x.rows k) mark) then mark_idea x.net (slice_get x.net.steps k) mark else []
point_idea x (has s) shown = []
point_idea x (decision o) shown = []

-- the case that begins for a point, if it is a way that was never taken
abbrev pub idea_at : Known → Option Seen → List ℕ
idea_at x (Some s) = point_idea x s.point (s.off && s.on)
idea_at x None = []

-- for each way that was never taken, in the order of the points
abbrev pub ideas_text : Known → List ℕ
ideas_text x = flat_map (λ n. idea_at x (x.at n)) (range_with_len 0 x.size)
