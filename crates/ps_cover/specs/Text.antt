-- The whole text of what was shown, and of what was not.
use Rattle.std.specs.Prelude.{ℕ, ◌==◌, ◌&&◌, List, [], ◌++◌, Option, Some, None, codes, decimal, length, slice_get}
use Rattle.std.specs.Prelude.{slice_index_or, if◌then◌else◌}
use Rattle.std.specs.List.{flat_map, range_with_len}
use Rattle.ps_base.specs.declared.failing.Place.{Place}
use Rattle.ps_model.specs.Action.{Action, assigns, calls}
use Rattle.ps_model.specs.Blocks.{block}
use Rattle.ps_model.specs.Network.{instance_name, kind_at}
use Rattle.ps_cover.specs.declared.tallying.Sort.{Sort}
use Rattle.ps_cover.specs.declared.tallying.Sort.TheVariants.{States, Ways, Values, Decisions}
use Rattle.ps_cover.specs.declared.tallying.Status.TheVariants.{Covered, Excluded, Counted}
use Rattle.ps_cover.specs.Lines.{missed_decisions, missed_mark, missed_values}
use Rattle.ps_cover.specs.Seen.{Known, Seen, count_of, part_of}
use Rattle.ps_cover.specs.declared.format.Format.{Format}
use Rattle.ps_cover.specs.declared.format.Format.TheVariants.{Text, Json}

-- how many are excluded, where some are
abbrev pub excluded_text : (excluded : ℕ) → List ℕ
excluded_text n = if n == 0 then [] else codes " (" ++ decimal n ++ codes " excluded)"

-- how many were shown, of how many that are not excluded, as `9 of 23 (2 excluded)`; in JSON as members
abbrev pub said_counts : (covered counted excluded : ℕ) → List ℕ
said_counts covered counted excluded = decimal covered ++ codes " of " ++ decimal counted ++ excluded_text excluded

-- the same in JSON
abbrev pub json_counts : (covered counted excluded : ℕ) → List ℕ
json_counts covered counted excluded =
    codes "{\"covered\":" ++ decimal covered ++ codes ",\"of\":" ++ decimal counted ++ codes ",\"excluded\":"
    ++ decimal excluded ++ codes "}"

-- the same in a format
abbrev pub counts_text : Format → (covered counted excluded : ℕ) → List ℕ
counts_text Text covered counted excluded = said_counts covered counted excluded
counts_text Json covered counted excluded = json_counts covered counted excluded

-- the counts of a sort, of a step or of all
abbrev pub counts_of : Known → Format → Sort → Option ℕ → List ℕ
counts_of x format sort step =
    counts_text format (count_of x sort step Covered) (count_of x sort step Counted) (count_of x sort step Excluded)

-- an instance with the states and the ways of its block, by the step that calls it; and in JSON
abbrev pub said_head : Known → (step instance : ℕ) → List ℕ
said_head x k i =
    instance_name x.net i ++ codes " " ++ (block (kind_at x.net i)).name ++ codes "  states "
    ++ counts_of x Text States (Some k) ++ codes "  ways " ++ counts_of x Text Ways (Some k) ++ codes "\n"

-- the same in JSON
abbrev pub json_head : Known → (step instance : ℕ) → List ℕ
json_head x k i =
    codes "{\"instance\":\"" ++ instance_name x.net i ++ codes "\",\"kind\":\"" ++ (block (kind_at x.net i)).name
    ++ codes "\",\"states\":" ++ counts_of x Json States (Some k) ++ codes ",\"ways\":"
    ++ counts_of x Json Ways (Some k) ++ codes "}\n"

-- the same in a format
abbrev pub head_line : Known → Format → (step instance : ℕ) → List ℕ
head_line x Text k i = said_head x k i
head_line x Json k i = json_head x k i

-- what is told of a point
abbrev pub marks_at : Known → Format → (step : ℕ) → Option Seen → List ℕ
marks_at x format k (Some s) = missed_mark x.net x.rows format k s.point (s.off && s.on)
marks_at x format k None = []

-- what is told of a point that is a signal: the values that it never had
abbrev pub values_at : Known → Format → Option Seen → List ℕ
values_at x format (Some s) = missed_values x.net format s.point s.off s.on
values_at x format None = []

-- what is told of a point that is an operand: the values with which it never decided
abbrev pub decisions_at : Format → Place → Option Seen → List ℕ
decisions_at format at (Some s) = missed_decisions format at s.point s.off s.on
decisions_at format at None = []

-- where a point stands in the source; line 0 where that is not known
abbrev pub nowhere : Place
nowhere = record { line = 0; column = 0 }

-- where the point with this number stands in the source
abbrev pub place_of : Known → (n : ℕ) → Place
place_of x n = slice_index_or x.places n nowhere

-- the marks that the call of a step never made
abbrev pub missed_marks : Known → Format → (step : ℕ) → List ℕ
missed_marks x format k = flat_map (λ n. marks_at x format k (x.at n)) (range_with_len 0 x.size)

-- what is told of a step: of one that calls an instance
abbrev pub step_text : Known → Format → (step : ℕ) → Option Action → List ℕ
step_text x format k (Some (calls i args)) = head_line x format k i ++ missed_marks x format k
step_text x format k (Some (assigns t e)) = []
step_text x format k None = []

-- what is told of each step, in their order
abbrev pub steps_text : Known → Format → List ℕ
steps_text x format =
    flat_map (λ k. step_text x format k (slice_get x.net.steps k)) (range_with_len 0 (length x.net.steps))

-- the counts of the signals, or of the operands, of all; and in JSON
abbrev pub said_sort : Known → Sort → (word : List ℕ) → List ℕ
said_sort x sort word = word ++ codes " " ++ counts_of x Text sort None ++ codes "\n"

-- the same in JSON
abbrev pub json_sort : Known → Sort → (word : List ℕ) → List ℕ
json_sort x sort word = codes "{\"" ++ word ++ codes "\":" ++ counts_of x Json sort None ++ codes "}\n"

-- the same in a format
abbrev pub sort_line : Known → Format → Sort → (word : List ℕ) → List ℕ
sort_line x Text sort word = said_sort x sort word
sort_line x Json sort word = json_sort x sort word

-- the values that signals never had
abbrev pub values_text : Known → Format → List ℕ
values_text x format = flat_map (λ n. values_at x format (x.at n)) (range_with_len 0 x.size)

-- the values with which operands never decided
abbrev pub decisions_text : Known → Format → List ℕ
decisions_text x format = flat_map (λ n. decisions_at format (place_of x n) (x.at n)) (range_with_len 0 x.size)

-- the four percentages; and in JSON
abbrev pub said_parts : (states ways values decisions : ℕ) → List ℕ
said_parts states ways values decisions =
    codes "states " ++ decimal states ++ codes " %  ways " ++ decimal ways ++ codes " %  values " ++ decimal values
    ++ codes " %  decisions " ++ decimal decisions ++ codes " %\n"

-- the same in JSON
abbrev pub json_parts : (states ways values decisions : ℕ) → List ℕ
json_parts states ways values decisions =
    codes "{\"percent\":{\"states\":" ++ decimal states ++ codes ",\"ways\":" ++ decimal ways ++ codes ",\"values\":"
    ++ decimal values ++ codes ",\"decisions\":" ++ decimal decisions ++ codes "}}\n"

-- the same, of what was covered, in a format
abbrev pub last_line : Known → Format → List ℕ
last_line x Text = said_parts (part_of x States) (part_of x Ways) (part_of x Values) (part_of x Decisions)
last_line x Json = json_parts (part_of x States) (part_of x Ways) (part_of x Values) (part_of x Decisions)

-- The whole text: for each instance, in the order of the calls, its counts, and below them the ways and states that
-- were never seen; the counts of values and of decisions with what was never seen of them; the percentages.
abbrev pub coverage_text : Known → Format → List ℕ
coverage_text x format =
    steps_text x format ++ sort_line x format Values (codes "values") ++ values_text x format
    ++ sort_line x format Decisions (codes "decisions") ++ decisions_text x format ++ last_line x format
