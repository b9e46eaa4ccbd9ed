-- What the code says of a row.
use Rattle.std.specs.Prelude.{ℕ, Bool, false, not, List, map, is_some, unwrap_or, if◌then◌else◌, Option, Some, None}
use Rattle.std.specs.List.{list_all}
use Rattle.ps_bench_names.specs.Names.{truth_of}
use Rattle.ps_trace.specs.Words.{number_of}
use Rattle.ps_bench_logs.specs.Rows.{Said, scan_said}
use Rattle.ps_bench_logs.specs.Rows.Said.{skips, scans, breaks}
use Rattle.ps_bench_logs.specs.Spans.{part_at}
use Rattle.ps_bench_logs.specs.declared.fields.Span.{Span}
use Rattle.ps_bench_logs.specs.declared.flaw.Flaw.TheVariants.{V3}
use Rattle.ps_bench_logs.specs.declared.table.RowSays.{RowSays}
use Rattle.ps_bench_logs.specs.declared.table.RowSays.TheVariants.{Nothing, Scan, Broken}

-- there is a value in each of these parts
abbrev pub are_parts : (line : List ℕ) → List Span → (places : List ℕ) → Bool
are_parts line spans places = list_all (λ k. is_some (truth_of (part_at line spans k))) places

-- the values in them
abbrev pub part_values : (line : List ℕ) → List Span → (places : List ℕ) → List Bool
part_values line spans places = map (λ k. unwrap_or (truth_of (part_at line spans k)) false) places

-- whether a row is the first after a restart
abbrev pub restart_part : (line : List ℕ) → List Span → Option ℕ → Option Bool
restart_part line spans None = Some false
restart_part line spans (Some k) = truth_of (part_at line spans k)

-- what the parts of a row say, where columns stand at these places
abbrev pub parts_said : (line : List ℕ) → List Span → (time : ℕ) → (restart : Option ℕ) → (inputs : List ℕ) → (last : ℕ) → Said
parts_said line spans time restart inputs last =
    if not (are_parts line spans inputs) then breaks V3
    else scan_said last (number_of (part_at line spans time)) (restart_part line spans restart)
    (part_values line spans inputs)

-- what is said by an answer, with the values of the inputs aside
abbrev pub said_by : RowSays → List Bool → Said
said_by Nothing ins = skips
said_by (Scan now is_restarted) ins = scans now is_restarted ins
said_by (Broken flaw) ins = breaks flaw
