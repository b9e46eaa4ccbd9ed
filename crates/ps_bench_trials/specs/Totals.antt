-- What a campaign writes: a head and lines.
use Rattle.std.specs.Prelude.{ℕ, List, ◌++◌, codes}
use Rattle.ps_bench_trials.specs.Telling.{tally_text}
use Rattle.ps_bench_trials.specs.declared.line.Line.{Line}

-- a line that says what names something
abbrev pub name_line : (what name : List ℕ) → List ℕ
name_line what name = what ++ name ++ codes "\n"

-- the head: what names the application, and what names the trace
abbrev pub head_text : (app trace : List ℕ) → List ℕ
head_text app trace = name_line (codes "application ") app ++ name_line (codes "trace ") trace

-- the head, and the lines that have a trial
abbrev pub totals_text : (app trace : List ℕ) → List Line → List ℕ
totals_text app trace lines = head_text app trace ++ tally_text lines
