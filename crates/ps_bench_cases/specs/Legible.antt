-- When the trace of all cases is read as it was written.
use Rattle.std.specs.Prelude.{◌≡◌, ◌<◌, ◌≤◌, ◌+◌, ℕ, List, ◌++◌, All, length, codes, true, nat_lt}
use Rattle.std.specs.List.{list_all}
use Rattle.ps_base.specs.declared.limits.TheConstants.{LARGEST_TIME, LARGEST_TRACE, LONGEST_TRACE_LINE}
use Rattle.ps_lines.specs.Lines.{HasNoLineFeed}
use Rattle.ps_model.specs.Meaning.{Item}
use Rattle.ps_model.specs.Meaning.Item.{scan, restart}
use Rattle.ps_model.specs.Network.{Network}
use Rattle.ps_trace.specs.Header.{input_names}
use Rattle.ps_bench_cases.specs.declared.case.Act.{Act}
use Rattle.ps_bench_cases.specs.declared.case.Act.TheVariants.{Fault}
use Rattle.ps_bench_cases.specs.declared.case.Case.{Case}
use Rattle.ps_bench_cases.specs.declared.case.CaseFile.{CaseFile}
use Rattle.ps_bench_cases.specs.declared.case.Statement.{Statement}
use Rattle.ps_bench_cases.specs.Expanded.{expanded, fault_line, header_line, name_line}
use Rattle.ps_bench_cases.specs.Joined.{items_of_file}
use Rattle.ps_bench_cases.specs.Meant.{whole_case}

-- bytes are a name that is seen: one or more, none of them a blank or a control byte
pub record IsSeen (bytes : List ℕ) : Type 0 where
  pub some : 0 < length bytes
  pub seen : list_all (λ b. nat_lt 32 b) bytes ≡ true

-- a text is one line that a line feed ends, no longer than a line of a trace may be
pub record IsLine (text : List ℕ) : Type 0 where
  pub line : List ℕ
  pub is : text ≡ line ++ codes "\n"
  pub one : HasNoLineFeed line
  pub short : length line ≤ LONGEST_TRACE_LINE

-- a fault is one line of the trace
abbrev pub IsOneLine : Act → Type 0
IsOneLine (Fault fault) = IsLine (fault_line fault)
IsOneLine _ = Unit {0}

-- a scan is no later than a trace may say
abbrev pub IsInTime : Item → Type 0
IsInTime (scan now ins) = now ≤ LARGEST_TIME
IsInTime restart = Unit {0}

-- The trace of all cases has lines of the form and the length that a trace may have, is no larger than one, and no scan
-- of it is too late.
pub record IsLegible (net : Network) (file : CaseFile) : Type 0 where
  pub inputs : All IsSeen (input_names net)
  pub header : length (header_line net) ≤ LONGEST_TRACE_LINE + 1
  pub names : All (λ (c : Case). IsLine (name_line c.name)) file.cases
  pub faults : All (λ (c : Case). All (λ (s : Statement). IsOneLine s.act) (whole_case file c)) file.cases
  pub size : length (expanded net file) ≤ LARGEST_TRACE
  pub times : All IsInTime (items_of_file net file)
