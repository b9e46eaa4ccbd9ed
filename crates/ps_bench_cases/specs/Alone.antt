-- One case of a file: which case has a line, and the file with this case alone.
use Rattle.std.specs.Prelude.{ℕ, ◌+◌, List, [], ◌∷◌, ◌&&◌, nat_le, nat_lt, if◌then◌else◌, fold, Option, Some, None}
use Rattle.ps_bench_cases.specs.declared.case.Case.{Case}
use Rattle.ps_bench_cases.specs.declared.case.CaseFile.{CaseFile}
use Rattle.ps_bench_cases.specs.declared.case.Statement.{Statement}

-- the last line on which a case says something
abbrev pub last_line : Case → ℕ
last_line c = fold (λ line (s : Statement). s.line) c.line c.statements

-- the line at which a case has ended that stands before these: that of the next case, or else the one after its last
-- statement
abbrev pub end_before : Case → List Case → ℕ
end_before c [] = last_line c + 1
end_before c (next ∷ cases) = next.line

-- the case that has this line
abbrev pub case_with : (line : ℕ) → List Case → Option Case
case_with line [] = None
case_with line (c ∷ cases) =
    if nat_le c.line line && nat_lt line (end_before c cases) then Some c else case_with line cases

-- the file with this case alone
abbrev pub alone : CaseFile → Case → CaseFile
alone file c = record { begin = file.begin; cases = c ∷ [] }
