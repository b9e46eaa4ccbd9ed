-- Statements by their lines.
use Rattle.std.specs.Prelude.{ℕ, List, [], ◌∷◌, if◌then◌else◌}
use Rattle.ps_bench_judge.specs.Passed.{is_from}
use Rattle.ps_bench_cases.specs.declared.case.Statement.{Statement}

-- statements from a line on
abbrev pub from_line : ℕ → List Statement → List Statement
from_line line [] = []
from_line line (s ∷ ss) = if is_from line s.line then s ∷ ss else from_line line ss
