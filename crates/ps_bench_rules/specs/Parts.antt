-- The parts of a line: each is right, or has a flaw. Of several flaws of a line the one with the least number counts.
use Rattle.std.specs.Prelude.{ℕ, List, [], ◌∷◌, ◌++◌, if◌then◌else◌, nat_le, Option, Some, None, Result, Ok, Err}
use Rattle.ps_bench_rules.specs.declared.flaw.Flaw.{Flaw}
use Rattle.ps_bench_rules.specs.declared.flaw.Flaw.TheVariants.{R1, R2, R3, R4, R5}

-- the number of a flaw
abbrev pub rank : Flaw → ℕ
rank R1 = 1
rank R2 = 2
rank R3 = 3
rank R4 = 4
rank R5 = 5

-- of two flaws the one with the lesser number
abbrev pub least : Flaw → Flaw → Flaw
least r s = if nat_le (rank r) (rank s) then r else s

-- some parts of a line, and one more after them
abbrev pub and_then : {A : Type 0} → Result (List A) Flaw → Result A Flaw → Result (List A) Flaw
and_then (Ok found) (Ok a) = Ok (found ++ a ∷ [])
and_then (Ok found) (Err s) = Err s
and_then (Err r) (Ok a) = Err r
and_then (Err r) (Err s) = Err (least r s)

-- the parts of a line so far, unless one of them has a flaw
abbrev pub so_far : {A : Type 0} → Option Flaw → A → Result A Flaw
so_far None found = Ok found
so_far (Some flaw) found = Err flaw
