-- When the scans of a course are.
use Rattle.std.specs.Prelude.{◌-◌, ◌==◌, if◌then◌else◌, ℕ, List, [], ◌∷◌}
use Rattle.ps_model.specs.Meaning.{Item, scan, restart}

-- the time of the scan of this number, counted from 1; 0 where there is none
abbrev pub time_in : (number : ℕ) → List Item → ℕ
time_in number [] = 0
time_in number (restart ∷ items) = time_in number items
time_in number (scan now ins ∷ items) = if number == 1 then now else time_in (number - 1) items
