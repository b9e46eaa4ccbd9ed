-- The lines of further refusals, after the message of the first one.
use Rattle.std.specs.Prelude.{ℕ, ◌==◌, List, [], ◌++◌, codes, decimal, if◌then◌else◌}
use Rattle.std.specs.List.{flat_map}
use Rattle.ps_base.specs.declared.failing.Refusal.{Refusal}
use Rattle.ps_base.specs.declared.failing.Rule.{Rule}
use Rattle.ps_report.specs.Short.{rule_text}
use Rattle.ps_text.specs.Lines.{place_shown}
use Rattle.ps_text.specs.Quoted.{behind, line_of, name_at}
use Rattle.ps_text.specs.Shown.{last_shown}

-- a rule, and the name at its place
abbrev pub rule_shown : Rule → (name : List ℕ) → List ℕ
rule_shown rule name = codes ": " ++ rule_text rule ++ codes ": " ++ name ++ codes "\n"

-- the line of a further refusal: the name of the file, the place, the rule, and the name at the place
abbrev pub also_line : (file text : List ℕ) → Refusal → List ℕ
also_line file text refusal =
    last_shown 255 file ++ place_shown refusal.place
    ++ rule_shown refusal.rule (name_at (behind (line_of text refusal.place.line) refusal.place.column))

-- how many more there are than are told
abbrev pub more_text : ℕ → List ℕ
more_text more = if more == 0 then [] else codes "and " ++ decimal more ++ codes " more\n"

-- the lines of further refusals, and how many more there are
abbrev pub also_text : (file text : List ℕ) → List Refusal → (more : ℕ) → List ℕ
also_text file text refusals more = flat_map (also_line file text) refusals ++ more_text more
