-- What the code says of a header.
use Rattle.std.specs.Prelude.{◌≡◌, ℕ, List, Option, Some, None, vec_len}
use Rattle.ps_base.specs.declared.failing.Rule.{Rule}
use Rattle.ps_trace.specs.Header.{Header}
use Rattle.ps_trace.specs.Header.Header.{no_header, places, wrong}
use Rattle.ps_trace.specs.declared.header.HeaderSays.{HeaderSays}
use Rattle.ps_trace.specs.declared.header.HeaderSays.TheVariants.{Nothing, Places, Broken}

-- what is said by the rule that refuses the names of a header, or by the places of the inputs' values
abbrev pub names_by : Option Rule → List ℕ → Header
names_by None found = places found
names_by (Some rule) found = wrong rule

-- what is said by an answer
abbrev pub header_by : HeaderSays → Header
header_by Nothing = no_header
header_by (Places p) = places p.items
header_by (Broken rule) = wrong rule

-- where there are places, there is one for each of so many inputs
abbrev pub IsSized : ℕ → HeaderSays → Type 0
IsSized inputs Nothing = Unit {0}
IsSized inputs (Places p) = vec_len p ≡ inputs
IsSized inputs (Broken rule) = Unit {0}
