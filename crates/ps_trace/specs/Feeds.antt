-- The line feeds of the lines that a reader gives.
use Rattle.std.specs.Prelude.{ℕ, Result, Ok, Err}
use Rattle.ps_lines.specs.declared.reader.Got.{Got}
use Rattle.ps_lines.specs.declared.reader.Got.TheVariants.{Line, LastLine, TooLong, TooLarge, End}
use Rattle.ps_base.specs.declared.failing.Rule.{Rule}
use Rattle.ps_base.specs.declared.failing.Rule.TheVariants.{T1, T8, T9}

-- how many line feeds end a line that came, or the rule by which there is none
abbrev pub feeds_of : Got → Result ℕ Rule
feeds_of Line = Ok 1
feeds_of LastLine = Ok 0
feeds_of TooLong = Err T8
feeds_of TooLarge = Err T9
feeds_of End = Err T1
