use Rattle.std.proofs.Common.{◌≡◌, ◌<◌, true, take}
use Rattle.std.specs.List.{list_all}
use Rattle.std.specs.Char.{is_ascii_digit}
use Rattle.ps_trace.specs.Words.{digits_value}
use Rattle.ps_trace.proofs.words.number.Given as goal

abbrev pub invariant-loop-digit : goal.invariant-loop-digit
invariant-loop-digit l = record {
  digits : list_all is_ascii_digit (take l.digit-index l.word) ≡ true;
  value : l.value ≡ digits_value (take l.digit-index l.word);
  fits : l.value < 4294967296;
}
