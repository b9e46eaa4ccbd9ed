use Rattle.std.proofs.Common.{◌≡◌, ◌≤◌, ◌<◌, ◌-◌, ◌^◌, true, take}
use Rattle.std.specs.List.{list_all}
use Rattle.std.specs.Char.{is_ascii_digit}
use Rattle.ps_trace.specs.Words.{digits_value}
use Rattle.ps_trace.proofs.plain_line.number_within.Given as goal

abbrev pub invariant-digits : goal.invariant-digits
invariant-digits l = record {
  within : l.end ≤ l.most;
  digits : list_all is_ascii_digit (take l.end l.bytes) ≡ true;
  value : l.value ≡ digits_value (take l.end l.bytes);
  fits : l.value < 10 ^ l.end;
}

abbrev pub decreases-digits : goal.decreases-digits
decreases-digits l = l.most - l.end
