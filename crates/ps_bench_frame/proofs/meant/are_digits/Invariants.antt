use Rattle.std.proofs.Common.{◌≡◌, drop}
use Rattle.std.specs.Char.{is_ascii_digit}
use Rattle.std.specs.List.{list_all}
use Rattle.ps_bench_frame.proofs.meant.are_digits.Given as goal

-- the bytes that are left
abbrev pub invariant-loop-byte : goal.invariant-loop-byte
invariant-loop-byte l = list_all is_ascii_digit l.word ≡ list_all is_ascii_digit (drop l.byte-index l.word)
