use Rattle.std.proofs.Common.{◌≡◌, ◌+◌, ◌*◌, ◌≤◌, ◌++◌, take, length, flat_map}
use Rattle.ps_bench_waves.specs.Text.{shown_byte}
use Rattle.ps_bench_waves.proofs.change.put_words.Given as goal

-- the bytes so far
abbrev pub invariant-loop-byte : goal.invariant-loop-byte
invariant-loop-byte l = record {
  bytes : take l.end l.text ≡ take l.at l.initial.text ++ flat_map shown_byte (take l.byte-index l.words);
  end : l.end ≤ l.at + 4 * l.byte-index;
  len : length l.text ≡ length l.initial.text;
}
