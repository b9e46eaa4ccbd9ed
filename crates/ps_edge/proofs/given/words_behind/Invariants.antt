use Rattle.std.proofs.Common.{◌≡◌, map, string_bytes}
use Rattle.ps_edge.proofs.given.words_behind.Given as goal

abbrev pub invariant-loop-word : goal.invariant-loop-word
invariant-loop-word g l = l.words ≡ map string_bytes l.yielded
