use Rattle.std.proofs.Common.{◌≡◌, ◌++◌, replicate}
use Rattle.ps_text.proofs.quoted.add_caret.Given as goal

abbrev pub invariant-loop : goal.invariant-loop
invariant-loop l = l.message ≡ l.initial.message ++ replicate l.counter 32
