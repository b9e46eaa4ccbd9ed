use Rattle.std.proofs.Common.{◌≡◌, drop}
use Rattle.ps_lexer.specs.TimeLiterals.{number_from, number_of}
use Rattle.ps_lexer.proofs.time.number.Given as goal

abbrev pub invariant-loop-d : goal.invariant-loop-d
invariant-loop-d l = record {
  same : number_from l.n (drop l.d-index l.digits) ≡ number_of l.digits;
}
