use Rattle.std.proofs.Common.{◌≡◌, drop}
use Rattle.std.specs.List.{position_from}
use Rattle.ps_base.specs.LetterCase.{is_same_name}
use Rattle.ps_trace.specs.Header.{input_names, input_named}
use Rattle.ps_trace.proofs.header.input_named.Given as goal

abbrev pub invariant-loop-i : goal.invariant-loop-i
invariant-loop-i l = input_named (input_names l.app) l.word ≡ position_from (is_same_name l.word) l.i (drop l.i (input_names l.app))
