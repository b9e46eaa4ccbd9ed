use Rattle.std.proofs.Common.{◌≡◌, drop}
use Rattle.std.specs.List.{position_from}
use Rattle.ps_base.specs.LetterCase.{is_same_name}
use Rattle.ps_model.specs.Pins.{pin_names}
use Rattle.ps_bench_names.specs.Names.{number_named}
use Rattle.ps_bench_names.proofs.names.pin_numbered.Given as goal

abbrev pub invariant-loop-j : goal.invariant-loop-j
invariant-loop-j l = number_named (pin_names l.kind) l.word ≡ position_from (is_same_name l.word) l.j (drop l.j (pin_names l.kind))
