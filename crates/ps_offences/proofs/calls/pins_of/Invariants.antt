use Rattle.std.proofs.Common.{◌≡◌, map, take, []}
use Rattle.ps_names.specs.Offences.{noted}
use Rattle.ps_base.specs.declared.failing.Rule.TheVariants.{B3}
use Rattle.ps_names.specs.Rules.{repeated}
use Rattle.ps_names.specs.Tables.{Has}
use Rattle.ps_offences.proofs.calls.pins_of.Given as goal

abbrev pub invariant-loop-i : goal.invariant-loop-i
invariant-loop-i l = record {
  table : Has l.pins (map (λ a. a.pin) (take l.i l.arguments));
  found : l.found ≡ noted l.fn.found (repeated B3 [] (map (λ a. a.pin) (take l.i l.arguments)));
}
