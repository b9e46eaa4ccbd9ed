use Rattle.std.proofs.Common.{refl, arith}
use Rattle.ps_cut.proofs.checking.is_part_of.Goals as goal

pub has_pins-requires-clause-within : goal.has_pins-requires-clause-within
has_pins-requires-clause-within c = λ i h at. (c.if-not-has_kinds.ensures refl i h at).0

pub returns : goal.returns
returns c = λ on. record {
  origin_each = omega (arith, c.if-claim-from.false, c.from.ensures, c.signal_count.ensures);
  instance_each = omega (arith, c.if-claim-from-2.false, c.from-2.ensures, c.instance_count.ensures);
  kinds = c.if-not-has_kinds.ensures refl;
  steps = c.if-not-has_steps.ensures refl;
  pins = c.if-not-has_pins.ensures refl;
  driven = c.has_drivers.ensures on;
}
