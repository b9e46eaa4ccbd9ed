use Rattle.std.proofs.Common.{refl, sym, ap, Some, ◌∙◌, arith, slice_get}
use Rattle.ps_resolve.proofs.NumberLists.{pin_as}
use Rattle.ps_resolve.proofs.numbers.pin_number_at.Goals as goal

pub overflow_add-result : goal.overflow_add-result
overflow_add-result c = let few = c.first_at.ensures.few in let small = c.output_at.type_inv in let same = c.from.ensures in omega arith

pub returns-in-Some-Instance : goal.returns-in-Some-Instance
returns-in-Some-Instance c =
    pin_as c.args.numbering.now.entries.now c.args.k c.first_at.result c.from.result (slice_get c.args.numbering.now.entries.now c.args.k) c.in-Some-Instance.kind c.args.pin.now refl (ap Some (sym c.in-Some-Instance.field-0-is) ∙ c.in-Some-Instance.ensures)
    c.first_at.ensures.is (c.from.ensures ∙ c.output_at.ensures)
