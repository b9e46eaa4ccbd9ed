use Rattle.std.proofs.Common.{◌≡◌, Bool, true, false, refl, sym, ap, ◌∙◌}
use Rattle.std.specs.Prelude.{not}
use Rattle.std.specs.List.{list_any}
use Rattle.ps_eqvm.specs.Rows.{operands}
use Rattle.ps_eqvm.specs.Acting.{is_odd, pin_bytes}
use Rattle.ps_eqvm.proofs.PinsRead.{none_odd, pin_bytes_are}
use Rattle.ps_eqvm.proofs.block.pins_of.Goals as goal
use Rattle.ps_eqvm.proofs.block.pins_of.Goals.{then-are_even, else-are_even}

is_false : (b : Bool) → not b ≡ true → b ≡ false
is_false true h = absurd cc
is_false false h = refl

pub returns-then-not-has_odd : goal.returns-then-not-has_odd
returns-then-not-has_odd c =
    let a = c.args in
    let even : list_any is_odd (pin_bytes a.signals a.plain.now.cells (operands a.code.now a.from a.count)) ≡ false =
    elim c.if-are_even.branch [
      | then-are_even w ↦
          ap (list_any is_odd) (pin_bytes_are a.signals a.plain.now.cells a.code.now a.from a.count) ∙ none_odd a.signals a.plain.now.cells a.code.now a.from (c.are_even.ensures.cells w.if-are_even.true) a.count
      | else-are_even w ↦ sym w.has_odd.ensures ∙ is_false w.has_odd.result (sym w.value-is ∙ c.if-not-has_odd.true)
    ] in
    (c.in-Some.ensures.whole, even, c.in-Some.ensures.some)
