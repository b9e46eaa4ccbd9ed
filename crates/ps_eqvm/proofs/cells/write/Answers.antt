use Rattle.std.proofs.Common.{inl, inr, refl, ap, ◌∙◌}
use Rattle.std.proofs.lemmas.Bool.{cases_eq}
use Rattle.ps_machine.specs.Bytes.{bit}
use Rattle.ps_eqvm.specs.Bits.{bit_in}
use Rattle.ps_eqvm.proofs.OneBit.{cells_set}
use Rattle.ps_eqvm.proofs.cells.write.Goals as goal

pub returns-clause-written : goal.returns-clause-written
returns-clause-written c =
    cells_set c.args.value.now c.place-2.new.words c.args.odd.now c.place.new.words c.args.counted.now c.args.counted.now c.args.i (bit c.args.on) refl c.requires.within
    (rw c.place.ensures.same c.place-2.ensures.same)
    (λ j other. rw (c.place.ensures.others j other, c.place-2.ensures.others j other) refl)

pub returns-clause-even : goal.returns-clause-even
returns-clause-even c = λ clear j. elim (cases_eq j c.args.i) [
  | inl own ↦ ap (bit_in c.place.new.words) own ∙ c.place.ensures.same
  | inr other ↦ c.place.ensures.others j other ∙ clear j
]
