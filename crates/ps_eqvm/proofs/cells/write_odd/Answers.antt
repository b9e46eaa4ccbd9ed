use Rattle.std.proofs.Common.{refl}
use Rattle.std.specs.Prelude.{slice_set}
use Rattle.std.proofs.lemmas.List.{length-set, get_or-set_same, get_or-set_other}
use Rattle.ps_eqvm.proofs.OneBit.{cells_set}
use Rattle.ps_eqvm.proofs.cells.write_odd.Goals as goal

pub returns-clause-written : goal.returns-clause-written
returns-clause-written c =
    let counted = c.args.counted.now in
    let i = c.args.i in
    cells_set c.args.value.now c.place.new.words c.args.odd.now c.place-2.new.words counted (slice_set counted i c.args.byte) i c.args.byte
    (length-set counted i c.args.byte) c.requires.within
    (rw c.place-2.ensures.same (get_or-set_same counted i c.args.byte 0 c.requires.within))
    (λ j other. rw (c.place-2.ensures.others j other, c.place.ensures.others j other, get_or-set_other counted i j c.args.byte 0 other) refl)
