use Rattle.std.proofs.Common.{ℕ, Option, ap, ◌∙◌, sym}
use Rattle.ps_model.specs.Kept.{Kept, counted_down}
use Rattle.ps_model.specs.PinBits.{pin_of}
use Rattle.ps_rows.specs.Counted.{kept_of}
use Rattle.ps_eqvm.specs.Acting.{settled, after_step}
use Rattle.ps_eqvm.proofs.block.step_as.Goals as goal

pub returns-in-None : goal.returns-in-None
returns-in-None c =
    let a = c.args in
    c.trap.ensures
    ∙ ap (λ (o : Option Kept). after_step a.site.instance a.site.first a.site.limit a.kind (pin_of a.bits) a.site.next o a.plain.now)
    (sym (c.in-None.ensures.none a.kind))

pub returns-in-None-stepped_if_kept : goal.returns-in-None-stepped_if_kept
returns-in-None-stepped_if_kept c =
    let a = c.args in
    c.trap-in-None-stepped_if_kept.ensures
    ∙ ap (λ (o : Option Kept). after_step a.site.instance a.site.first a.site.limit a.kind (pin_of a.bits) a.site.next o a.plain.now)
    (sym (c.in-Some.ensures.some.others a.kind c.in-None-stepped_if_kept.ensures.none))

pub returns-in-Some-stepped_if_kept : goal.returns-in-Some-stepped_if_kept
returns-in-Some-stepped_if_kept c =
    let a = c.args in
    c.settle.ensures
    ∙ ap (λ (k : Kept). settled a.site.instance a.site.first a.kind k a.site.next a.plain.now)
    (c.in-Some-stepped_if_kept.ensures.counted ∙ ap (λ (t : ℕ). counted_down a.kind a.site.limit (pin_of a.bits) t (kept_of c.in-Some.block)) c.passed.ensures)
    ∙ ap (λ (o : Option Kept). after_step a.site.instance a.site.first a.site.limit a.kind (pin_of a.bits) a.site.next o a.plain.now)
    (sym (c.in-Some.ensures.some.kept a.kind c.in-Some-stepped_if_kept.ensures.was))
