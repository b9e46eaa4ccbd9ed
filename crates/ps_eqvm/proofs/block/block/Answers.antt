use Rattle.std.proofs.Common.{◌≡◌, ℕ, ◌<◌, List, Option, Some, None, ap, ◌∙◌, sym, arith}
use Rattle.std.specs.Prelude.{nat_le}
use Rattle.std.proofs.lemmas.Bool.{cond-false, lt-leb}
use Rattle.ps_model.specs.declared.kind.Kind.{Kind}
use Rattle.ps_machine.specs.Kinds.{kind_of}
use Rattle.ps_machine.proofs.KindsByNumber.{kind_of_number, no_kind_of}
use Rattle.ps_eqvm.specs.Plain.{Plain}
use Rattle.ps_eqvm.specs.Rows.{operands}
use Rattle.ps_eqvm.specs.Acting.{trapped, pin_bytes, block_by, after_block}
use Rattle.ps_eqvm.proofs.block.block.Goals as goal
use Rattle.ps_eqvm.specs.declared.trap.Trap.TheVariants.{NoInstance}

-- a BLOCK of an instance that is there, by what its kind's number is found to be
by_found : (signals instances instance number first limit : ℕ) (pins : List ℕ) (next : ℕ) (p : Plain) (found : Option Kind) → instance < instances → kind_of number ≡ found →
    block_by signals instance first limit found (pin_bytes signals p.cells pins) next p ≡ after_block signals instances instance number first limit pins next p
by_found signals instances instance number first limit pins next p found low e =
    let bytes = pin_bytes signals p.cells pins in
    ap (λ (o : Option Kind). block_by signals instance first limit o bytes next p) (sym e)
    ∙ sym (cond-false (nat_le instances instance) (trapped NoInstance p) (block_by signals instance first limit (kind_of number) bytes next p) (lt-leb instances instance low))

pub returns-in-Some : goal.returns-in-Some
returns-in-Some c =
    let a = c.args in
    let s = a.site in
    let low : s.instance < a.instances = omega (arith, c.if-site-instances.false) in
    c.block_as.ensures
    ∙ by_found s.signals a.instances s.instance a.kind s.first s.limit (operands a.code.now a.from a.count) s.next a.plain.now (Some c.in-Some.kind) low
    (kind_of_number c.in-Some.kind a.kind c.in-Some.ensures.some)

pub returns-in-None : goal.returns-in-None
returns-in-None c =
    let a = c.args in
    let s = a.site in
    let low : s.instance < a.instances = omega (arith, c.if-site-instances.false) in
    c.trap-in-None.ensures
    ∙ by_found s.signals a.instances s.instance a.kind s.first s.limit (operands a.code.now a.from a.count) s.next a.plain.now None low
    (no_kind_of a.kind c.in-None.ensures.none)
