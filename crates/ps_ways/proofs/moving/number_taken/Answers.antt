use Rattle.std.proofs.Common.{◌≡◌, Bool, true, false, refl, sym, ap, ◌∙◌, ◌&&◌}
use Rattle.std.specs.Prelude.{◌==◌, not}
use Rattle.std.proofs.lemmas.Bool.{and_from, cond-false, cond-true, ne_eqb, not_from_false}
use Rattle.ps_model.specs.Blocks.{block}
use Rattle.ps_model.specs.Kept.{seen}
use Rattle.ps_model.specs.PinBits.{pin_of}
use Rattle.ps_model.specs.Table.{Conditions, row_at}
use Rattle.ps_ways.specs.Stepping.{conditions_of}
use Rattle.ps_ways.specs.Ways.{first_rule}
use Rattle.ps_ways.proofs.Pins.{same_pins}
use Rattle.ps_ways.proofs.moving.number_taken.Goals as goal

none : (b : Bool) → (b && false) ≡ false
none true = refl
none false = refl

pub returns-then-not-pin : goal.returns-then-not-pin
returns-then-not-pin c = λ k h.
    let on : Bool = not (c.args.code == 0) in
    let is : (conditions_of c.of-step.result).pin 0 ≡ pin_of c.args.bits 0 =
    ap (λ (s : Conditions). s.pin 0) (c.of-step.ensures k h) ∙ ap (λ pins. pins 0) (same_pins c.args.bits c.ranges.bits.fits) in
    let off : pin_of c.args.bits 0 ≡ false = sym is ∙ sym c.pin.ensures ∙ c.if-not-pin.true in
    sym (cond-false (pin_of c.args.bits 0 && on) _ 0 (ap (λ b. b && on) off))

pub returns-then-code-eq0 : goal.returns-then-code-eq0
returns-then-code-eq0 c = λ k h.
    let off : (pin_of c.args.bits 0 && not (c.args.code == 0)) ≡ false =
    ap (λ q. pin_of c.args.bits 0 && not (q == 0)) c.if-code-eq0.true ∙ none (pin_of c.args.bits 0) in
    sym (cond-false (pin_of c.args.bits 0 && not (c.args.code == 0)) _ 0 off)

pub returns : goal.returns
returns c = λ k h.
    let is : conditions_of c.of-step.result ≡ seen c.args.kind (pin_of c.args.bits) c.args.elapsed k =
    c.of-step.ensures k h ∙ ap (λ pins. seen c.args.kind pins c.args.elapsed k) (same_pins c.args.bits c.ranges.bits.fits) in
    let on : pin_of c.args.bits 0 ≡ true =
    sym (ap (λ (s : Conditions). s.pin 0) is) ∙ sym c.pin.ensures ∙ c.if-not-pin.false in
    c.guard_taken.ensures ∙ ap (λ (s : Conditions). first_rule 1 (row_at (block c.args.kind).rows c.args.code).rules s) is
    ∙ sym (cond-true (pin_of c.args.bits 0 && not (c.args.code == 0)) _ 0 (and_from (pin_of c.args.bits 0) (not (c.args.code == 0)) on
    (not_from_false (c.args.code == 0) (ne_eqb c.args.code 0 c.if-code-eq0.false))))
