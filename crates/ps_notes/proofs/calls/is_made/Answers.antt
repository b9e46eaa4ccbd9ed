use Rattle.std.proofs.Common.{◌≡◌, false, nat_lt, ap, sym, ◌∙◌, if◌then◌else◌, arith}
use Rattle.std.proofs.lemmas.Bool.{le-ltb}
use Rattle.ps_model.specs.Network.{input_count, first_pin}
use Rattle.ps_notes.specs.Notes.{is_earlier, driver_of}
use Rattle.ps_notes.proofs.calls.is_made.Goals as goal

pub returns : goal.returns
returns c =
    let net = c.args.app.now in
    let s = c.args.signal in
    let no_input : nat_lt s (input_count net) ≡ false = le-ltb s (input_count net) (omega (arith, c.input_count.ensures, c.if-signal-input_count.false)) in
    c.is_earlier.ensures ∙ ap (λ d. is_earlier d c.driver_of-2.result) c.driver_of.ensures
    ∙ ap (is_earlier (driver_of net s)) (c.driver_of-2.ensures ∙ ap (driver_of net) c.first_pin.ensures)
    ∙ sym (ap (λ b. if b then false else is_earlier (driver_of net s) (driver_of net (first_pin net c.args.instance))) no_input)
