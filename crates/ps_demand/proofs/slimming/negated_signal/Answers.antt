use Rattle.std.proofs.Common.{◌≡◌, false, cond, take, sym, ◌∙◌, arith}
use Rattle.std.specs.Prelude.{nat_lt}
use Rattle.std.specs.List.{list_any}
use Rattle.std.proofs.lemmas.Bool.{cond-true, cond-false, or_right, or_from, le-ltb}
use Rattle.ps_model.specs.Network.{input_count, drives, is_new}
use Rattle.ps_demand.specs.Requirement.{always, not_now, not_before}
use Rattle.ps_demand.proofs.DriverStands.{driven_before}
use Rattle.ps_demand.proofs.Views.{requirement-True, requirement-NotBefore}
use Rattle.ps_demand.proofs.slimming.negated_signal.Goals as goal

pub returns-then-stands_before : goal.returns-then-stands_before
returns-then-stands_before c =
    let net = c.args.app.now in
    let k = c.args.k in
    let s = c.args.signal in
    let input = nat_lt s (input_count net) in
    let other : input ≡ false = le-ltb s (input_count net) (omega (arith, c.input_count.ensures, c.if-signal-input_count.false)) in
    let driven = driven_before net c.sound.ensures s k ∙ sym c.stands_before.ensures ∙ c.if-stands_before.true in
    requirement-True ∙ sym (cond-false input (not_now s) (cond (is_new net k s) always (not_before s)) other
    ∙ cond-true (is_new net k s) always (not_before s) (or_right input (list_any (drives net s) (take k net.steps)) driven))

pub returns : goal.returns
returns c =
    let net = c.args.app.now in
    let k = c.args.k in
    let s = c.args.signal in
    let input = nat_lt s (input_count net) in
    let other : input ≡ false = le-ltb s (input_count net) (omega (arith, c.input_count.ensures, c.if-signal-input_count.false)) in
    let driven = driven_before net c.sound.ensures s k ∙ sym c.stands_before.ensures ∙ c.if-stands_before.false in
    requirement-NotBefore s ∙ sym (cond-false input (not_now s) (cond (is_new net k s) always (not_before s)) other
    ∙ cond-false (is_new net k s) always (not_before s) (or_from input (list_any (drives net s) (take k net.steps)) other driven))
