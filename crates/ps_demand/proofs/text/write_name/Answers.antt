use Rattle.std.proofs.Common.{◌≡◌, ◌++◌, [], false, Some, sym, ap, ◌∙◌, append-nil, arith}
use Rattle.std.specs.Prelude.{nat_lt}
use Rattle.std.proofs.lemmas.Bool.{cond-false, le-ltb}
use Rattle.ps_model.specs.Drivers.{driver}
use Rattle.ps_model.specs.Network.{declared_count, signal_name}
use Rattle.ps_demand.specs.Texts.{full_name, output_name}
use Rattle.ps_demand.proofs.DriverStands.{driver_past, driver_output}
use Rattle.ps_demand.proofs.text.write_name.Goals as goal

pub returns-then-signal-signal_count : goal.returns-then-signal-signal_count
returns-then-signal-signal_count c =
    let net = c.args.app.now in
    let s = c.args.signal in
    let past = driver_past net c.sound.ensures s (omega (arith, c.signal_count.ensures, c.if-signal-signal_count.true)) in
    let other : nat_lt s (declared_count net) ≡ false = le-ltb s (declared_count net) (omega (arith, c.declared_count.ensures, c.if-signal-declared_count.false)) in
    let nothing : full_name net s ≡ [] =
    cond-false (nat_lt s (declared_count net)) (signal_name net s) (output_name net (driver net s)) other ∙ ap (output_name net) past in
    sym (ap (λ t. c.args.bytes.now ++ t) nothing ∙ append-nil c.args.bytes.now)

pub write_output_name-requires-clause-output : goal.write_output_name-requires-clause-output
write_output_name-requires-clause-output c =
    (driver_output c.args.app.now c.sound.ensures c.args.signal c.in-Some-Output.instance c.in-Some-Output.output c.in-Some-Output.step
    (sym c.driver.ensures ∙ c.in-Some-Output.is ∙ ap (λ d. Some d) c.in-Some-Output.field-0-is)).1
