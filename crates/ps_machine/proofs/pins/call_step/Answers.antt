use Rattle.std.proofs.Common.{◌≡◌, ◌∙◌, sym, subst, ap, arith, Some, None, length}
use Rattle.std.specs.Prelude.{option_map, ◌<◌}
use Rattle.ps_model.specs.Drivers.{driver}
use Rattle.ps_model.specs.Network.{kind_at}
use Rattle.ps_model.proofs.FirstPinBound.{first_pin-bound}
use Rattle.ps_machine.specs.Drivers.{step_of}
use Rattle.ps_machine.proofs.Steps.{call_drives, some_outputs}
use Rattle.ps_machine.proofs.pins.call_step.Goals as goal

pub driver-requires : goal.driver-requires
driver-requires c =
    let net = c.args.app.now in
    omega (arith, first_pin-bound net c.args.i c.requires, some_outputs (kind_at net c.args.i), c.first_pin.ensures)

pub returns-in-Some-clause-calls : goal.returns-in-Some-clause-calls
returns-in-Some-clause-calls c =
    let net = c.args.app.now in
    let d = call_drives net c.sound.ensures c.args.i c.requires in
    let is : c.driver_step.result ≡ Some d.0 = c.driver_step.ensures ∙ ap (option_map step_of) (c.driver.ensures ∙ ap (driver net) c.first_pin.ensures ∙ d.3) in
    let same : Some d.0 ≡ Some c.in-Some.step = sym is ∙ c.in-Some.is in
    d.1 ∙ same

pub returns-in-Some-clause-within : goal.returns-in-Some-clause-within
returns-in-Some-clause-within c =
    let net = c.args.app.now in
    let d = call_drives net c.sound.ensures c.args.i c.requires in
    let is : c.driver_step.result ≡ Some d.0 = c.driver_step.ensures ∙ ap (option_map step_of) (c.driver.ensures ∙ ap (driver net) c.first_pin.ensures ∙ d.3) in
    let same : Some d.0 ≡ Some c.in-Some.step = sym is ∙ c.in-Some.is in
    let e : d.0 ≡ c.in-Some.step = cc in
    subst (λ n. n < length net.steps) e d.2

pub returns-in-None-clause-calls : goal.returns-in-None-clause-calls
returns-in-None-clause-calls c =
    let net = c.args.app.now in
    let d = call_drives net c.sound.ensures c.args.i c.requires in
    let is : c.driver_step.result ≡ Some d.0 = c.driver_step.ensures ∙ ap (option_map step_of) (c.driver.ensures ∙ ap (driver net) c.first_pin.ensures ∙ d.3) in
    let clash : Some d.0 ≡ None = sym is ∙ c.in-None.is in
    cc

pub returns-in-None-clause-within : goal.returns-in-None-clause-within
returns-in-None-clause-within c =
    let net = c.args.app.now in
    let d = call_drives net c.sound.ensures c.args.i c.requires in
    let is : c.driver_step.result ≡ Some d.0 = c.driver_step.ensures ∙ ap (option_map step_of) (c.driver.ensures ∙ ap (driver net) c.first_pin.ensures ∙ d.3) in
    let clash : Some d.0 ≡ None = sym is ∙ c.in-None.is in
    cc
