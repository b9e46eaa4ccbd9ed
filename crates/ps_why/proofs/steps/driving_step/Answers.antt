use Rattle.std.proofs.Common.{◌≡◌, false, subst, sym}
use Rattle.std.specs.Prelude.{MatchOption}
use Rattle.ps_model.specs.Network.{is_driven}
use Rattle.ps_why.specs.Drivers.{IsDrivenAt, IsDrivenBy}
use Rattle.ps_why.proofs.Making.{by_driver, none_drives}
use Rattle.ps_why.proofs.steps.driving_step.Goals as goal

pub returns-in-None : goal.returns-in-None
returns-in-None c =
    let net = c.args.app.now in
    let s = c.args.s in
    λ b. none_drives net s (subst (λ o. MatchOption o (is_driven net s ≡ false) (IsDrivenBy net s)) c.in-None.is c.driver_of.ensures.drives)

pub returns-in-Some : goal.returns-in-Some
returns-in-Some c =
    let net = c.args.app.now in
    let s = c.args.s in
    let d = subst (λ o. MatchOption o (is_driven net s ≡ false) (IsDrivenBy net s)) c.in-Some.is c.driver_of.ensures.drives in
    λ b. subst (IsDrivenAt net s) (sym c.step_of_driver.ensures) (by_driver net s c.in-Some.driver d)
