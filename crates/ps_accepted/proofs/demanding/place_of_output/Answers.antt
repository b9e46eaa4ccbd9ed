use Rattle.std.proofs.Common.{◌≡◌, ◌∙◌, ℕ, None, Some, sym, ap}
use Rattle.ps_model.specs.declared.driver.Driver.{Driver}
use Rattle.ps_model.specs.declared.driver.Driver.TheVariants.{Assigned, Output}
use Rattle.ps_parser.specs.Places.{step_place}
use Rattle.ps_accepted.proofs.Targets.{Assigning, assigning}
use Rattle.ps_accepted.proofs.demanding.place_of_output.Goals as goal

assigned_alone : (j k : ℕ) → Some (Assigned j) ≡ Some (Assigned k) → j ≡ k
assigned_alone j k h = cc

no_output : (i o k j : ℕ) → Some (Assigned j) ≡ Some (Output i o k) → ⊥
no_output i o k j h = cc

no_driver : (j : ℕ) → Some (Assigned j) ≡ None → ⊥
no_driver j h = cc

pub unreachable-requires : goal.unreachable-requires
unreachable-requires c =
    let a = assigning c.args.app.now c.sound.ensures c.args.output c.requires.output in
    no_output c.in-Some-Output.field-0-0 c.in-Some-Output.field-0-1 c.in-Some-Output.field-0-2 a.step
    (sym a.drives_it ∙ sym c.driver.ensures ∙ c.in-Some-Output.is ∙ ap (λ (d : Driver). Some d) c.in-Some-Output.field-0-is)

pub unreachable-requires-in-None : goal.unreachable-requires-in-None
unreachable-requires-in-None c =
    let a = assigning c.args.app.now c.sound.ensures c.args.output c.requires.output in
    no_driver a.step (sym a.drives_it ∙ sym c.driver.ensures ∙ c.in-None.is)

pub returns : goal.returns
returns c =
    let tree = c.args.source.now in
    let a : Assigning c.args.app.now c.args.output = assigning c.args.app.now c.sound.ensures c.args.output c.requires.output in
    let same : a.step ≡ c.in-Some-Assigned.step =
    assigned_alone a.step c.in-Some-Assigned.step
    (sym a.drives_it ∙ sym c.driver.ensures ∙ c.in-Some-Assigned.is ∙ ap (λ (d : Driver). Some d) c.in-Some-Assigned.field-0-is) in
    record { step = a.step; value = a.value; assigned = a.assigned; place = ap (λ (k : ℕ). step_place tree k None) same ∙ sym c.place.ensures }
