use Rattle.std.proofs.Common.{◌-◌, ◌<◌, length, ap, sym, ◌∙◌, get_or, arith}
use Rattle.std.specs.Prelude.{nat_lt}
use Rattle.std.proofs.lemmas.List.{get_or_default}
use Rattle.std.proofs.lemmas.Bool.{le-ltb, cond-false}
use Rattle.ps_model.specs.declared.kind.Ty.TheVariants.{Safe, Bool as Plain}
use Rattle.ps_model.specs.Named.{pin_types}
use Rattle.ps_model.specs.Network.{declared_count, declared_signals, no_signal}
use Rattle.ps_model.proofs.Placing.{all_signals}
use Rattle.ps_model.proofs.app.App.signal_type.Goals as goal

pub bounds-output_types-s : goal.bounds-output_types-s
bounds-output_types-s c =
    omega (
      arith,
      ap length c.output_types.ensures,
      ap (λ net. length (pin_types net.instances)) c.self.view_is,
      all_signals c.args.self.now,
    )

pub returns-else-s-declared : goal.returns-else-s-declared
returns-else-s-declared c =
    let net = c.args.self.now in
    let s = c.args.s in
    let types = c.output_types.result.now in
    let inside : s - c.declared_count-declared.result < length types =
    omega (arith, ap length c.output_types.ensures, ap (λ net. length (pin_types net.instances)) c.self.view_is, all_signals net) in
    get_or_default types (s - c.declared_count-declared.result) Safe Plain inside
    ∙ ap (λ ts. get_or ts (s - c.declared_count-declared.result) Plain) c.output_types.ensures
    ∙ ap (λ net. get_or (pin_types net.instances) (s - c.declared_count-declared.result) Plain) c.self.view_is
    ∙ ap (λ n. get_or (pin_types net.instances) (s - n) Plain) c.declared_count-declared.ensures
    ∙ sym (cond-false (nat_lt s (declared_count net)) (get_or (declared_signals net) s no_signal).ty
    (get_or (pin_types net.instances) (s - declared_count net) Plain) (le-ltb s (declared_count net) (omega arith)))
