use Rattle.std.proofs.Common.{◌≡◌, ℕ, ◌<◌, Option, Some, None, IfSome, IfNone, List, sym, subst}
use Rattle.ps_model.specs.declared.kind.Kind.{Kind}
use Rattle.ps_model.specs.Pins.{IsNamed, pin_count}
use Rattle.ps_parser.specs.declared.name.Name.{Name}
use Rattle.ps_names.specs.Rules.{pin_at}
use Rattle.ps_names.proofs.Lookups.{pin_found, pin_missing}
use Rattle.ps_names.proofs.sorts.pin_of.Goals as goal

is_pin : (kind : Kind) (q : Name) (text : List ℕ) (o : Option ℕ) → text ≡ q.text → IfSome o (IsNamed kind text) →
    IfNone o ((j : ℕ) → j < pin_count kind → ¬ (IsNamed kind text j)) → o ≡ pin_at kind q
is_pin kind q text (Some j) is some none = sym (pin_found kind q j (subst (λ t. IsNamed kind t j) is some))
is_pin kind q text None is some none = sym (pin_missing kind q (λ j lt named. none j lt (subst (λ t. IsNamed kind t j) (sym is) named)))

pub returns : goal.returns
returns c = is_pin c.args.kind c.args.name.now c.as_slice.result.now c.pin_named.result c.as_slice.ensures c.pin_named.ensures.some c.pin_named.ensures.none
