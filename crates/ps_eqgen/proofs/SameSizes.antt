-- Sizes with the same numbers are the same: that they are places is no more than a fact.
use Rattle.std.proofs.Common.{◌≡◌, ℕ, List}
use Rattle.std.proofs.Math.Bridge.{le_prop}
use Rattle.std.proofs.Math.Nat.{ℕ_set}
use mathlib.Core.HLevel.{is_prop→PathP}
use Rattle.ps_model.specs.declared.kind.Kind.{Kind}
use Rattle.ps_model.specs.declared.sizes.Sizes.{Sizes}
use Rattle.ps_model.specs.Places.{ArePlaces}

places_once : (signals instances inputs outputs : ℕ) (firsts : List ℕ) (kinds : List Kind) (x y : ArePlaces signals instances inputs outputs firsts kinds) → x ≡ y
places_once signals instances inputs outputs firsts kinds x y = λ i. record {
  first_pin_each = ℕ_set _ _ x.first_pin_each y.first_pin_each i;
  kind_each = ℕ_set _ _ x.kind_each y.kind_each i;
  declared = le_prop x.declared y.declared i;
  pin_outputs = λ k low. le_prop (x.pin_outputs k low) (y.pin_outputs k low) i;
}

pub same_sizes : (a b : Sizes) → a.signals ≡ b.signals → a.instances ≡ b.instances → a.inputs ≡ b.inputs → a.outputs ≡ b.outputs →
    a.first_pins ≡ b.first_pins → a.kinds ≡ b.kinds → a ≡ b
same_sizes a b s n i o f k = λ x. record {
  signals = s x;
  instances = n x;
  inputs = i x;
  outputs = o x;
  first_pins = f x;
  kinds = k x;
  places = is_prop→PathP (λ j. ArePlaces (s j) (n j) (i j) (o j) (f j) (k j)) (λ j. places_once (s j) (n j) (i j) (o j) (f j) (k j)) a.places b.places x;
}
