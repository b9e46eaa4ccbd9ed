-- The sizes of an application are places.
use Rattle.std.proofs.Common.{◌≡◌, ℕ, zero, suc, ◌+◌, ◌<◌, List, [], ◌∷◌, ◌++◌, length, map, take, get_or, ap, sym, ◌∙◌, refl, arith}
use Rattle.std.specs.List.{range_with_len}
use Rattle.std.proofs.lemmas.List.{length-map}
use Rattle.std.proofs.lemmas.List.FromFn.{length-map-range_with_len, get_or-map-range_with_len}
use Rattle.std.proofs.lemmas.Option.{get_or_from_slice_get}
use Rattle.ps_model.specs.declared.kind.Kind.{Kind}
use Rattle.ps_model.specs.declared.kind.Kind.TheVariants.{Equivalent}
use Rattle.ps_model.specs.declared.named.Instance.{Instance}
use Rattle.ps_model.specs.Blocks.{output_count}
use Rattle.ps_model.specs.Network.{Network, signal_count, instance_count, input_count, first_pin, kind_at, no_instance}
use Rattle.ps_model.specs.Places.{ArePlaces}
use Rattle.ps_model.proofs.Once.{element_at, map_next}
use Rattle.ps_model.proofs.FirstPinBound.{first_pin-bound}

kinds_are : (xs : List Instance) (i : ℕ) → get_or (map (λ x. x.kind) xs) i Equivalent ≡ (get_or xs i no_instance).kind
kinds_are [] i = refl
kinds_are (x ∷ xs) zero = refl
kinds_are (x ∷ xs) (suc i) = kinds_are xs i

-- the kind of one more instance
pub kinds_next : (net : Network) (i : ℕ) → i < instance_count net →
    map (λ x. x.kind) (take (i + 1) net.instances) ≡ map (λ x. x.kind) (take i net.instances) ++ kind_at net i ∷ []
kinds_next net i h =
    let here = element_at net.instances i h in
    map_next (λ (x : Instance). x.kind) net.instances i here.0 here.1
    ∙ ap (λ (x : Instance). map (λ (y : Instance). y.kind) (take i net.instances) ++ x.kind ∷ []) (sym (get_or_from_slice_get net.instances i here.0 no_instance here.1))

pub sizes_are_places : (net : Network) (signals instances inputs outputs : ℕ) (firsts : List ℕ) (kinds : List Kind) →
    signals ≡ signal_count net → instances ≡ instance_count net → inputs ≡ input_count net → outputs ≡ length net.outputs →
    firsts ≡ map (first_pin net) (range_with_len 0 (instance_count net)) → kinds ≡ map (λ x. x.kind) net.instances →
    ArePlaces signals instances inputs outputs firsts kinds
sizes_are_places net signals instances inputs outputs firsts kinds s n i o f k = record {
  first_pin_each = ap length f ∙ length-map-range_with_len (first_pin net) 0 (instance_count net) ∙ sym n;
  kind_each = ap length k ∙ length-map net.instances (λ x. x.kind) ∙ sym n;
  declared = omega arith;
  pin_outputs = λ j h.
      let inside : j < instance_count net = omega arith in
      let first : get_or firsts j 0 ≡ first_pin net j =
      ap (λ fs. get_or fs j 0) f ∙ get_or-map-range_with_len (first_pin net) 0 (instance_count net) j j 0 inside (omega arith) in
      let kind : get_or kinds j Equivalent ≡ kind_at net j = ap (λ ks. get_or ks j Equivalent) k ∙ kinds_are net.instances j in
      omega (arith, first, ap output_count kind, first_pin-bound net j inside);
}
