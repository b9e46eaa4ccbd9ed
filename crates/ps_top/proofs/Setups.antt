-- An application has one setup of two channels, and one of three seats, and no other.
use Rattle.std.proofs.Common.{◌≡◌, ◌∙◌, ℕ, List, length, map, refl, sym}
use mathlib.Core.HLevel.{is_prop→PathP}
use Rattle.std.specs.List.{range_with_len}
use Rattle.std.proofs.Props.{props}
use Rattle.ps_model.specs.declared.kind.Kind.{Kind}
use Rattle.ps_model.specs.declared.sizes.Sizes.{Sizes}
use Rattle.ps_model.specs.Budgets.{turns_a, turns_b}
use Rattle.ps_model.specs.Network.{Network, signal_count, instance_count, input_count, first_pin}
use Rattle.ps_model.specs.Places.{ArePlaces}
use Rattle.ps_model.specs.Sized.{AreSizesOf}
use Rattle.ps_model.proofs.Sizing.{sizes_are_places}
use Rattle.ps_stackvm.specs.Code.{code_a}
use Rattle.ps_eqvm.specs.Code.{code_b}
use Rattle.ps_decision.specs.Budget.{turns_c}
use Rattle.ps_decision.specs.Code.{code_c}
use Rattle.ps_vote.specs.Whole as seats
use Rattle.ps_world.specs.Whole.{Setup, IsSetupOf}

places_prop : (signals instances inputs outputs : ℕ) (firsts : List ℕ) (kinds : List Kind) → IsProp (ArePlaces signals instances inputs outputs firsts kinds)
places_prop signals instances inputs outputs firsts kinds = hlevel props

one_sizes : (net : Network) (y z : Sizes) → AreSizesOf net y → AreSizesOf net z → y ≡ z
one_sizes net y z a b =
    let s : y.signals ≡ z.signals = a.signals ∙ sym b.signals in
    let n : y.instances ≡ z.instances = a.instances ∙ sym b.instances in
    let p : y.inputs ≡ z.inputs = a.inputs ∙ sym b.inputs in
    let o : y.outputs ≡ z.outputs = a.outputs ∙ sym b.outputs in
    let f : y.first_pins ≡ z.first_pins = a.first_pins ∙ sym b.first_pins in
    let k : y.kinds ≡ z.kinds = a.kinds ∙ sym b.kinds in
    λ i. record {
      signals = s i;
      instances = n i;
      inputs = p i;
      outputs = o i;
      first_pins = f i;
      kinds = k i;
      places = is_prop→PathP (λ j. ArePlaces (s j) (n j) (p j) (o j) (f j) (k j)) (λ j. places_prop (s j) (n j) (p j) (o j) (f j) (k j)) y.places z.places i;
    }

pub one_setup : (net : Network) (y z : Setup) → IsSetupOf net y → IsSetupOf net z → y ≡ z
one_setup net y z a b = λ i. record {
  sizes = one_sizes net y.sizes z.sizes a.sizes b.sizes i;
  image_a = (a.image_a ∙ sym b.image_a) i;
  image_b = (a.image_b ∙ sym b.image_b) i;
  budget_a = (a.budget_a ∙ sym b.budget_a) i;
  budget_b = (a.budget_b ∙ sym b.budget_b) i;
}

abbrev sizes_of : Network → Sizes
sizes_of net =
    let firsts = map (first_pin net) (range_with_len 0 (instance_count net)) in
    let kinds = map (λ x. x.kind) net.instances in
    record {
      signals = signal_count net;
      instances = instance_count net;
      inputs = input_count net;
      outputs = length net.outputs;
      first_pins = firsts;
      kinds = kinds;
      places = sizes_are_places net (signal_count net) (instance_count net) (input_count net) (length net.outputs) firsts kinds refl refl refl refl refl refl;
    }

abbrev setup_of : Network → Setup
setup_of net = record { sizes = sizes_of net; image_a = code_a net; image_b = code_b net; budget_a = turns_a net; budget_b = turns_b net }

pub some_setup : (net : Network) → (setup : Setup) × IsSetupOf net setup
some_setup net = (
  setup_of net,
  record {
    sizes = record { signals = refl; instances = refl; inputs = refl; outputs = refl; first_pins = refl; kinds = refl };
    image_a = refl;
    image_b = refl;
    budget_a = refl;
    budget_b = refl;
  },
)

-- ---- three seats

pub one_seat_setup : (net : Network) (y z : seats.Setup) → seats.IsSetupOf net y → seats.IsSetupOf net z → y ≡ z
one_seat_setup net y z a b = λ i. record {
  sizes = one_sizes net y.sizes z.sizes a.sizes b.sizes i;
  limits = (a.limits ∙ sym b.limits) i;
  image_a = (a.image_a ∙ sym b.image_a) i;
  image_b = (a.image_b ∙ sym b.image_b) i;
  image_c = (a.image_c ∙ sym b.image_c) i;
  budget_a = (a.budget_a ∙ sym b.budget_a) i;
  budget_b = (a.budget_b ∙ sym b.budget_b) i;
  budget_c = (a.budget_c ∙ sym b.budget_c) i;
}

abbrev seat_setup_of : Network → seats.Setup
seat_setup_of net = record {
  sizes = sizes_of net;
  limits = seats.limits_of net;
  image_a = code_a net;
  image_b = code_b net;
  image_c = code_c net;
  budget_a = turns_a net;
  budget_b = turns_b net;
  budget_c = turns_c net;
}

pub some_seat_setup : (net : Network) → (setup : seats.Setup) × seats.IsSetupOf net setup
some_seat_setup net = (
  seat_setup_of net,
  record {
    sizes = record { signals = refl; instances = refl; inputs = refl; outputs = refl; first_pins = refl; kinds = refl };
    limits = refl;
    image_a = refl;
    image_b = refl;
    image_c = refl;
    budget_a = refl;
    budget_b = refl;
    budget_c = refl;
  },
)
