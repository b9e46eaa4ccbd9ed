use Rattle.std.proofs.Common.{◌≡◌, ℕ, List, ◌++◌, ◌∷◌, [], ◌<◌, ◌+◌, map, take, ap, sym, ◌∙◌, arith}
use Rattle.ps_model.specs.declared.kind.Kind.{Kind}
use Rattle.std.specs.List.{range_with_len}
use Rattle.std.proofs.lemmas.List.{take_all}
use Rattle.std.proofs.lemmas.List.FromFn.{map-range_with_len_more}
use Rattle.ps_model.specs.Blocks.{output_count}
use Rattle.ps_model.specs.Network.{Network, first_pin, instance_count, signal_count, kind_at}
use Rattle.ps_model.proofs.FirstPinBound.{first_pin-next, first_pin-bound}
use Rattle.ps_model.proofs.Sizing.{kinds_next, sizes_are_places}
use Rattle.ps_eqgen.proofs.SameSizes.{same_sizes}
use Rattle.ps_eqgen.proofs.sizes.equation_sizes.Goals as goal

pub loop-i-preserved : goal.loop-i-preserved
loop-i-preserved c =
    let net = c.args.app.now in
    let i = c.loop-i.i in
    let inside : i < instance_count net = omega arith in
    record {
      first_pins = c.in_ok-push.ensures ∙ ap (λ fs. fs ++ c.loop-i.behind ∷ []) c.loop-i.invariant.first_pins
          ∙ ap (λ f. map (first_pin net) (range_with_len 0 i) ++ f ∷ []) c.loop-i.invariant.behind
          ∙ sym (map-range_with_len_more (first_pin net) 0 i i (omega arith));
      kinds = c.in_ok-push-2.ensures ∙ ap (λ ks. ks ++ c.instance_kind-kind.result ∷ []) c.loop-i.invariant.kinds
          ∙ ap (λ k. map (λ x. x.kind) (take i net.instances) ++ k ∷ []) c.instance_kind-kind.ensures
          ∙ sym (kinds_next net i inside);
      behind = omega (arith, c.loop-i.invariant.behind, c.all_outputs.ensures, ap output_count c.instance_kind-kind.ensures, first_pin-next net i inside);
    }

-- all instances were walked
module _ (net : Network) (i : ℕ) (all : i ≡ instance_count net) where
  first_pins_are : (firsts : List ℕ) → firsts ≡ map (first_pin net) (range_with_len 0 i) → firsts ≡ map (first_pin net) (range_with_len 0 (instance_count net))
  first_pins_are firsts e = e ∙ ap (λ n. map (first_pin net) (range_with_len 0 n)) all

  kinds_are : (kinds : List Kind) → kinds ≡ map (λ x. x.kind) (take i net.instances) → kinds ≡ map (λ x. x.kind) net.instances
  kinds_are kinds e = e ∙ ap (map (λ x. x.kind)) (take_all i net.instances (omega arith))

  signals_are : (behind : ℕ) → behind ≡ first_pin net i → behind ≡ signal_count net
  signals_are behind e = e ∙ ap (first_pin net) all

pub invariant_of-result : goal.invariant_of-result
invariant_of-result c =
    let net = c.args.app.now in
    let all : c.loop-i.i ≡ instance_count net = omega arith in
    record {
      places = sizes_are_places net c.loop-i.behind c.instance_count.result c.inputs_of.result c.output_count.result
          c.loop-i.first_pins c.loop-i.kinds (signals_are net c.loop-i.i all c.loop-i.behind c.loop-i.invariant.behind)
          c.instance_count.ensures c.inputs_of.ensures c.output_count.ensures
          (first_pins_are net c.loop-i.i all c.loop-i.first_pins c.loop-i.invariant.first_pins)
          (kinds_are net c.loop-i.i all c.loop-i.kinds c.loop-i.invariant.kinds);
    }

pub returns-clause-sizes : goal.returns-clause-sizes
returns-clause-sizes c =
    let net = c.args.app.now in
    let all : c.loop-i.i ≡ instance_count net = omega arith in
    record {
      signals = signals_are net c.loop-i.i all c.loop-i.behind c.loop-i.invariant.behind;
      instances = c.instance_count.ensures;
      inputs = c.inputs_of.ensures;
      outputs = c.output_count.ensures;
      first_pins = first_pins_are net c.loop-i.i all c.loop-i.first_pins c.loop-i.invariant.first_pins;
      kinds = kinds_are net c.loop-i.i all c.loop-i.kinds c.loop-i.invariant.kinds;
    }

pub returns-clause-same : goal.returns-clause-same
returns-clause-same c other are =
    let net = c.args.app.now in
    let all : c.loop-i.i ≡ instance_count net = omega arith in
    same_sizes _ other
    (signals_are net c.loop-i.i all c.loop-i.behind c.loop-i.invariant.behind ∙ sym are.signals)
    (c.instance_count.ensures ∙ sym are.instances)
    (c.inputs_of.ensures ∙ sym are.inputs)
    (c.output_count.ensures ∙ sym are.outputs)
    (first_pins_are net c.loop-i.i all c.loop-i.first_pins c.loop-i.invariant.first_pins ∙ sym are.first_pins)
    (kinds_are net c.loop-i.i all c.loop-i.kinds c.loop-i.invariant.kinds ∙ sym are.kinds)
