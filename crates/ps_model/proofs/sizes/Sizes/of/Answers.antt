use Rattle.std.proofs.Common.{◌≡◌, ◌++◌, ◌∷◌, [], ◌<◌, map, take, ap, sym, ◌∙◌, arith}
use Rattle.std.specs.List.{range_with_len}
use Rattle.std.proofs.lemmas.List.{take_all}
use Rattle.std.proofs.lemmas.List.FromFn.{map-range_with_len_more}
use Rattle.ps_model.specs.Network.{first_pin, instance_count}
use Rattle.ps_model.proofs.Sizing.{kinds_next, sizes_are_places}
use Rattle.ps_model.proofs.sizes.Sizes.of.Goals as goal

pub loop-i-preserved : goal.loop-i-preserved
loop-i-preserved c =
    let net = c.args.app.now in
    let i = c.loop-i.i in
    let inside : i < instance_count net = omega arith in
    record {
      first_pins = c.in_ok-push.ensures ∙ ap (λ fs. fs ++ c.first_pin.result ∷ []) c.loop-i.invariant.first_pins
          ∙ ap (λ f. map (first_pin net) (range_with_len 0 i) ++ f ∷ []) c.first_pin.ensures
          ∙ sym (map-range_with_len_more (first_pin net) 0 i i (omega arith));
      kinds = c.in_ok-push-2.ensures ∙ ap (λ ks. ks ++ c.instance_kind.result ∷ []) c.loop-i.invariant.kinds
          ∙ ap (λ k. map (λ x. x.kind) (take i net.instances) ++ k ∷ []) c.instance_kind.ensures
          ∙ sym (kinds_next net i inside);
    }

-- all instances were walked
first_pins_are : (c : goal.After-output_count) → c.loop-i.first_pins ≡ map (first_pin c.args.app.now) (range_with_len 0 (instance_count c.args.app.now))
first_pins_are c =
    c.loop-i.invariant.first_pins ∙ ap (λ n. map (first_pin c.args.app.now) (range_with_len 0 n)) (omega arith)

kinds_are : (c : goal.After-output_count) → c.loop-i.kinds ≡ map (λ x. x.kind) c.args.app.now.instances
kinds_are c =
    c.loop-i.invariant.kinds ∙ ap (map (λ x. x.kind)) (take_all c.loop-i.i c.args.app.now.instances (omega arith))

pub invariant_of-result : goal.invariant_of-result
invariant_of-result c = record {
  places = sizes_are_places c.args.app.now c.signal_count.result c.instance_count.result c.input_count.result c.output_count.result
      c.loop-i.first_pins c.loop-i.kinds c.signal_count.ensures c.instance_count.ensures c.input_count.ensures c.output_count.ensures
      (first_pins_are c) (kinds_are c);
}

pub returns : goal.returns
returns c = record {
  signals = c.signal_count.ensures;
  instances = c.instance_count.ensures;
  inputs = c.input_count.ensures;
  outputs = c.output_count.ensures;
  first_pins = c.loop-i.invariant.first_pins ∙ ap (λ n. map (first_pin c.args.app.now) (range_with_len 0 n)) (omega arith);
  kinds = c.loop-i.invariant.kinds ∙ ap (map (λ x. x.kind)) (take_all c.loop-i.i c.args.app.now.instances (omega arith));
}
