use Rattle.std.proofs.Common.{◌≡◌, List, ℕ, ◌+◌, ◌-◌, ◌++◌, ◌∷◌, [], OnOk, length, sym, ap, ◌∙◌, subst, arith, append_assoc}
use Rattle.std.specs.Prelude.{slice_index_or}
use Rattle.ps_model.specs.declared.kind.Kind.{Kind}
use Rattle.ps_model.specs.Blocks.{block, output_count}
use Rattle.ps_model.specs.Network.{kind_at, instance_name}
use Rattle.ps_model.specs.Pins.{pin_names}
use Rattle.ps_flow.proofs.Walk.{found_or}
use Rattle.ps_demand.proofs.PinPlaces.{pins_counted}
use Rattle.ps_demand.proofs.text.write_output_name.Goals as goal

pub overflow_sub-first : goal.overflow_sub-first
overflow_sub-first c = omega (arith, c.pin_count.ensures, c.output_count.ensures, pins_counted c.instance_kind-kind.result)

pub pin_name-requires : goal.pin_name-requires
pin_name-requires c =
    omega (
      arith,
      c.pin_count.ensures,
      c.output_count.ensures,
      pins_counted c.instance_kind-kind.result,
      ap output_count c.instance_kind-kind.ensures,
      c.requires.output,
    )

pub returns : goal.returns
returns c =
    let net = c.args.app.now in
    let i = c.args.instance in
    let bytes = c.args.bytes.now in
    let kind = c.instance_kind-kind.result in
    let place = c.pin_count.result - c.output_count.result + c.args.output in
    let last : place ≡ length (block (kind_at net i)).inputs + c.args.output =
    omega (arith, c.pin_count.ensures, c.output_count.ensures, pins_counted kind, ap (λ x. length (block x).inputs) c.instance_kind-kind.ensures) in
    let pin : c.as_bytes-2.result.now ≡ slice_index_or (pin_names (kind_at net i)) (length (block (kind_at net i)).inputs + c.args.output) [] =
    c.as_bytes-2.ensures.value ∙ sym (found_or (pin_names kind) place c.pin_name.result.now [] c.pin_name.ensures)
    ∙ ap (λ (x : Kind). slice_index_or (pin_names x) place []) c.instance_kind-kind.ensures
    ∙ ap (λ n. slice_index_or (pin_names (kind_at net i)) n []) last in
    let name = instance_name net i in
    let front : c.extend_from_slice-2.new.self ≡ (bytes ++ name) ++ 46 ∷ [] =
    c.in_ok-extend_from_slice-2.ensures
    ∙ ap (λ x. x ++ 46 ∷ []) (c.in_ok-extend_from_slice.ensures ∙ ap (λ n. bytes ++ n) (c.as_bytes.ensures.value ∙ c.instance_name.ensures)) in
    let b = c.as_bytes-2.result.now in
    let whole = ap (λ x. x ++ b) front ∙ append_assoc (bytes ++ name) (46 ∷ []) b ∙ append_assoc bytes name (46 ∷ b)
    ∙ ap (λ p. bytes ++ (name ++ 46 ∷ p)) pin in
    subst (λ (z : List ℕ). OnOk c.extend_from_slice-3.result (c.extend_from_slice-3.new.self ≡ z)) whole c.extend_from_slice-3.ensures
