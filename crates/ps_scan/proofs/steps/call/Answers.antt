use Rattle.std.proofs.Common.{◌≡◌, ◌<◌, ◌+◌, ◌-◌, ◌∙◌, ◌&&◌, ℕ, Bool, List, cond, length, take, get_or, false, sym, ap, subst, arith}
use Rattle.std.specs.Prelude.{nat_le, nat_lt}
use Rattle.std.proofs.lemmas.List.{length-take}
use Rattle.ps_model.specs.declared.kind.Kind.{Kind}
use Rattle.ps_model.specs.declared.report.Diag.{Diag}
use Rattle.ps_model.specs.Action.{calls}
use Rattle.ps_model.specs.Blocks.{block, outs, output_count}
use Rattle.ps_model.specs.Kept.{stepped_at}
use Rattle.ps_model.specs.Network.{instance_count, kind_at, first_pin}
use Rattle.ps_model.specs.Running.{done}
use Rattle.ps_model.specs.Scanning.{pins_under, limit_of}
use Rattle.ps_model.proofs.FirstPinBound.{first_pin-bound}
use Rattle.ps_model.specs.PinBits.{pin_of}
use Rattle.ps_block.specs.Shown.{Shows, shown}
use Rattle.ps_scan.specs.Instances.{KeptInstance, no_kept_instance}
use Rattle.ps_scan.specs.Cells.{Cells, signal_at, instance_at, kept_at}
use Rattle.ps_scan.specs.Midway.{Midway}
use Rattle.ps_scan.proofs.Going.{called_on}
use Rattle.ps_model.proofs.OutputLengths.{output_count_is, length-outs}
use Rattle.ps_scan.proofs.Showing.{diag_shown, kinds_kept}
use Rattle.ps_scan.proofs.steps.call.Goals as goal

pub write-requires : goal.write-requires
write-requires c =
    let net = c.args.app.now in
    let inside = c.sound.ensures.instances c.args.k c.args.i c.args.args.now c.requires.step in
    record {
      room = omega (
        arith,
        c.first_pin.ensures,
        first_pin-bound net c.args.i inside,
        output_count_is (kind_at net c.args.i),
        ap (λ (kd : Kind). length (block kd).outputs) c.instance_kind-kind.ensures,
        c.safe_count-count.ensures.count,
        length-take (c.safe_count-count.result + 2) c.shown_values-values.result,
        ap (λ (ss : List Bool). length ss) c.step-outs.ensures.signals,
        c.requires.sizes.signal_each,
      );
    }

pub returns-clause-sizes : goal.returns-clause-sizes
returns-clause-sizes c =
    let net = c.args.app.now in
    let w : Cells = c.args.w.now in
    let w' : Cells = c.write.new.self in
    let same : (j : ℕ) → instance_at w' j ≡ instance_at c.step-outs.new.self j = λ j. ap (λ (hs : List KeptInstance). get_or hs j no_kept_instance) c.write.ensures.instances in
    record {
      signal_each = c.write.ensures.len ∙ ap (λ (ss : List Bool). length ss) c.step-outs.ensures.signals ∙ c.requires.sizes.signal_each;
      instance_each = ap (λ (hs : List KeptInstance). length hs) c.write.ensures.instances ∙ c.step-outs.ensures.len ∙ c.requires.sizes.instance_each;
      kinds = kinds_kept net w w' c.args.i _ c.requires.sizes.kinds (λ j other. same j ∙ c.step-outs.ensures.other j other) (same c.args.i ∙ c.step-outs.ensures.moves);
    }

pub returns-clause-done : goal.returns-clause-done
returns-clause-done c =
    let net = c.args.app.now in
    let i = c.args.i in
    let args = c.args.args.now in
    let now = c.args.now in
    let w : Cells = c.args.w.now in
    let w' : Cells = c.write.new.self in
    let kind = kind_at net i in
    let o = c.step-outs.result in
    let bits = pin_of c.pin_bits.result in
    let values = take (c.safe_count-count.result + 2) c.shown_values-values.result in
    let inside : i < instance_count net = c.sound.ensures.instances c.args.k i args c.requires.step in
    let here = c.instance_kind-kind.ensures in
    let same : (j : ℕ) → instance_at w' j ≡ instance_at c.step-outs.new.self j = λ j. ap (λ (hs : List KeptInstance). get_or hs j no_kept_instance) c.write.ensures.instances in
    let bits_are : (j : ℕ) → bits j ≡ pins_under (signal_at w) kind args j =
    λ j. c.pin_bits.ensures j
    ∙ ap (λ (ss : List Bool). pins_under (λ s. get_or ss s false) c.instance_kind-kind.result args j) c.signals.ensures
    ∙ ap (λ (kd : Kind). pins_under (signal_at w) kd args j) here in
    let moves : kept_at w' i ≡ stepped_at kind (limit_of kind args) bits now (kept_at w i) =
    ap (λ (h : KeptInstance). h.kept) (same i ∙ c.step-outs.ensures.moves)
    ∙ ap (λ (kd : Kind). stepped_at kd c.call_limit.result bits now (kept_at w i)) (c.requires.sizes.kinds i)
    ∙ ap (λ (n : ℕ). stepped_at kind n bits now (kept_at w i)) (c.call_limit.ensures ∙ ap (λ (kd : Kind). limit_of kd args) here) in
    let shows : Shows kind o (kept_at w' i) =
    subst (λ (kd : Kind). Shows kd o (kept_at w' i)) (c.requires.sizes.kinds i)
    (subst (λ (h : KeptInstance). Shows (instance_at w i).kind o h.kept) (sym (same i)) c.step-outs.ensures.shows) in
    let shown_is : values ≡ outs kind (kept_at w' i).code (kept_at w' i).mode =
    c.shown_values-values.ensures
    ∙ ap (λ (n : ℕ). shown n o) (c.safe_count-count.ensures.count ∙ ap (λ (kd : Kind). length (block kd).outputs) here)
    ∙ shows.outputs in
    let many : length values ≡ output_count kind = ap (λ (bs : List Bool). length bs) shown_is ∙ length-outs kind (kept_at w' i).code (kept_at w' i).mode in
    let writes : (s : ℕ) → signal_at w' s ≡ cond (nat_le (first_pin net i) s && nat_lt s (first_pin net i + length values)) (get_or values (s - first_pin net i) false) (signal_at w s) =
    λ s. c.write.ensures.each s
    ∙ ap (λ (n : ℕ). cond (nat_le n s && nat_lt s (n + length values)) (get_or values (s - n) false) (signal_at c.step-outs.new.self s)) c.first_pin.ensures
    ∙ ap (λ (ss : List Bool). cond (nat_le (first_pin net i) s && nat_lt s (first_pin net i + length values)) (get_or values (s - first_pin net i) false) (get_or ss s false)) c.step-outs.ensures.signals in
    λ t dt m later mid.
    subst (λ (ds : List Diag). Midway net t dt now (c.args.k + 1) w' ds (done net dt (calls i args) m)) (sym c.set.ensures)
    (called_on net c.sound.ensures t dt now c.args.k i args w w' c.args.diags.now o.diag m c.requires.step later mid bits bits_are moves
    (λ j other. same j ∙ c.step-outs.ensures.other j other) values shown_is many writes (diag_shown kind o (kept_at w' i) shows) (omega (arith, inside, c.requires.diagnoses)))
