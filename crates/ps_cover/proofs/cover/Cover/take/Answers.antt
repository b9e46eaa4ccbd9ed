use Rattle.std.proofs.Common.{◌∙◌, List, false, true, ap, length, refl, slice_get, subst, sym}
use Rattle.std.specs.Prelude.{option_map}
use Rattle.std.proofs.lemmas.List.{with_items_is}
use Rattle.ps_cover.specs.Blocks.{called_in}
use Rattle.ps_cover.specs.Covering.{AreCalls}
use Rattle.ps_cover.specs.declared.block.Called.{Called}
use Rattle.ps_cover.proofs.Taken.{looks_same}
use Rattle.ps_cover.proofs.cover.Cover.take.Goals as goal

pub scan_calls-requires : goal.scan_calls-requires
scan_calls-requires c = subst (AreCalls c.args.app.now) (sym c.as_mut_slice.ensures.value) c.requires.calls

pub look-requires : goal.look-requires
look-requires c = ap length c.as_mut_slice-2.ensures.value ∙ c.requires.off_each ∙ sym (ap length c.as_slice-points.ensures.value)

pub look-requires-2 : goal.look-requires-2
look-requires-2 c = ap length c.as_mut_slice-3.ensures.value ∙ c.requires.on_each ∙ sym (ap length c.as_slice-points.ensures.value)

pub returns-clause-takes : goal.returns-clause-takes
returns-clause-takes c =
    let old = c.args.self.now in
    let net = c.args.app.now in
    let x = c.args.signals.now in
    let calls = with_items_is old.calls c.scan_calls.new.calls (c.scan_calls.auto.calls ∙ c.as_mut_slice.ensures.len) in
    let off = with_items_is old.off c.look.new.seen (c.look.auto.seen ∙ c.as_mut_slice-2.ensures.len) in
    let on = with_items_is old.on c.look-2.new.seen (c.look-2.auto.seen ∙ c.as_mut_slice-3.ensures.len) in
    record {
      calls = λ k.
          ap (λ (cs : List Called). slice_get cs k) calls ∙ c.scan_calls.ensures.scans k
          ∙ (λ i. option_map (called_in net x (c.passed-passed.ensures i)) (slice_get (c.as_mut_slice.ensures.value i) k));
      points = refl;
      off = looks_same net x false _ _ _ _ _ _ _ _ c.as_slice-calls.ensures.value c.as_slice-points.ensures.value c.as_mut_slice-2.ensures.value (sym off) c.look.ensures;
      on = looks_same net x true _ _ _ _ _ _ _ _ c.as_slice-calls.ensures.value c.as_slice-points.ensures.value c.as_mut_slice-3.ensures.value (sym on) c.look-2.ensures;
      last = refl;
    }

pub returns-clause-fits : goal.returns-clause-fits
returns-clause-fits c =
    let old = c.args.self.now in
    let calls = with_items_is old.calls c.scan_calls.new.calls (c.scan_calls.auto.calls ∙ c.as_mut_slice.ensures.len) in
    let off = with_items_is old.off c.look.new.seen (c.look.auto.seen ∙ c.as_mut_slice-2.ensures.len) in
    let on = with_items_is old.on c.look-2.new.seen (c.look-2.auto.seen ∙ c.as_mut_slice-3.ensures.len) in
    record {
      calls = subst (AreCalls c.args.app.now) (sym calls) c.scan_calls.ensures.kept;
      off_each = ap length off ∙ c.look.auto.seen ∙ ap length c.as_mut_slice-2.ensures.value ∙ c.requires.off_each;
      on_each = ap length on ∙ c.look-2.auto.seen ∙ ap length c.as_mut_slice-3.ensures.value ∙ c.requires.on_each;
    }
