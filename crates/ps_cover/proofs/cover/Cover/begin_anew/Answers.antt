use Rattle.std.proofs.Common.{◌∙◌, List, ap, refl, slice_get, subst, sym}
use Rattle.std.specs.Prelude.{option_map}
use Rattle.std.proofs.lemmas.List.{with_items_is}
use Rattle.ps_cover.specs.Covering.{AreCalls}
use Rattle.ps_cover.specs.Covers.{idle_call}
use Rattle.ps_cover.specs.declared.block.Called.{Called}
use Rattle.ps_cover.proofs.cover.Cover.begin_anew.Goals as goal

pub begin_calls-requires : goal.begin_calls-requires
begin_calls-requires c = subst (AreCalls c.args.app.now) (sym c.as_mut_slice.ensures.value) c.requires.calls

pub returns-clause-anew : goal.returns-clause-anew
returns-clause-anew c =
    let calls = with_items_is c.args.self.now.calls c.begin_calls.new.calls (c.begin_calls.auto.calls ∙ c.as_mut_slice.ensures.len) in
    record {
      calls = λ k.
          ap (λ (cs : List Called). slice_get cs k) calls ∙ c.begin_calls.ensures.anew k
          ∙ ap (λ (cs : List Called). option_map idle_call (slice_get cs k)) c.as_mut_slice.ensures.value;
      points = refl;
      off = refl;
      on = refl;
      last = c.begin_anew.ensures;
    }

pub returns-clause-fits : goal.returns-clause-fits
returns-clause-fits c =
    let calls = with_items_is c.args.self.now.calls c.begin_calls.new.calls (c.begin_calls.auto.calls ∙ c.as_mut_slice.ensures.len) in
    record {
      calls = subst (AreCalls c.args.app.now) (sym calls) c.begin_calls.ensures.kept;
      off_each = c.requires.off_each;
      on_each = c.requires.on_each;
    }
