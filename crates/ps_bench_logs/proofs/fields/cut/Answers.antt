use Rattle.std.proofs.Common.{◌≡◌, ◌≢◌, ◌<◌, ◌++◌, ◌∙◌, List, [], ◌∷◌, length, length-set, drop, option_map, refl, ap, arith}
use Rattle.std.proofs.lemmas.List.{drop_all, length_push}
use Rattle.ps_bench_logs.specs.Fields.{fields_from}
use Rattle.ps_bench_logs.specs.Fields.Place.{begins}
use Rattle.ps_bench_logs.specs.declared.fields.Span.{Span}
use Rattle.ps_bench_logs.proofs.Cutting.{cut_ends, cut_more, nothing_cut, shown_put}
use Rattle.ps_bench_logs.proofs.fields.cut.Goals as goal

pub fields-init : goal.fields-init
fields-init c = record {
  within = omega arith;
  few = omega arith;
  size = refl;
  done = [];
  are = nothing_cut (fields_from begins c.args.line.now);
  counted = refl;
  shown = λ k before room. absurd (omega (arith, before));
}

pub returns-then-field-line-clause-cut : goal.returns-then-field-line-clause-cut
returns-then-field-line-clause-cut c =
    let line = c.args.line.now in
    let now = c.fields.invariant in
    let next = c.in_ok-field.ensures.found in
    let end = c.in_ok-field.field.end in
    let none : drop end line ≡ [] = drop_all end line (omega arith) in (
      now.done ++ next.field ∷ [],
      record {
        are = now.are ∙ ap (option_map (λ fs. now.done ++ fs)) next.is ∙ cut_ends now.done next.field (drop end line) none;
        counted = omega (arith, length_push now.done next.field, now.counted);
        shown = rw c.put.ensures (shown_put line c.fields.spans c.in_ok-field.field.span now.done next.field c.fields.count now.counted now.shown next.shown);
      },
    )

pub fields-preserved : goal.fields-preserved
fields-preserved c =
    let line = c.args.line.now in
    let now = c.fields.invariant in
    let next = c.in_ok-field.ensures.found in
    let end = c.in_ok-field.field.end in
    let other : end ≢ length line = c.if-field-line.false in
    let some : end < length line = omega (arith, next.within, other) in
    let size : length c.put.new.spans ≡ length c.fields.spans = ap (λ (spans : List Span). length spans) c.put.ensures ∙ length-set c.fields.spans c.fields.count c.in_ok-field.field.span in
    record {
      within = omega (arith, some);
      few = omega (arith, now.few, next.behind);
      size = size ∙ now.size;
      done = now.done ++ next.field ∷ [];
      are = now.are ∙ ap (option_map (λ fs. now.done ++ fs)) next.is ∙ cut_more now.done next.field line end some;
      counted = omega (arith, length_push now.done next.field, now.counted);
      shown = rw c.put.ensures (shown_put line c.fields.spans c.in_ok-field.field.span now.done next.field c.fields.count now.counted now.shown next.shown);
    }
