use Rattle.std.proofs.Common.{◌≡◌, ◌+◌, ◌++◌, ◌∙◌, [], ◌∷◌, eqb, length, map, rules, sym, ap, arith}
use Rattle.std.proofs.lemmas.List.{length-append, length-map, map-append}
use Rattle.std.specs.Prelude.{min}
use Rattle.std.proofs.lemmas.Iterator.Consumers.{YieldsList-end}
use Rattle.std.proofs.lemmas.Iterator.Splits.{YieldsList-from_slice_split}
use Rattle.std.specs.Slice.Iter.{split_callee, split_done, split_rest}
use Rattle.ps_bench_report.specs.Numbered.{numbered_behind}
use Rattle.ps_bench_report.proofs.Numbering.{line_more}
use Rattle.ps_bench_report.proofs.texts.numbered.Goals as goal

pub loop-line-preserved : goal.loop-line-preserved
loop-line-preserved c =
    let inv = c.loop-line.invariant in
    let lines = map (λ x. x.now) c.loop-line.yielded in
    let line = c.in-Some.line in
    let longer : length (c.loop-line.yielded ++ line ∷ []) ≡ length c.loop-line.yielded + 1 = length-append c.loop-line.yielded (line ∷ []) in
    let number : c.saturating_add-number.result ≡ min (length c.loop-line.yielded + 1) 4294967295 =
    c.saturating_add-number.ensures ∙ ap (λ n. min (n + 1) 4294967295) inv.number ∙ omega arith in
    record {
      number = number ∙ ap (λ n. min n 4294967295) (sym longer);
      lines = line_more lines line.now c.loop-line.lines c.add_line.new.text c.saturating_add-number.result inv.lines
          (number ∙ ap (λ n. min (n + 1) 4294967295) (sym (length-map c.loop-line.yielded (λ x. x.now)))) c.in_ok-add_line.ensures
          ∙ ap (numbered_behind 0) (sym (map-append (λ x. x.now) c.loop-line.yielded (line ∷ [])));
    }

pub returns : goal.returns
returns c =
    let given = c.into_iter-line-iterator.ensures.into_iter_gives in
    let split = c.split-line-items.ensures in
    let end = YieldsList-end (YieldsList-from_slice_split _ (λ b. eqb b 10) c.args.text.now (ap split_rest given ∙ split.rest) (ap split_done given ∙ split.done)
    (ap split_callee given ∙ split.closure) (λ x r q k. search rules)) c.loop-line.yielded _ c.loop-line.yielded_by _ _ c.in-None.is c.next.ensures.steps in
    c.loop-line.invariant.lines ∙ ap (numbered_behind 0) end.0
