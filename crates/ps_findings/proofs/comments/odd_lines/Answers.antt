use Rattle.std.proofs.Common.{◌≡◌, ◌+◌, ◌++◌, ◌∙◌, [], ◌∷◌, eqb, length, map, rules, sym, ap, arith, subst}
use Rattle.std.proofs.lemmas.List.{length-append, length-map, map-append}
use Rattle.std.proofs.lemmas.Iterator.Consumers.{YieldsList-end}
use Rattle.std.proofs.lemmas.Iterator.Splits.{YieldsList-from_slice_split}
use Rattle.std.specs.List.{slice_split}
use Rattle.std.specs.Prelude.{min, List, ℕ}
use Rattle.std.specs.Slice.Iter.{split_callee, split_done, split_rest}
use Rattle.ps_findings.specs.Comments.{odd_lines}
use Rattle.ps_findings.specs.Walking.{HasAdded}
use Rattle.ps_findings.proofs.Oddities.{finished, line_more}
use Rattle.ps_findings.proofs.comments.odd_lines.Goals as goal

pub loop-bytes-preserved : goal.loop-bytes-preserved
loop-bytes-preserved c =
    let inv = c.loop-bytes.invariant in
    let lines = map (λ x. x.now) c.loop-bytes.yielded in
    let line = c.in-Some.bytes in
    let longer : length (c.loop-bytes.yielded ++ line ∷ []) ≡ length c.loop-bytes.yielded + 1 = length-append c.loop-bytes.yielded (line ∷ []) in
    let number : c.saturating_add-line.result ≡ min (length c.loop-bytes.yielded + 1) 4294967295 =
    c.saturating_add-line.ensures ∙ ap (λ n. min (n + 1) 4294967295) inv.number ∙ omega arith in
    record {
      number = number ∙ ap (λ n. min n 4294967295) (sym longer);
      odds = subst (λ (ls : List (List ℕ)). HasAdded (odd_lines 0 ls) c.new-odd.result c.add.new.self)
          (sym (map-append (λ x. x.now) c.loop-bytes.yielded (line ∷ [])))
          (line_more c.new-odd.result c.loop-bytes.odd c.add.new.self lines line.now c.saturating_add-line.result c.line_oddity.result inv.odds
          (number ∙ ap (λ n. min (n + 1) 4294967295) (sym (length-map c.loop-bytes.yielded (λ x. x.now)))) c.line_oddity.ensures c.add.ensures);
    }

pub returns : goal.returns
returns c =
    let given = c.into_iter-bytes-iterator.ensures.into_iter_gives in
    let split = c.split-bytes-items.ensures in
    let end = YieldsList-end (YieldsList-from_slice_split _ (λ b. eqb b 10) c.args.text.now (ap split_rest given ∙ split.rest) (ap split_done given ∙ split.done)
    (ap split_callee given ∙ split.closure) (λ x r q k. search rules)) c.loop-bytes.yielded _ c.loop-bytes.yielded_by _ _ c.in-None.is c.next.ensures.steps in
    let lines = slice_split (λ b. eqb b 10) c.args.text.now in
    record {
      says = finished (λ list. list.items) c.finish.result c.new-odd.result c.loop-bytes.odd (odd_lines 0 lines) c.new-odd.ensures.none
          c.new-odd.ensures.last (subst (λ (ls : List (List ℕ)). HasAdded (odd_lines 0 ls) c.new-odd.result c.loop-bytes.odd) end.0 c.loop-bytes.invariant.odds)
          c.finish.ensures;
    }
