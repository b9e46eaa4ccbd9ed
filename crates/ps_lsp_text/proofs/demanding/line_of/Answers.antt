use Rattle.std.proofs.Common.{◌∙◌, [], ◌∷◌, eqb, map, find, rules, sym, ap}
use Rattle.std.specs.Option.{option_or}
use Rattle.std.proofs.lemmas.List.{map-append}
use Rattle.std.proofs.lemmas.List.Folds.{find-append}
use Rattle.std.proofs.lemmas.Iterator.Consumers.{YieldsList-end}
use Rattle.std.proofs.lemmas.Iterator.Splits.{YieldsList-from_slice_split}
use Rattle.std.specs.Slice.Iter.{split_callee, split_done, split_rest}
use Rattle.ps_lsp_text.specs.Demands.{is_demand_of}
use Rattle.ps_lsp_text.proofs.demanding.line_of.Goals as goal

pub loop-line-preserved : goal.loop-line-preserved
loop-line-preserved c =
    let test = is_demand_of c.args.name.now in
    let lines = map (λ x. x.now) c.loop-line.yielded in
    let line = c.in-Some.line in
    c.first_of-found.ensures ∙ ap (λ o. option_or o (find test (line.now ∷ []))) c.loop-line.invariant
    ∙ sym (find-append test lines (line.now ∷ []))
    ∙ ap (find test) (sym (map-append (λ x. x.now) c.loop-line.yielded (line ∷ [])))

pub returns : goal.returns
returns c =
    let given = c.into_iter-line-iterator.ensures.into_iter_gives in
    let split = c.split-line-items.ensures in
    let end = YieldsList-end (YieldsList-from_slice_split _ (λ b. eqb b 10) c.args.lines.now (ap split_rest given ∙ split.rest) (ap split_done given ∙ split.done)
    (ap split_callee given ∙ split.closure) (λ x r q k. search rules)) c.loop-line.yielded _ c.loop-line.yielded_by _ _ c.in-None.is c.next.ensures.steps in
    c.loop-line.invariant ∙ ap (find (is_demand_of c.args.name.now)) end.0
