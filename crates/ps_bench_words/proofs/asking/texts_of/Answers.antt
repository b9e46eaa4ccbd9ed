use Rattle.std.proofs.Common.{◌≡◌, ◌∙◌, ◌++◌, ◌∷◌, [], sym, ap, ap₂, arith, get_or}
use Rattle.std.proofs.lemmas.Option.{get_or_from_slice_get}
use Rattle.std.proofs.lemmas.List.{take_more, map-append}
use Rattle.ps_bench_words.specs.Seen.{seen}
use Rattle.ps_bench_words.proofs.asking.texts_of.Goals as goal

pub loop-i-preserved : goal.loop-i-preserved
loop-i-preserved c =
    let at : get_or c.args.words.now c.loop-i.i [] ≡ c.as_str.result.now = get_or_from_slice_get c.args.words.now c.loop-i.i c.at.result.now [] c.at.ensures ∙ sym c.as_str.ensures in
    ap seen c.in_ok-push.ensures.items ∙ map-append (λ word. word.now) _ _ ∙ ap₂ (λ xs x. xs ++ x ∷ []) c.loop-i.invariant (sym at) ∙ sym (take_more c.args.words.now c.loop-i.i [] (omega arith))
