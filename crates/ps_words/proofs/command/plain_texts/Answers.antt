use Rattle.std.proofs.Common.{refl, ◌≡◌, ◌∙◌, ◌++◌, ◌∷◌, true, false, [], sym, ap, ap₂, rules, arith, get_or}
use Rattle.std.proofs.lemmas.Option.{get_or_from_slice_get}
use Rattle.std.proofs.lemmas.List.{take_more, map-append}
use Rattle.std.proofs.lemmas.List.Folds.{list_all_at, list_all_more}
use Rattle.ps_words.specs.Command as asked
use Rattle.ps_words.specs.Seen.{seen}
use Rattle.ps_words.proofs.command.plain_texts.Goals as goal

pub returns-then-not-is_plain : goal.returns-then-not-is_plain
returns-then-not-is_plain c =
    let at : get_or c.args.words.now c.loop-i.i [] ≡ c.as_str-text.result.now = get_or_from_slice_get c.args.words.now c.loop-i.i c.at.result.now [] c.at.ensures ∙ sym c.as_str-text.ensures in
    let no : asked.is_plain c.as_str-text.result.now ≡ false = search rules in
    list_all_at asked.is_plain c.args.words.now c.loop-i.i [] (omega arith) (ap asked.is_plain at ∙ no)

pub loop-i-preserved : goal.loop-i-preserved
loop-i-preserved c =
    let at : get_or c.args.words.now c.loop-i.i [] ≡ c.as_str-text.result.now = get_or_from_slice_get c.args.words.now c.loop-i.i c.at.result.now [] c.at.ensures ∙ sym c.as_str-text.ensures in
    let yes : asked.is_plain c.as_str-text.result.now ≡ true = search rules in (
      ap seen c.in_ok-push.ensures.items ∙ map-append (λ word. word.now) _ _ ∙ ap₂ (λ xs x. xs ++ x ∷ []) c.loop-i.invariant.0 (sym at) ∙ sym (take_more c.args.words.now c.loop-i.i [] (omega arith)),
      list_all_more asked.is_plain c.args.words.now c.loop-i.i [] (omega arith) ∙ rw (c.loop-i.invariant.1, at, yes) refl,
    )
