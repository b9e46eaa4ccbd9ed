use Rattle.std.proofs.Common.{ℕ, List, [], ◌∷◌, ap, min, sym, take, ◌∙◌}
use Rattle.std.specs.Borrow.{Bor}
use Rattle.ps_edge.proofs.Told.{looked_at, of_words}
use Rattle.ps_edge.proofs.asking.usage_on.Goals as goal

pub returns-clause-told : goal.returns-clause-told
returns-clause-told c =
    let words = c.args.words.now in
    let all : List (Bor (List ℕ)) = c.word_at.result ∷ c.word_at-2.result ∷ c.word_at-3.result ∷ c.word_at-4.result ∷ c.word_at-5.result ∷ [] in
    let given = take c.min.result all in
    let are = looked_at words all c.min.result (c.min.ensures ∙ ap (λ (n : ℕ). min n 5) c.len.ensures)
    (λ i. c.word_at.ensures i ∷ c.word_at-2.ensures i ∷ c.word_at-3.ensures i ∷ c.word_at-4.ensures i ∷ c.word_at-5.ensures i ∷ []) in
    of_words words given c.in_ok-usage_message.field-0 c.as_slice.result.now c.as_slice-2.result.now
    (sym c.asks_help.ensures ∙ c.if-asks_help.false) (sym c.asks_version.ensures ∙ c.if-asks_version.false) are
    (c.as_slice.ensures ∙ c.in_ok-wrong.ensures.says) (c.as_slice-2.ensures ∙ c.in_ok-help.ensures.says) c.in_ok-usage_message.ensures.says
