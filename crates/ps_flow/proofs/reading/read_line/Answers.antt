use Rattle.std.proofs.Common.{◌≡◌, ◌∷◌, [], map, sym, ap, ◌∙◌, rules}
use Rattle.std.specs.Prelude.{decimal, option_copied}
use Rattle.ps_flow.specs.Written.{rule_word}
use Rattle.ps_flow.specs.Words.{words_left}
use Rattle.ps_flow.proofs.Spelling.{first_of_line, line_of_words}
use Rattle.ps_flow.proofs.reading.read_line.Goals as goal

pub returns-in_default-clause-none : goal.returns-in_default-clause-none
returns-in_default-clause-none c = λ l numbered is.
    let first = first_of_line c.args.line.now _ _ l numbered c.first_word.ensures.words is in
    let none = ap (λ o. words_left (option_copied o)) c.in_default.is in
    let contradiction : [] ≡ rule_word l.rule ∷ map decimal l.premises = sym none ∙ first.1 in
    cc

pub returns-in_default-number-clause-none : goal.returns-in_default-number-clause-none
returns-in_default-number-clause-none c = λ l numbered is.
    let first = first_of_line c.args.line.now _ _ l numbered c.first_word.ensures.words is in
    c.in_default-number.ensures.none l.node numbered.node first.0

pub returns-in_default-rule_named-clause-none : goal.returns-in_default-rule_named-clause-none
returns-in_default-rule_named-clause-none c = λ l numbered is.
    let first = first_of_line c.args.line.now _ _ l numbered c.first_word.ensures.words is in
    let rest = ap (λ o. words_left (option_copied o)) c.in-Some.is in
    let words = sym c.first_word-2.ensures.words ∙ sym rest ∙ first.1 in
    c.in_default-rule_named.ensures.none l.rule cc

pub returns-in-Some-2-clause-some : goal.returns-in-Some-2-clause-some
returns-in-Some-2-clause-some c =
    let read = rw c.in-Some-2.is at c.in_ok-premises.ensures.some in
    let rest = ap (λ o. words_left (option_copied o)) c.in-Some.is in (
      record { node = search rules; premises = read.1 },
      line_of_words c.args.line.now _
          (c.first_word.ensures.words
          ∙ ap (λ ws. c.first_word.result.0.now ∷ ws) (rest ∙ c.first_word-2.ensures.words)
          ∙ ap (λ w. w ∷ c.first_word-2.result.0.now ∷ words_left (option_copied c.first_word-2.result.1)) c.in-Some-number.ensures.some
          ∙ ap (λ w. decimal c.in-Some-number.node ∷ w ∷ words_left (option_copied c.first_word-2.result.1)) c.in-Some-rule_named.ensures.some
          ∙ ap (λ ws. decimal c.in-Some-number.node ∷ rule_word c.in-Some-rule_named.rule ∷ ws) read.0),
    )

pub returns-in-None-clause-none : goal.returns-in-None-clause-none
returns-in-None-clause-none c = λ l numbered is.
    let read = rw c.in-None.is at c.in_ok-premises.ensures.none in
    let first = first_of_line c.args.line.now _ _ l numbered c.first_word.ensures.words is in
    let rest = ap (λ o. words_left (option_copied o)) c.in-Some.is in
    let words = sym c.first_word-2.ensures.words ∙ sym rest ∙ first.1 in
    let more : words_left (option_copied c.first_word-2.result.1) ≡ map decimal l.premises = cc in
    read l.premises numbered.premises more
