use Rattle.std.proofs.Common.{◌<◌, ◌^◌, ◌++◌, map, sym, ap, ◌∙◌}
use Rattle.std.specs.Prelude.{decimal, option_copied}
use Rattle.ps_flow.specs.Words.{words_left}
use Rattle.ps_flow.proofs.Spelling.{made_of_parts}
use Rattle.ps_flow.proofs.reading.read_premises.Goals as goal

pub returns-in-None-clause-none : goal.returns-in-None-clause-none
returns-in-None-clause-none c = λ ps small is.
    let left = ap (λ o. words_left (option_copied o)) c.in-Some.is in
    let cut = sym is ∙ c.loop-left.invariant.words ∙ ap (λ ws. map decimal c.loop-left.premises ++ ws) (left ∙ c.first_word.ensures.words) in
    let found = made_of_parts decimal (λ p. p < 2 ^ 32) ps (map decimal c.loop-left.premises) _ _ small cut in
    c.in-None.ensures.none found.0 found.1 found.2
