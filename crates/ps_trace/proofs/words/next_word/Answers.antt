use Rattle.std.proofs.Common.{arith}
use Rattle.std.proofs.lemmas.Grind.{common_steps}
use Rattle.ps_trace.specs.Words.{IsNextWord}
use Rattle.ps_trace.proofs.WordLemmas.{words-next, words-none}
use Rattle.ps_trace.proofs.words.next_word.Goals as goal

pub returns-clause-first : goal.returns-clause-first
returns-clause-first c =
    let next : IsNextWord c.args.line.now c.args.at c.run_end-from.result c.run_end.result = record {
      behind = c.run_end-from.ensures.behind;
      some = grind (arith, common_steps);
      within = c.run_end.ensures.within;
      blanks = c.run_end-from.ensures.alike;
      bytes = c.run_end.ensures.alike;
      ends = c.run_end.ensures.ends;
    } in
    words-next c.args.line.now c.args.at c.run_end-from.result c.run_end.result next

pub returns-then-from-line-clause-no_words : goal.returns-then-from-line-clause-no_words
returns-then-from-line-clause-no_words c = words-none c.args.line.now c.args.at c.requires (λ k low high. c.run_end-from.ensures.alike k low (omega arith))
