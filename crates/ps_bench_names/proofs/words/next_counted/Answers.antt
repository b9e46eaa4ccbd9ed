use Rattle.std.proofs.Common.{◌≡◌, ◌==◌, ◌∙◌, true, false, get_or, arith}
use Rattle.std.proofs.lemmas.Grind.{common_steps}
use Rattle.ps_bench_names.proofs.Counting.{comment_by_byte, counted_next, counted_comment}
use Rattle.ps_bench_names.proofs.words.next_counted.Goals as goal

pub returns-then-line-from-eq35-clause-none : goal.returns-then-line-from-eq35-clause-none
returns-then-line-from-eq35-clause-none c =
    let found = c.in-Some.ensures.found in
    let mark : (get_or c.args.line.now c.in-Some.from 0 == 35) ≡ true = grind (arith, common_steps) in
    counted_comment _ _ _ c.in-Some.ensures.first (comment_by_byte c.args.line.now c.in-Some.from c.in-Some.upto found.some found.within ∙ mark)

pub returns-clause-first : goal.returns-clause-first
returns-clause-first c =
    let found = c.in-Some.ensures.found in
    let plain : (get_or c.args.line.now c.in-Some.from 0 == 35) ≡ false = grind (arith, common_steps) in
    counted_next _ _ _ c.in-Some.ensures.first (comment_by_byte c.args.line.now c.in-Some.from c.in-Some.upto found.some found.within ∙ plain)
