use Rattle.std.proofs.Common.{◌≡◌, ◌+◌, true, slice_set, sym, ◌∙◌, length-set, arith}
use Rattle.std.proofs.lemmas.Grind.{common_steps}
use Rattle.ps_trace.proofs.PlainLemmas.{spaced-more}
use Rattle.ps_trace.proofs.plain_line.put_two.Goals as goal

pub returns-clause-put : goal.returns-clause-put
returns-clause-put c _ before =
    let pair1 : c.is_pair.result ≡ true = grind (arith, common_steps) in
    let pair2 : c.is_pair-2.result ≡ true = grind (arith, common_steps) in
    let at = c.args.at in
    let zero = c.args.values.now in
    let one = slice_set zero at c.is_one-first.result in
    let put1 = spaced-more c.args.bytes.now at (at + 1) zero c.is_one-first.result (omega arith) (omega arith) (omega arith) (sym c.is_pair.ensures ∙ pair1) c.is_one-first.ensures before in
    spaced-more c.args.bytes.now (at + 1) (at + 2) one c.is_one-second.result (omega arith) (omega (arith, length-set zero at c.is_one-first.result)) (omega arith) (sym c.is_pair-2.ensures ∙ pair2) c.is_one-second.ensures put1
