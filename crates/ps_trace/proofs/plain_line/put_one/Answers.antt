use Rattle.std.proofs.Common.{◌≡◌, ◌+◌, true, sym, ◌∙◌, arith}
use Rattle.std.proofs.lemmas.Grind.{common_steps}
use Rattle.ps_trace.proofs.PlainLemmas.{spaced-more}
use Rattle.ps_trace.proofs.plain_line.put_one.Goals as goal

pub returns-clause-put : goal.returns-clause-put
returns-clause-put c _ before =
    let pair : c.is_pair.result ≡ true = grind (arith, common_steps) in
    spaced-more c.args.bytes.now c.args.at (c.args.at + 1) c.args.values.now c.is_one.result (omega arith) (omega arith) (omega arith)
    (sym c.is_pair.ensures ∙ pair) c.is_one.ensures before
