use Rattle.ps_findings.proofs.Declared.{is_behind, is_here}
use Rattle.std.proofs.Common.{arith, sym, ◌∙◌}
use Rattle.ps_findings.proofs.places.among_names.Goals as goal

pub returns-then-is_word : goal.returns-then-is_word
returns-then-is_word c =
    is_here c.args.word.now c.args.names.now c.loop-name.name-index c.name-item.result (omega arith) c.name-item.is (sym c.is_word.ensures ∙ c.if-is_word.true)
    c.loop-name.invariant

pub loop-name-preserved : goal.loop-name-preserved
loop-name-preserved c =
    is_behind c.args.word.now c.args.names.now c.loop-name.name-index c.name-item.result (omega arith) c.name-item.is (sym c.is_word.ensures ∙ c.if-is_word.false)
    c.loop-name.invariant
