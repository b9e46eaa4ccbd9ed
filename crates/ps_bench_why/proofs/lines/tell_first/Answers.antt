use Rattle.std.proofs.Common.{◌++◌, ◌∷◌, [], subst}
use Rattle.ps_bench_why.specs.Pending.{IsInOrder, KeepsOrder}
use Rattle.ps_why.proofs.Adding.{both}
use Rattle.ps_bench_why.proofs.lines.tell_first.Goals as goal

pub returns-clause-order : goal.returns-clause-order
returns-clause-order c =
    let e = c.args.explanation.now in
    let x = c.args.line in
    let lines = c.args.lines.now.items in
    let first : KeepsOrder e lines (x ∷ []) c.tell_line.new.lines.items c.tell_line.new.pending.items =
    subst (λ ps. KeepsOrder e lines (ps ++ x ∷ []) c.tell_line.new.lines.items c.tell_line.new.pending.items) c.requires.none c.in_ok-tell_line.ensures.order in
    both c.tell_pending.result (λ next none rest h. subst (λ ps. IsInOrder e c.tell_pending.new.lines.items ps rest) none (next rest (first rest h)))
    c.tell_pending.ensures.order c.tell_pending.ensures.done
