use Rattle.std.proofs.Common.{◌≡◌, ◌<◌, ◌+◌, ◌++◌, ◌∷◌, List, Err, length, drop, fold, ap, ◌∙◌, sym, subst, arith}
use Rattle.std.proofs.lemmas.Result.{err_from_is_err_and}
use Rattle.std.proofs.lemmas.List.{drop_more}
use Rattle.ps_bench_cases.specs.declared.case.Statement.{Statement}
use Rattle.ps_bench_cases.specs.declared.point.Point.{Point}
use Rattle.ps_bench_cases.specs.Expanded.{act_text, point_set, next_point, statements_text}
use Rattle.ps_bench_cases.proofs.Pieces.{LeftOf, left_exit, left_next}
use Rattle.ps_bench_cases.proofs.Points.{next_size, next_base}
use Rattle.ps_bench_cases.proofs.expanding.put_statements.Goals as goal

pub returns-in_err-put_statement-clause-wrote : goal.returns-in_err-put_statement-clause-wrote
returns-in_err-put_statement-clause-wrote g c =
    let p = err_from_is_err_and c.from_residual.result c.from_residual.ensures.1 in
    let xs = c.args.statements.now in let i = c.loop-statement.statement-index in let s = c.statement-item.result in let q = c.loop-statement.point in
    let rest = drop (i + 1) xs in
    let within : i < length xs = omega arith in
    let step : drop i xs ≡ s ∷ rest = drop_more xs i s within ∙ ap (λ (x : Statement). x ∷ rest) (sym c.statement-item.is) in
    let left : LeftOf g.S.Sink.tells g.S.Sink.taken g.S.Sink.faults (statements_text c.args.point.now xs) (act_text (point_set q s.settings) s.act ++ statements_text (next_point q s) rest) c.args.out.now c.loop-statement.out =
    subst (λ (ss : List Statement). LeftOf g.S.Sink.tells g.S.Sink.taken g.S.Sink.faults (statements_text c.args.point.now xs) (statements_text q ss) c.args.out.now c.loop-statement.out) step c.loop-statement.invariant.left in
    left_exit g.S.Sink.tells g.S.Sink.taken g.S.Sink.faults (act_text (point_set q s.settings) s.act) (statements_text (next_point q s) rest) c.put_statement.new.out c.in_err-put_statement.field-0.0 c.from_residual.result (p.1 ∙ ap Err p.2) left c.in_err-put_statement.ensures.wrote

pub loop-statement-preserved : goal.loop-statement-preserved
loop-statement-preserved g c =
    let xs = c.args.statements.now in let i = c.loop-statement.statement-index in let s = c.statement-item.result in let q = c.loop-statement.point in
    let rest = drop (i + 1) xs in
    let within : i < length xs = omega arith in
    let step : drop i xs ≡ s ∷ rest = drop_more xs i s within ∙ ap (λ (x : Statement). x ∷ rest) (sym c.statement-item.is) in
    let left : LeftOf g.S.Sink.tells g.S.Sink.taken g.S.Sink.faults (statements_text c.args.point.now xs) (act_text (point_set q s.settings) s.act ++ statements_text (next_point q s) rest) c.args.out.now c.loop-statement.out =
    subst (λ (ss : List Statement). LeftOf g.S.Sink.tells g.S.Sink.taken g.S.Sink.faults (statements_text c.args.point.now xs) (statements_text q ss) c.args.out.now c.loop-statement.out) step c.loop-statement.invariant.left in
    let is : c.put_statement.new.point ≡ next_point q s = c.in_ok-put_statement.ensures.point in
    record {
      point = ap (λ (r : Point). fold next_point r rest) is ∙ sym (ap (fold next_point q) step) ∙ c.loop-statement.invariant.point;
      size = ap (λ (r : Point). length r.ins) is ∙ next_size q s ∙ c.loop-statement.invariant.size;
      base = ap (λ (r : Point). r.base) is ∙ next_base q s ∙ c.loop-statement.invariant.base;
      left = subst (λ (r : Point). LeftOf g.S.Sink.tells g.S.Sink.taken g.S.Sink.faults (statements_text c.args.point.now xs) (statements_text r rest) c.args.out.now c.put_statement.new.out) (sym is)
          (left_next g.S.Sink.tells g.S.Sink.taken g.S.Sink.faults (act_text (point_set q s.settings) s.act) (statements_text (next_point q s) rest) c.put_statement.new.out left c.in_ok-put_statement.ensures.wrote);
    }
