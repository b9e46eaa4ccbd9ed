use Rattle.std.proofs.Common.{◌≡◌, ◌<◌, ◌+◌, ◌++◌, ◌∷◌, [], Some, length, take, drop, fold, ap, ◌∙◌, sym, subst, arith}
use Rattle.std.proofs.lemmas.List.{take_more}
use Rattle.ps_bench_cases.specs.declared.case.Statement.{Statement}
use Rattle.ps_bench_cases.specs.declared.point.Point.{Point}
use Rattle.ps_bench_cases.specs.Expanded.{act_text, point_set, point_after, next_point, statements_text}
use Rattle.ps_bench_cases.specs.Rooms.{Counts, IsRoom}
use Rattle.ps_bench_cases.proofs.Points.{all_base, fold_behind}
use Rattle.ps_bench_cases.proofs.Rooming.{counts_set, statement_left}
use Rattle.ps_bench_cases.proofs.room.Room.behind_statements.Goals as goal

pub returns-in-None : goal.returns-in-None
returns-in-None c = λ p is counts.
    let xs = c.args.statements.now in let i = c.loop-statement.statement-index in let s = c.statement-item.result in
    let q : Point = fold next_point p (take i xs) in
    let within : i < length xs = omega arith in
    let one = statement_left q xs i s within c.statement-item.is in
    let stands : Counts c.args.base.inputs (point_set q s.settings) c.loop-statement.room = counts_set c.args.base.inputs q c.loop-statement.room s.settings (c.loop-statement.invariant.counts p is counts) in
    let room = c.in_ok-behind.ensures (point_set q s.settings) (all_base (take i xs) p ∙ is) stands in
    let large : c.loop-statement.room.left < length (act_text (point_set q s.settings) s.act) =
    subst (IsRoom c.args.base.inputs c.loop-statement.room.left (length (act_text (point_set q s.settings) s.act)) (point_after (point_set q s.settings) s.act)) c.in-None.is room in
    omega (arith, one, large, c.loop-statement.invariant.left p is counts)

pub loop-statement-preserved : goal.loop-statement-preserved
loop-statement-preserved c =
    let xs = c.args.statements.now in let i = c.loop-statement.statement-index in let s = c.statement-item.result in
    let within : i < length xs = omega arith in
    let step : (p : Point) → fold next_point p (take (i + 1) xs) ≡ next_point (fold next_point p (take i xs)) s =
    λ p. ap (fold next_point p) (take_more xs i s within ∙ ap (λ (x : Statement). take i xs ++ x ∷ []) (sym c.statement-item.is)) ∙ fold_behind (take i xs) (s ∷ []) p in
    let behind : (p : Point) → p.base ≡ c.args.base.time → Counts c.args.base.inputs p c.args.self →
    IsRoom c.args.base.inputs c.loop-statement.room.left (length (act_text (point_set (fold next_point p (take i xs)) s.settings) s.act)) (next_point (fold next_point p (take i xs)) s) (Some c.in-Some.behind) =
    λ p is counts.
    let q : Point = fold next_point p (take i xs) in
    subst (IsRoom c.args.base.inputs c.loop-statement.room.left (length (act_text (point_set q s.settings) s.act)) (next_point q s)) c.in-Some.is
    (c.in_ok-behind.ensures (point_set q s.settings) (all_base (take i xs) p ∙ is) (counts_set c.args.base.inputs q c.loop-statement.room s.settings (c.loop-statement.invariant.counts p is counts))) in
    record {
      left = λ p is counts.
          let q : Point = fold next_point p (take i xs) in
          let one = statement_left q xs i s within c.statement-item.is in
          let rest : length (statements_text (fold next_point p (take (i + 1) xs)) (drop (i + 1) xs)) ≡ length (statements_text (next_point q s) (drop (i + 1) xs)) =
          ap (λ (x : Point). length (statements_text x (drop (i + 1) xs))) (step p) in
          omega (arith, one, rest, (behind p is counts).0, c.loop-statement.invariant.left p is counts);
      counts = λ p is counts. subst (λ (x : Point). Counts c.args.base.inputs x c.in-Some.behind) (sym (step p)) (behind p is counts).1;
    }
