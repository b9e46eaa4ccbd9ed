use Rattle.std.proofs.Common.{◌<◌, ◌+◌, ◌++◌, List, ℕ, Err, false, length, drop, flat_map, ap, ◌∙◌, sym, subst, arith}
use Rattle.std.proofs.lemmas.Result.{err_from_is_err_and}
use Rattle.ps_bench_cases.specs.Expanded.{value_text}
use Rattle.ps_bench_cases.proofs.Pieces.{LeftOf, left_at, left_exit, left_next}
use Rattle.ps_bench_cases.proofs.expanding.put_values.Goals as goal

pub returns-in_err-put : goal.returns-in_err-put
returns-in_err-put g c =
    let p = err_from_is_err_and c.from_residual.result c.from_residual.ensures.1 in
    let ins = c.args.ins.now in let i = c.loop-value.value-index in
    let within : i < length ins = omega arith in
    let left = subst (λ (piece : List ℕ). LeftOf g.S.Sink.tells g.S.Sink.taken g.S.Sink.faults (flat_map value_text ins) (piece ++ flat_map value_text (drop (i + 1) ins)) c.args.out.now c.loop-value.out) (sym c.value_text.ensures) (left_at g.S.Sink.tells g.S.Sink.taken g.S.Sink.faults value_text ins i false within c.loop-value.invariant) in
    left_exit g.S.Sink.tells g.S.Sink.taken g.S.Sink.faults c.value_text.result.now (flat_map value_text (drop (i + 1) ins)) c.put.new.out c.in_err-put.field-0.0 c.from_residual.result (p.1 ∙ ap Err p.2) left c.in_err-put.ensures

pub loop-value-preserved : goal.loop-value-preserved
loop-value-preserved g c =
    let ins = c.args.ins.now in let i = c.loop-value.value-index in
    let within : i < length ins = omega arith in
    let left = subst (λ (piece : List ℕ). LeftOf g.S.Sink.tells g.S.Sink.taken g.S.Sink.faults (flat_map value_text ins) (piece ++ flat_map value_text (drop (i + 1) ins)) c.args.out.now c.loop-value.out) (sym c.value_text.ensures) (left_at g.S.Sink.tells g.S.Sink.taken g.S.Sink.faults value_text ins i false within c.loop-value.invariant) in
    left_next g.S.Sink.tells g.S.Sink.taken g.S.Sink.faults c.value_text.result.now (flat_map value_text (drop (i + 1) ins)) c.put.new.out left c.in_ok-put.ensures
