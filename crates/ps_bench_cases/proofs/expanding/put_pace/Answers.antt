use Rattle.std.proofs.Common.{◌≡◌, ◌<◌, ◌+◌, ◌++◌, List, ℕ, [], Err, length, drop, flat_map, get_or, refl, ap, ◌∙◌, subst, arith}
use Rattle.std.proofs.lemmas.Result.{err_from_is_err_and}
use Rattle.std.proofs.lemmas.List.{drop_all}
use Rattle.std.proofs.lemmas.List.FromFn.{get_or-map-range_with_len, length-map-range_with_len}
use Rattle.ps_bench_cases.specs.Meant.{time_at, times_of}
use Rattle.ps_bench_cases.specs.Expanded.{scan_line}
use Rattle.ps_bench_cases.proofs.Pieces.{LeftOf, left_at, left_exit, left_next, left_none}
use Rattle.ps_bench_cases.proofs.expanding.put_pace.Goals as goal

pub returns-in_err-put_scan : goal.returns-in_err-put_scan
returns-in_err-put_scan g c =
    let p = err_from_is_err_and c.from_residual.result c.from_residual.ensures.1 in
    let pace = c.args.pace.now in let ins = c.args.ins.now in let k = c.loop-k.k in
    let line : ℕ → List ℕ = λ now. scan_line (c.args.base + now) ins in
    let size : length (times_of pace) ≡ pace.count = length-map-range_with_len (time_at pace) 1 pace.count in
    let within : k < length (times_of pace) = omega (arith, size, c.loop-k-test.true) in
    let time : get_or (times_of pace) k 0 ≡ c.from.result = get_or-map-range_with_len (time_at pace) 1 pace.count k (1 + k) 0 (omega arith) refl ∙ omega (arith, c.loop-k.invariant.time) in
    let left = subst (λ (now : ℕ). LeftOf g.S.Sink.tells g.S.Sink.taken g.S.Sink.faults (flat_map line (times_of pace)) (line now ++ flat_map line (drop (k + 1) (times_of pace))) c.args.out.now c.loop-k.out) time (left_at g.S.Sink.tells g.S.Sink.taken g.S.Sink.faults line (times_of pace) k 0 within c.loop-k.invariant.left) in
    left_exit g.S.Sink.tells g.S.Sink.taken g.S.Sink.faults (line c.from.result) (flat_map line (drop (k + 1) (times_of pace))) c.put_scan.new.out c.in_err-put_scan.field-0.0 c.from_residual.result (p.1 ∙ ap Err p.2) left c.in_err-put_scan.ensures

pub loop-k-preserved : goal.loop-k-preserved
loop-k-preserved g c =
    let pace = c.args.pace.now in let ins = c.args.ins.now in let k = c.loop-k.k in
    let line : ℕ → List ℕ = λ now. scan_line (c.args.base + now) ins in
    let size : length (times_of pace) ≡ pace.count = length-map-range_with_len (time_at pace) 1 pace.count in
    let within : k < length (times_of pace) = omega (arith, size, c.loop-k-test.true) in
    let time : get_or (times_of pace) k 0 ≡ c.from.result = get_or-map-range_with_len (time_at pace) 1 pace.count k (1 + k) 0 (omega arith) refl ∙ omega (arith, c.loop-k.invariant.time) in
    let left = subst (λ (now : ℕ). LeftOf g.S.Sink.tells g.S.Sink.taken g.S.Sink.faults (flat_map line (times_of pace)) (line now ++ flat_map line (drop (k + 1) (times_of pace))) c.args.out.now c.loop-k.out) time (left_at g.S.Sink.tells g.S.Sink.taken g.S.Sink.faults line (times_of pace) k 0 within c.loop-k.invariant.left) in
    record { time = omega (arith, c.loop-k.invariant.time); left = left_next g.S.Sink.tells g.S.Sink.taken g.S.Sink.faults (line c.from.result) (flat_map line (drop (k + 1) (times_of pace))) c.put_scan.new.out left c.in_ok-put_scan.ensures }

pub returns : goal.returns
returns g c =
    let pace = c.args.pace.now in
    let line : ℕ → List ℕ = λ now. scan_line (c.args.base + now) c.args.ins.now in
    let size : length (times_of pace) ≡ pace.count = length-map-range_with_len (time_at pace) 1 pace.count in
    let none : drop c.loop-k.k (times_of pace) ≡ [] = drop_all c.loop-k.k (times_of pace) (omega arith) in
    left_none g.S.Sink.tells g.S.Sink.taken g.S.Sink.faults (flat_map line (times_of pace)) c.args.out.now c.loop-k.out (subst (λ (times : List ℕ). LeftOf g.S.Sink.tells g.S.Sink.taken g.S.Sink.faults (flat_map line (times_of pace)) (flat_map line times) c.args.out.now c.loop-k.out) none c.loop-k.invariant.left)
