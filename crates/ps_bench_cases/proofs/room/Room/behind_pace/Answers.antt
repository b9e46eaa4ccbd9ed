use Rattle.std.proofs.Common.{◌≡◌, ◌<◌, ◌+◌, ℕ, List, [], length, drop, flat_map, get_or, refl, ap, ◌∙◌, sym, subst, arith}
use Rattle.std.proofs.lemmas.List.{drop_all}
use Rattle.std.proofs.lemmas.List.FromFn.{get_or-map-range_with_len, length-map-range_with_len}
use Rattle.ps_bench_cases.specs.Meant.{time_at, times_of}
use Rattle.ps_bench_cases.specs.Expanded.{scan_line}
use Rattle.ps_bench_cases.specs.Rooms.{IsLeft}
use Rattle.ps_bench_cases.proofs.Rooming.{texts_left}
use Rattle.ps_bench_cases.proofs.room.Room.behind_pace.Goals as goal

pub returns-in_err-room-clause-left : goal.returns-in_err-room-clause-left
returns-in_err-room-clause-left c = λ ins same.
    let pace = c.args.pace.now in let k = c.loop-k.k in
    let line : ℕ → List ℕ = λ now. scan_line (c.args.base.time + now) ins in
    let size : length (times_of pace) ≡ pace.count = length-map-range_with_len (time_at pace) 1 pace.count in
    let within : k < length (times_of pace) = omega (arith, size, c.loop-k-test.true) in
    let time : get_or (times_of pace) k 0 ≡ c.from.result = get_or-map-range_with_len (time_at pace) 1 pace.count k (1 + k) 0 (omega arith) refl ∙ omega (arith, c.loop-k.invariant.time) in
    let one = texts_left line (times_of pace) k 0 within in
    let of : length (line (get_or (times_of pace) k 0)) ≡ length (line c.from.result) = ap (λ (now : ℕ). length (line now)) time in
    let large : c.args.self.left < length (flat_map line (times_of pace)) = omega (arith, one, of, c.in_err-room.ensures.left ins same, c.loop-k.invariant.left ins same) in
    subst (IsLeft c.args.self.left (length (flat_map line (times_of pace)))) (sym c.from_residual.ensures) large

pub loop-k-preserved : goal.loop-k-preserved
loop-k-preserved c =
    let pace = c.args.pace.now in let k = c.loop-k.k in
    let size : length (times_of pace) ≡ pace.count = length-map-range_with_len (time_at pace) 1 pace.count in
    let within : k < length (times_of pace) = omega (arith, size, c.loop-k-test.true) in
    let time : get_or (times_of pace) k 0 ≡ c.from.result = get_or-map-range_with_len (time_at pace) 1 pace.count k (1 + k) 0 (omega arith) refl ∙ omega (arith, c.loop-k.invariant.time) in
    record {
      time = omega (arith, c.loop-k.invariant.time);
      left = λ ins same.
          let line : ℕ → List ℕ = λ now. scan_line (c.args.base.time + now) ins in
          let one = texts_left line (times_of pace) k 0 within in
          let of : length (line (get_or (times_of pace) k 0)) ≡ length (line c.from.result) = ap (λ (now : ℕ). length (line now)) time in
          omega (arith, one, of, c.in_ok-room.ensures.left ins same, c.loop-k.invariant.left ins same);
      held = c.in_ok-room.ensures.held ∙ c.loop-k.invariant.held;
    }

pub returns-clause-left : goal.returns-clause-left
returns-clause-left c = λ ins same.
    let pace = c.args.pace.now in
    let line : ℕ → List ℕ = λ now. scan_line (c.args.base.time + now) ins in
    let size : length (times_of pace) ≡ pace.count = length-map-range_with_len (time_at pace) 1 pace.count in
    let none : drop c.loop-k.k (times_of pace) ≡ [] = drop_all c.loop-k.k (times_of pace) (omega (arith, size)) in
    let rest : length (flat_map line (drop c.loop-k.k (times_of pace))) ≡ 0 = ap (λ (ts : List ℕ). length (flat_map line ts)) none in
    omega (arith, rest, c.loop-k.invariant.left ins same)
