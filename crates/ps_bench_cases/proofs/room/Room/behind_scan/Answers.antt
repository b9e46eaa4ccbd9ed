use Rattle.std.proofs.Common.{◌≡◌, ◌+◌, ◌*◌, ℕ, List, length, decimal, ap, sym, subst, arith}
use Rattle.ps_bench_cases.specs.Expanded.{scan_line}
use Rattle.ps_bench_cases.specs.Rooms.{IsLeft}
use Rattle.ps_bench_cases.proofs.Rooming.{scan_size}
use Rattle.ps_bench_cases.proofs.room.Room.behind_scan.Goals as goal

pub returns-clause-left : goal.returns-clause-left
returns-clause-left c = λ ins same.
    let digits : length c.format.result.now ≡ length (decimal c.args.now) = ap (λ (bytes : List ℕ). length bytes) c.format.ensures.text in
    let size : length (scan_line c.args.now ins) ≡ length c.format.result.now + 2 * c.from.result + 1 = omega (arith, scan_size c.args.now ins, same, digits, c.from.ensures) in
    subst (λ (n : ℕ). IsLeft c.args.self.left n c.behind.result) (sym size) c.behind.ensures.left
