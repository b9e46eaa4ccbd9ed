use Rattle.std.proofs.Common.{◌≡◌, ◌+◌, ◌-◌, ◌≤◌, length, take, drop, ◌∙◌, arith, length-drop}
use Rattle.std.proofs.lemmas.List.{length-take-le}
use Rattle.ps_eqvm.proofs.Joining.{size_kept, more_values}
use Rattle.ps_eqvm.proofs.plain.put_eights.Goals as goal

pub put_run-requires-clause-room : goal.put_run-requires-clause-room
put_run-requires-clause-room c =
    let a = c.args in
    let inv = c.loop-done.invariant in
    let size = size_kept a.cells.now c.loop-done.cells a.at c.loop-done.done a.values.now c.requires.room inv.within inv.cells in
    omega (arith, size, c.requires.room, inv.within, c.loop-done-test.true)

pub loop-done-preserved : goal.loop-done-preserved
loop-done-preserved c =
    let a = c.args in
    let inv = c.loop-done.invariant in
    let n = c.loop-done.done in
    let m = n + 8 in
    let low : n ≤ m = omega arith in
    let high : m ≤ length a.values.now = omega (arith, inv.within, c.loop-done-test.true) in
    let eight : length (take (m - n) (drop n a.values.now)) ≡ 8 =
    length-take-le (m - n) (drop n a.values.now) (omega (arith, length-drop n a.values.now, high)) ∙ omega arith in
    record {
      within = high;
      cells = more_values a.cells.now c.loop-done.cells c.put_run.new.self a.at n m a.values.now c.requires.room low high inv.cells
          (c.put_run.ensures (take (m - n) (drop n a.values.now)) eight c.low_bits.ensures);
    }
