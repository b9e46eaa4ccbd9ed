use Rattle.std.proofs.Common.{◌≡◌, ◌+◌, ℕ, Option, length, fold, refl, subst, arith}
use Rattle.std.proofs.lemmas.Result.{IfOk-weaker}
use Rattle.std.proofs.lemmas.List.{length-append}
use Rattle.ps_bench_cases.specs.declared.point.Point.{Point}
use Rattle.ps_bench_cases.specs.declared.room.Room.{Room}
use Rattle.ps_bench_cases.specs.Expanded.{name_line, begin_point, next_point, end_point, statements_text, case_text}
use Rattle.ps_bench_cases.specs.Rooms.{Counts, IsRoom}
use Rattle.ps_bench_cases.proofs.Rooming.{counts_none, room_more, name_size}
use Rattle.ps_bench_cases.proofs.room.Room.behind_case.Goals as goal

pub returns : goal.returns
returns c =
    let n = c.args.base.inputs in let b = begin_point n c.args.base.time in let ss = c.args.statements.now in
    let room : Room = record { left = c.in-Some-behind.room.left; held = 0 } in
    let head = length (name_line c.args.name.now) in
    let size : length (case_text n c.args.base.time c.args.name.now ss) ≡ head + length (statements_text b ss) = length-append (name_line c.args.name.now) (statements_text b ss) in
    let used : c.in-Some-behind.room.left + (c.args.bytes + head) ≡ c.args.self.left = omega (arith, name_size c.args.name.now, c.in-Some.ensures.left, c.in-Some-behind.ensures.left) in
    let whole : (c.args.bytes + head) + length (statements_text b ss) ≡ c.args.bytes + length (case_text n c.args.base.time c.args.name.now ss) = omega (arith, size) in
    let Behind : Option Room → Type 0 = λ r. (p : Point) → p.base ≡ c.args.base.time → Counts n p room → IsRoom n room.left (length (statements_text p ss)) (fold next_point p ss) r in
    IfOk-weaker c.behind_statements.result Behind (IsRoom n c.args.self.left (c.args.bytes + length (case_text n c.args.base.time c.args.name.now ss)) (end_point n c.args.base.time ss))
    (λ r behind. subst (λ (bytes : ℕ). IsRoom n c.args.self.left bytes (end_point n c.args.base.time ss) r) whole
    (room_more n c.args.self.left (c.args.bytes + head) (length (statements_text b ss)) (end_point n c.args.base.time ss) room r used (behind b refl (counts_none n c.args.base.time room refl))))
    c.behind_statements.ensures
