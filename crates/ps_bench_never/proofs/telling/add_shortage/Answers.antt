use Rattle.std.proofs.Common.{◌++◌, ◌∙◌, ℕ, codes, ap}
use Rattle.ps_bench_never.specs.Telling.{count_text}
use Rattle.ps_bench_never.proofs.JoiningAny.{five_more}
use Rattle.ps_bench_never.proofs.telling.add_shortage.Goals as goal

pub returns : goal.returns
returns c =
    let first = c.extend_from_slice.new.self in
    let third = c.extend_from_slice-2.new.self in
    five_more c.extend_from_slice-3.result c.args.text.now (codes ": ") (count_text c.args.most (codes "state")) (codes " were not enough; none of up to ")
    (count_text c.args.depth (codes "scan")) (codes "\n") first c.add_count.new.text third c.add_count-2.new.text c.extend_from_slice-3.new.self
    c.in_ok-extend_from_slice.ensures (c.in_ok-add_count.ensures ∙ ap (λ (n : ℕ). first ++ count_text n (codes "state")) c.from.ensures)
    c.in_ok-extend_from_slice-2.ensures (c.in_ok-add_count-2.ensures ∙ ap (λ (n : ℕ). third ++ count_text n (codes "scan")) c.from-2.ensures)
    c.extend_from_slice-3.ensures
