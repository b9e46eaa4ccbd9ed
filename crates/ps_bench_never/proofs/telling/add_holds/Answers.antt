use Rattle.std.proofs.Common.{◌++◌, ◌∙◌, ℕ, codes, ap}
use Rattle.ps_bench_never.specs.Telling.{count_text, head_text}
use Rattle.ps_bench_never.proofs.JoiningAny.{five_more, joined}
use Rattle.ps_bench_never.proofs.telling.add_holds.Goals as goal

pub returns : goal.returns
returns c =
    let old = c.args.text.now in
    let head = head_text c.args.file.now c.args.rule.now in
    let third = c.extend_from_slice-2.new.self in
    let begun = joined old (codes "HOLDS " ++ head) (codes " (") c.add_head.new.text third
    (joined old (codes "HOLDS ") head c.extend_from_slice.new.self c.add_head.new.text c.in_ok-extend_from_slice.ensures c.in_ok-add_head.ensures)
    c.in_ok-extend_from_slice-2.ensures in
    five_more c.extend_from_slice-4.result old ((codes "HOLDS " ++ head) ++ codes " (") (count_text c.args.found.now.states (codes "state")) (codes ", ")
    (count_text c.args.found.now.steps (codes "scan")) (codes ")\n") third c.add_count.new.text c.extend_from_slice-3.new.self c.add_count-2.new.text
    c.extend_from_slice-4.new.self begun (c.in_ok-add_count.ensures ∙ ap (λ (n : ℕ). third ++ count_text n (codes "state")) c.from.ensures)
    c.in_ok-extend_from_slice-3.ensures c.in_ok-add_count-2.ensures c.extend_from_slice-4.ensures
