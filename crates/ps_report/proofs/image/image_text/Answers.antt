use Rattle.std.proofs.Common.{ℕ, List, ◌++◌, length, ap, sym, ◌∙◌, append_assoc}
use Rattle.std.specs.List.{flat_map, range_with_len}
use Rattle.ps_report.specs.Image.{size_line, code_line}
use Rattle.ps_report.proofs.CodeLines.{flat_map-range_more}
use Rattle.ps_report.proofs.image.image_text.Goals as goal

pub loop-i-preserved : goal.loop-i-preserved
loop-i-preserved c =
    let code : List ℕ = c.args.code.now in
    let size : List ℕ = size_line c.args.channel (length code) c.args.cells c.args.turns in
    let i : ℕ = c.loop-i.i in
    let before : List ℕ = flat_map (code_line code) (range_with_len 0 i) in
    c.in_ok-add_code_line.ensures
    ∙ ap (λ (t : List ℕ). t ++ code_line code i) c.loop-i.invariant
    ∙ append_assoc size before (code_line code i)
    ∙ ap (λ (t : List ℕ). size ++ t) (sym (flat_map-range_more (code_line code) i))
