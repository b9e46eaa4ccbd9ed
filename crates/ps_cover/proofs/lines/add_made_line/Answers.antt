use Rattle.std.proofs.Common.{◌∙◌, ◌++◌, ◌-◌, Some, ap, length, sym}
use Rattle.std.specs.Prelude.{slice_index_or}
use Rattle.std.proofs.lemmas.List.{append-nil}
use Rattle.ps_cover.specs.Lines.{state_line, way_line}
use Rattle.ps_cover.proofs.Chains.{being, carry}
use Rattle.ps_cover.proofs.Made.{entered_line, no_line, taken_line}
use Rattle.ps_cover.proofs.lines.add_made_line.Goals as goal

pub returns-then-mark-ways : goal.returns-then-mark-ways
returns-then-mark-ways c =
    let a = c.args in
    let ws = c.ways-ways.result.now in
    carry c.add_way_line.result
    (λ last. being a.text.now (way_line a.format a.name.now a.kind a.mark (Some (slice_index_or ws a.mark _))) last
    (taken_line a.format a.name.now a.kind a.mark ws c.ways-ways.ensures c.if-mark-ways.true _)) c.add_way_line.ensures

pub returns-then-place-ways : goal.returns-then-place-ways
returns-then-place-ways c =
    let a = c.args in
    let ws = c.ways-ways.result.now in
    carry c.add_state_line.result
    (λ last. being a.text.now (state_line a.format a.name.now a.kind (Some (slice_index_or ws (a.mark - length ws) _))) last
    (entered_line a.format a.name.now a.kind a.mark ws c.ways-ways.ensures c.if-mark-ways.false c.if-place-ways.true _)) c.add_state_line.ensures

pub returns : goal.returns
returns c =
    let a = c.args in
    sym (ap (λ line. a.text.now ++ line) (no_line a.format a.name.now a.kind a.mark c.ways-ways.result.now c.ways-ways.ensures c.if-mark-ways.false c.if-place-ways.false)
    ∙ append-nil a.text.now)
