use Rattle.std.proofs.Common.{◌++◌, ℕ, codes, subst}
use Rattle.std.specs.List.{flat_map}
use Rattle.ps_bench_report.specs.Ground.{bases_text, break_text, last_of, side_of, ticks_text, time_pieces}
use Rattle.ps_bench_report.specs.Paged.{Adds}
use Rattle.ps_bench_report.specs.Picture.{path_pieces, words_pieces}
use Rattle.ps_bench_report.proofs.Adding.{adds_behind}
use Rattle.ps_bench_report.proofs.ground.add_ground.Goals as goal

pub returns : goal.returns
returns c =
    let scans = c.args.scans.now in
    let lanes = c.args.sheet.now.lanes.now in
    let bottom = c.args.bottom in
    let page = c.args.page.now in
    let page1 = c.add_lines.new.page in
    let page2 = c.add_lines-2.new.page in
    let page3 = c.add_lines-3.new.page in
    let page4 = c.add_words.new.page in
    let page5 = c.add_words-2.new.page in
    let page6 = c.add_times.new.page in
    let ticks = ticks_text bottom scans in
    let bases = bases_text (side_of (last_of scans)) lanes in
    let breaks = flat_map (break_text bottom) scans in
    let a = path_pieces (codes "tick") ticks in
    let b = path_pieces (codes "base") bases in
    let d = path_pieces (codes "break") breaks in
    let e = words_pieces (codes "name") 132 26 (codes "expected at") in
    subst (λ (y : ℕ). Adds page page6 (a ++ b ++ d ++ e ++ words_pieces (codes "name") 132 y (codes "time in ms") ++ flat_map (time_pieces y) scans)) c.saturating_add-below.ensures
    (adds_behind page page5 page6 (a ++ b ++ d ++ e ++ words_pieces (codes "name") 132 c.saturating_add-below.result (codes "time in ms")) _
    (adds_behind page page4 page5 (a ++ b ++ d ++ e) _
    (adds_behind page page3 page4 (a ++ b ++ d) _
    (adds_behind page page2 page3 (a ++ b) _
    (adds_behind page page1 page2 a _ (c.add_lines.ensures ticks c.ticks_of.ensures) (c.add_lines-2.ensures bases c.bases_of.ensures))
    (c.add_lines-3.ensures breaks c.breaks_of.ensures)) c.add_words.ensures) c.add_words-2.ensures) c.add_times.ensures)
