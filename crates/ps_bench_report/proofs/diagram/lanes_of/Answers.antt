use Rattle.std.proofs.Common.{◌∙◌, suc, List, drop, add-one, sym, ap}
use Rattle.std.proofs.Math.Seq.{drop-cons}
use Rattle.ps_bench_report.specs.Sheets.{lanes_from}
use Rattle.ps_bench_report.specs.declared.drawing.Lane.{Lane}
use Rattle.ps_bench_names.specs.declared.name.Name.{Name}
use Rattle.ps_bench_names.specs.declared.name.Name.TheVariants.{Signal}
use Rattle.ps_bench_report.proofs.diagram.lanes_of.Goals as goal

pub loop-number-preserved : goal.loop-number-preserved
loop-number-preserved c =
    let r = c.args.recording.now in
    let names = c.as_slice-names.result.now in
    let k = c.loop-number.number in
    let lanes = c.push_lane.new.lanes.items in
    ap (λ n. lanes_from r lanes n (drop n names)) (add-one k)
    ∙ ap (λ (ls : List Lane). lanes_from r ls (suc k) (drop (suc k) names)) c.in_ok-push_lane.ensures
    ∙ sym (ap (λ (ns : List Name). lanes_from r c.loop-number.lanes.items k ns) (drop-cons names k (Signal 0) c.loop-number-test.true))
    ∙ c.loop-number.invariant
