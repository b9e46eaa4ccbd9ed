use Rattle.std.proofs.Common.{◌∙◌, ◌+◌, ◌++◌, refl, arith}
use Rattle.ps_bench_campaign.specs.Printing.{fault_text}
use Rattle.ps_bench_campaign.proofs.Numbered.{line_of}
use Rattle.ps_bench_trials.proofs.Growing.{all_told, one_more}
use Rattle.ps_bench_trials.specs.Faults.{fault_by}
use Rattle.ps_bench_trials.specs.Trials.{trial_of}
use Rattle.ps_bench_campaign.proofs.printing.add_faults.Goals as goal

pub loop-done-preserved : goal.loop-done-preserved
loop-done-preserved c =
    let f = line_of c.args.codes.now.a c.args.codes.now.b c.args.room.now c.args.asked.now.from in
    one_more f c.loop-done.done c.args.text.now c.loop-done.text _ c.loop-done.invariant
    (c.in_ok-add_numbered.ensures
    ∙ (λ i. c.loop-done.text ++ fault_text (fault_by c.args.codes.now.a c.args.codes.now.b (trial_of c.args.room.now (c.from.ensures i + c.from-in-loop-done.ensures i)))))

pub returns : goal.returns
returns c =
    all_told (line_of c.args.codes.now.a c.args.codes.now.b c.args.room.now c.args.asked.now.from) c.loop-done.done c.args.asked.now.count _
    c.args.text.now c.loop-done.text refl (omega (arith, c.loop-done-test.false, c.loop-done.auto.done-end)) c.loop-done.invariant
