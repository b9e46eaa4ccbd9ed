use Rattle.std.proofs.Common.{◌++◌, codes, ap, sym, ◌∙◌, append_assoc}
use Rattle.ps_bench_test.specs.Failing.{over_text, unmet_text}
use Rattle.ps_bench_test.proofs.failing.add_unmet.Goals as goal

pub returns-in_ok-add_ended-in-Ended : goal.returns-in_ok-add_ended-in-Ended
returns-in_ok-add_ended-in-Ended c =
    c.in_ok-add_ended-in-Ended.ensures
    ∙ append_assoc c.args.text.now (codes "the case ends before") (over_text c.args.expectation.now.window)
    ∙ ap (λ why. c.args.text.now ++ unmet_text c.args.app.now c.args.expectation.now why) (sym c.in-Ended.is)

pub returns-in_ok-extend_from_slice-in-Tripped : goal.returns-in_ok-extend_from_slice-in-Tripped
returns-in_ok-extend_from_slice-in-Tripped c =
    c.in_ok-extend_from_slice-in-Tripped.ensures
    ∙ ap (λ why. c.args.text.now ++ unmet_text c.args.app.now c.args.expectation.now why) (sym c.in-Tripped.is)
