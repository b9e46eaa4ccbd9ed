use Rattle.std.proofs.Common.{◌≡◌, nat_eq, false, ap, sym, ◌∙◌, arith}
use Rattle.std.proofs.lemmas.Bool.Decides.{nat_tests}
use Rattle.std.specs.Prelude.{if◌then◌else◌}
use Rattle.ps_bench_test.proofs.Running.{none_failed_told}
use Rattle.ps_bench_test.proofs.testing.status_of.Goals as goal
use Rattle.ps_bench_frame.specs.declared.ending.Status.TheVariants.{Done, Failed}

pub returns-then-tally-eq0 : goal.returns-then-tally-eq0
returns-then-tally-eq0 c = λ fs is.
    sym (ap (λ passed. if passed then Done else Failed)
    (sym (none_failed_told c.args.tally.now fs is) ∙ ap (λ n. nat_eq n 0) c.if-tally-eq0.true))

pub returns-else-tally-eq0 : goal.returns-else-tally-eq0
returns-else-tally-eq0 c = λ fs is.
    let some = c.if-tally-eq0.false in
    let failed : nat_eq c.args.tally.now.failed 0 ≡ false = grind (arith, nat_tests) in
    sym (ap (λ passed. if passed then Done else Failed) (sym (none_failed_told c.args.tally.now fs is) ∙ failed))
