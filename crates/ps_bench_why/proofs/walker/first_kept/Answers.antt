use Rattle.std.proofs.Common.{◌≡◌, ◌∙◌, List, length, sym, ap, arith}
use Rattle.std.specs.Prelude.{slice_get}
use Rattle.ps_why.specs.declared.keeping.Stepped.{Stepped}
use Rattle.ps_bench_why.proofs.Ends.{more_long}
use Rattle.ps_bench_why.proofs.Taking.{kept_more}
use Rattle.ps_bench_why.proofs.walker.first_kept.Goals as goal

pub loop-i-preserved : goal.loop-i-preserved
loop-i-preserved c = record {
  each = omega (arith, ap length c.in_ok-push.ensures.items, more_long c.loop-i.kept.items c.step_instance.result, c.loop-i.invariant.each);
  are = λ j s at.
      kept_more c.args.app.now c.loop-i.kept.items c.loop-i.i c.loop-i.invariant.each c.loop-i.invariant.are c.step_instance.result
      (record { step = c.step_instance.ensures.step; call = c.step_instance.ensures.call; block = c.step_instance.ensures.kept }) j s
      (ap (λ (ks : List Stepped). slice_get ks j) (sym c.in_ok-push.ensures.items) ∙ at);
}
