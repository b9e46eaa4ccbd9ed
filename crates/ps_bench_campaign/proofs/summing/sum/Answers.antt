use Rattle.std.proofs.Common.{ℕ, List, Any, inr, refl, subst}
use Rattle.std.specs.Prelude.{IfErr}
use Rattle.ps_bench_frame.specs.Ending.{IsUnread}
use Rattle.ps_outside.specs.Outside.{Rose}
use Rattle.ps_bench_frame.specs.declared.ending.Status.TheVariants.{Usage}
use Rattle.ps_bench_campaign.proofs.Leaving.{done_written, no_more}
use Rattle.ps_bench_campaign.proofs.Summed.{answered, names_in, none_in, parted, stopped}
use Rattle.ps_bench_campaign.proofs.summing.sum.Goals as goal

pub returns-in-Some : goal.returns-in-Some
returns-in-Some g c = record {
  answers = answered (names_in c.args.names.now) _ (g.F.Files.tells c.args.files.now) (g.F.Files.held c.args.files.now)
      (g.O.Sink.tells c.args.out.now) (g.O.Sink.taken c.args.out.now) (g.O.Sink.taken c.sum_named.new.out) c.sum_named.result
      (parted c.args.names.now c.in-Some.first.now c.in-Some.others.now c.in-Some.ensures.cases.0) c.sum_named.ensures.answers;
  stops = stopped (names_in c.args.names.now) _ (g.F.Files.tells c.args.files.now) (g.F.Files.held c.args.files.now)
      (g.O.Sink.tells c.args.out.now) (g.O.Sink.taken c.args.out.now) (g.O.Sink.taken c.sum_named.new.out) c.sum_named.result
      (parted c.args.names.now c.in-Some.first.now c.in-Some.others.now c.in-Some.ensures.cases.0) c.sum_named.ensures.answers;
  unread = subst (λ (names : List (List ℕ)). IfErr c.sum_named.result (λ stop. IsUnread stop → Any (λ (name : List ℕ).
      Rose (g.F.Files.faults c.args.files.now name) (g.F.Files.faults c.sum_named.new.files name)) names))
      (parted c.args.names.now c.in-Some.first.now c.in-Some.others.now c.in-Some.ensures.cases.0) c.sum_named.ensures.unread;
  unwritten = c.sum_named.ensures.unwritten;
  writes = c.sum_named.ensures.writes;
  telling = c.sum_named.ensures.telling;
}

pub returns-in-None : goal.returns-in-None
returns-in-None g c = record {
  answers = inr (none_in c.args.names.now c.in-None.ensures.cases, refl, λ tells. refl);
  stops = tt;
  unread = tt;
  unwritten = λ is. done_written _ Usage refl is;
  writes = no_more (g.O.Sink.faults c.args.out.now);
  telling = refl;
}
