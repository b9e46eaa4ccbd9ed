use Rattle.std.proofs.Common.{◌≡◌, ◌∷◌, [], ℕ, List, Option, refl, sym, subst, arith}
use Rattle.std.proofs.lemmas.Result.{IfErr-weaker}
use Rattle.ps_bench_frame.proofs.Followed.{never_rose}
use Rattle.ps_bench_frame.proofs.Leaving.{quiet_same, reads_one}
use Rattle.ps_bench_frame.specs.Following.{FollowsTrace}
use Rattle.ps_bench_frame.specs.Leaving.{OnlyReads}
use Rattle.ps_bench_frame.specs.Meant.{file_meant}
use Rattle.ps_bench_trace.specs.Playing.{trace_held}
use Rattle.ps_bench_trace.proofs.following.follow_play.Goals as goal

pub returns-in-Some : goal.returns-in-Some
returns-in-Some g c =
    let name = file_meant c.args.word.now in
    let seen = g.C.Call.seen c.args.call.now in
    record {
      follows = λ tells.
          subst (λ (held : Option (List ℕ)). FollowsTrace (g.P.Performer.performs c.args.app.now) (g.T.Taker.said c.args.app.now) (g.T.Taker.takes c.args.app.now) c.args.app.now held
          c.args.runner.now.performer c.follow.new.runner.performer c.args.runner.now.taker c.follow.new.runner.taker c.follow.result)
          (λ i. trace_held (sym c.in-Some.is i) (seen.files.held name)) (c.follow.ensures.follows refl);
      of_run = c.follow.ensures.of_run;
      reads = reads_one name seen seen c.follow.result (quiet_same seen)
          (IfErr-weaker c.follow.result _ _ (λ stop rises is. absurd (never_rose (rises is))) c.follow.ensures.unread) c.follow.ensures.no_write;
    }

pub returns-in-None : goal.returns-in-None
returns-in-None g c =
    let name = file_meant c.args.word.now in
    let seen = g.C.Call.seen c.args.call.now in
    record {
      follows = λ tells.
          subst (λ (held : Option (List ℕ)). FollowsTrace (g.P.Performer.performs c.args.app.now) (g.T.Taker.said c.args.app.now) (g.T.Taker.takes c.args.app.now) c.args.app.now held
          c.args.runner.now.performer c.follow-in-None.new.runner.performer c.args.runner.now.taker c.follow-in-None.new.runner.taker c.follow-in-None.result)
          (λ i. trace_held (sym c.in-None.is i) (seen.files.held (c.word_of-word.ensures.file i))) (c.follow-in-None.ensures.follows tells);
      of_run = c.follow-in-None.ensures.of_run;
      reads = subst (λ (n : List ℕ). OnlyReads (n ∷ []) seen (g.C.Call.seen c.follow-in-None.new.self) c.follow-in-None.result)
          c.word_of-word.ensures.file c.follow-in-None.ensures.reads;
    }
