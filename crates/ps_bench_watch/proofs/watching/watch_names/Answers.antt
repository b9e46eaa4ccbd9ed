use Rattle.std.proofs.Common.{Err, inl, inr, refl}
use Rattle.ps_bench_frame.specs.Opening.{source}
use Rattle.ps_bench_messages.proofs.Remarked.{not_so, so}
use Rattle.ps_bench_trace.proofs.Remarked.{no_case, no_play, some_case}
use Rattle.ps_bench_watch.specs.Asking.{default_in, text_in, wanted_by}
use Rattle.ps_bench_watch.proofs.WatchComing.{moved_run}
use Rattle.ps_bench_watch.proofs.watching.watch_names.Goals as goal

pub returns-in-Ok-clause-answers : goal.returns-in-Ok-clause-answers
returns-in-Ok-clause-answers g c =
    let net = c.args.opened.now.app in
    let layout = c.args.asked.now.layout in
    inl (
      refl,
      moved_run net c.args.opened.now.sizes (text_in net layout) (default_in net layout) (wanted_by c.args.asked.now) _ _ _ _ _ _ _ _ _ _
          c.in-Ok-Some.ensures.reading c.in-Ok-Some.ensures.kept c.in-Ok-Some.ensures.telling c.in-Ok-Some.ensures.unsaid c.in-Ok.ensures.comes,
    )

pub returns-in-Err-watch_play-clause-answers : goal.returns-in-Err-watch_play-clause-answers
returns-in-Err-watch_play-clause-answers g c =
    let net = c.args.opened.now.app in
    let layout = c.args.asked.now.layout in
    inr (
      c.in-Err-watch_play.ensures.of_run,
      moved_run net c.args.opened.now.sizes (text_in net layout) (default_in net layout) (wanted_by c.args.asked.now) _ _ _ _ _ _ _ _ _ _
          c.in-Ok-Some.ensures.reading c.in-Ok-Some.ensures.kept c.in-Ok-Some.ensures.telling c.in-Ok-Some.ensures.unsaid
          c.in-Err-watch_play.ensures.comes,
    )

pub returns-in-Ok-clause-told : goal.returns-in-Ok-clause-told
returns-in-Ok-clause-told g c = λ tells.
    not_so _ _ _ _ (λ is. cc)
    (some_case _ _ c.open_play.result _ c.in-Ok-Some.field-0 c.in-Ok-Some.play c.in-Ok-Some.is c.in-Ok-Some.field-0-is
    (c.open_play.ensures.told tells))

pub returns-in-Err-watch_play-clause-told : goal.returns-in-Err-watch_play-clause-told
returns-in-Err-watch_play-clause-told g c = λ tells.
    not_so _ _ _ _ (λ is. cc)
    (some_case _ _ c.open_play.result _ c.in-Ok-Some.field-0 c.in-Ok-Some.play c.in-Ok-Some.is c.in-Ok-Some.field-0-is
    (c.open_play.ensures.told tells))

pub returns-in-Ok-None-clause-told : goal.returns-in-Ok-None-clause-told
returns-in-Ok-None-clause-told g c = λ tells.
    so _ _ _ _ refl (no_case _ _ c.open_play.result (source c.args.opened.now.app c.args.opened.now.sizes (g.F.Files.tells c.args.files.now) (g.F.Files.held c.args.files.now))
    c.args.asked.now.trace.now c.in-Ok-None.field-0 c.in-Ok-None.is c.in-Ok-None.field-0-is c.in-Ok-None.ensures.none
    (c.open_play.ensures.told tells))

pub returns-in-Err-clause-told : goal.returns-in-Err-clause-told
returns-in-Err-clause-told g c = λ tells.
    not_so _ _ _ _ (λ is. cc) (no_play _ _ c.open_play.result _ c.in-Err.stop c.in-Err.is (c.open_play.ensures.told tells))
