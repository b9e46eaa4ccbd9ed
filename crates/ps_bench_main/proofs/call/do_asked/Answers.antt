use Rattle.std.proofs.Common.{◌≡◌, ℕ, List, Any, Bor, Ok, Err, IfErr, refl, ap, sym, subst, ◌∷◌, ◌∙◌}
use Rattle.std.specs.Prelude.{IfOk, map, option_map}
use Rattle.std.proofs.lemmas.Result.{IfErr-weaker, err_from_is_err_and}
use Rattle.std.proofs.lemmas.Simd.{map-map}
use Rattle.ps_bench_frame.specs.Ending.{IsUnread, stop_status}
use Rattle.ps_bench_frame.specs.Meant.{file_meant}
use Rattle.ps_bench_frame.specs.declared.ending.Status.TheVariants.{Done, ReadFault, Usage, WriteFault}
use Rattle.ps_bench_words.specs.Seen.{asked_seen, seen}
use Rattle.ps_bench_words.specs.declared.asking.Asked.{Asked}
use Rattle.ps_bench_watch.specs.LiveAsking.{fed}
use Rattle.ps_outside.specs.Outside.{Rose}
use Rattle.ps_bench_report.specs.Asking.{AnswersReport, StopsReport}
use Rattle.ps_bench_test.specs.Stopping.{StopsTesting}
use Rattle.ps_bench_test.proofs.Stopped.{err_is}
use Rattle.ps_bench_cover.specs.Asking.{AnswersCover, StopsCover}
use Rattle.ps_bench_campaign.specs.Summing.{AnswersSum, StopsSum}
use Rattle.ps_bench_main.specs.Answering.{Answers, IsUnreadBy, Stops, covered_of, reported_of, wanted_of}
use Rattle.ps_bench_main.proofs.Risen.{risen_any}
use Rattle.ps_bench_main.specs.Hearing.{HearsMeanwhile}
use Rattle.ps_bench_watch.specs.Remarking.{HearsWatch}
use Rattle.ps_edge.specs.Hearing.{listener_seen}
use Rattle.ps_bench_watch.specs.Asking.{AnswersWatch, StopsWatch}
use Rattle.ps_bench_main.proofs.call.do_asked.Goals as goal

pub returns-in_ok-expand-in-Expand-clause-answers : goal.returns-in_ok-expand-in-Expand-clause-answers
returns-in_ok-expand-in-Expand-clause-answers g c =
    let says = c.in_ok-expand-in-Expand.ensures.says in
    subst (λ (asked : Asked). Answers (asked_seen asked) (fed (g.I.Stream.tells c.args.input.now) (g.I.Stream.coming c.args.input.now) (g.I.Stream.coming c.args.input.now))
    (g.F.Files.tells c.args.files.now) (g.F.Files.held c.args.files.now) Done
    (g.O.Sink.tells c.args.out.now) (g.O.Sink.taken c.args.out.now) (g.O.Sink.taken c.expand.new.out)) (sym c.in-Expand.is)
    (refl, says.0, says.1, says.2, says.3, says.4, says.5)

pub returns-in_err-expand-in-Expand-clause-stops : goal.returns-in_err-expand-in-Expand-clause-stops
returns-in_err-expand-in-Expand-clause-stops g c =
    let p = err_from_is_err_and c.from_residual.result c.from_residual.ensures.1 in
    err_is _ c.from_residual.result _ (p.1 ∙ ap Err p.2)
    (subst (λ (asked : Asked). Stops (asked_seen asked) (fed (g.I.Stream.tells c.args.input.now) (g.I.Stream.coming c.args.input.now) (g.I.Stream.coming c.args.input.now))
    (g.F.Files.tells c.args.files.now) (g.F.Files.held c.args.files.now)
    c.in_err-expand-in-Expand.field-0.0 (g.O.Sink.tells c.args.out.now) (g.O.Sink.taken c.args.out.now) (g.O.Sink.taken c.expand.new.out))
    (sym c.in-Expand.is) c.in_err-expand-in-Expand.ensures.stops)

pub returns-in-Page-clause-answers : goal.returns-in-Page-clause-answers
returns-in-Page-clause-answers g c =
    subst (λ (asked : Asked). IfOk c.do_page.result (λ status. Answers (asked_seen asked) (fed (g.I.Stream.tells c.args.input.now) (g.I.Stream.coming c.args.input.now) (g.I.Stream.coming c.args.input.now))
    (g.F.Files.tells c.args.files.now) (g.F.Files.held c.args.files.now)
    status (g.O.Sink.tells c.args.out.now) (g.O.Sink.taken c.args.out.now) (g.O.Sink.taken c.do_page.new.out))) (sym c.in-Page.is)
    c.do_page.ensures.answers

pub returns-in-Page-clause-stops : goal.returns-in-Page-clause-stops
returns-in-Page-clause-stops g c =
    subst (λ (asked : Asked). IfErr c.do_page.result (λ stop. Stops (asked_seen asked) (fed (g.I.Stream.tells c.args.input.now) (g.I.Stream.coming c.args.input.now) (g.I.Stream.coming c.args.input.now))
    (g.F.Files.tells c.args.files.now) (g.F.Files.held c.args.files.now)
    stop (g.O.Sink.tells c.args.out.now) (g.O.Sink.taken c.args.out.now) (g.O.Sink.taken c.do_page.new.out))) (sym c.in-Page.is)
    c.do_page.ensures.stops

pub returns-in-Page-clause-unread : goal.returns-in-Page-clause-unread
returns-in-Page-clause-unread g c = IfErr-weaker c.do_page.result _ _
    (λ stop is unread. let none : WriteFault ≡ ReadFault = sym (ap stop_status is.0) ∙ unread in cc) c.do_page.ensures.stops

pub returns-in-Test-clause-stops : goal.returns-in-Test-clause-stops
returns-in-Test-clause-stops g c =
    subst (λ (asked : Asked). IfErr c.do_test.result (λ stop. Stops (asked_seen asked) (fed (g.I.Stream.tells c.args.input.now) (g.I.Stream.coming c.args.input.now) (g.I.Stream.coming c.args.input.now))
    (g.F.Files.tells c.args.files.now) (g.F.Files.held c.args.files.now)
    stop (g.O.Sink.tells c.args.out.now) (g.O.Sink.taken c.args.out.now) (g.O.Sink.taken c.do_test.new.out))) (sym c.in-Test.is)
    (subst (λ (cases : List (Bor (List ℕ))). IfErr c.do_test.result (λ stop. StopsTesting (g.F.Files.tells c.args.files.now) (g.F.Files.held c.args.files.now)
    c.in-Test.app.now (seen cases) c.in-Test.format stop (g.O.Sink.tells c.args.out.now) (g.O.Sink.taken c.args.out.now) (g.O.Sink.taken c.do_test.new.out)))
    c.as_slice.ensures.value c.do_test.ensures.stops)

pub returns-in-Test-clause-unread : goal.returns-in-Test-clause-unread
returns-in-Test-clause-unread g c =
    subst (λ (asked : Asked). IfErr c.do_test.result (λ stop. IsUnread stop → IsUnreadBy (asked_seen asked)
    (g.F.Files.faults c.args.files.now) (g.F.Files.faults c.do_test.new.files) (g.I.Stream.faults c.args.input.now) (g.I.Stream.faults c.args.input.now))) (sym c.in-Test.is)
    (subst (λ (cases : List (Bor (List ℕ))). IfErr c.do_test.result (λ stop. IsUnread stop → Any (λ (name : List ℕ).
    Rose (g.F.Files.faults c.args.files.now name) (g.F.Files.faults c.do_test.new.files name)) (c.in-Test.app.now ∷ seen cases)))
    c.as_slice.ensures.value c.do_test.ensures.unread)

pub returns-in-Watch-clause-answers : goal.returns-in-Watch-clause-answers
returns-in-Watch-clause-answers g c =
    subst (λ (asked : Asked). IfOk c.watch.result (λ status. Answers (asked_seen asked) (fed (g.I.Stream.tells c.args.input.now) (g.I.Stream.coming c.args.input.now) (g.I.Stream.coming c.args.input.now))
    (g.F.Files.tells c.args.files.now) (g.F.Files.held c.args.files.now)
    status (g.O.Sink.tells c.args.out.now) (g.O.Sink.taken c.args.out.now) (g.O.Sink.taken c.watch.new.out))) (sym c.in-Watch.is)
    (subst (λ (names : List (Bor (List ℕ))). IfOk c.watch.result (λ status. AnswersWatch c.in-Watch.app.now c.in-Watch.layout
    (wanted_of c.in-Watch.trace.now (seen names) (option_map (λ (name : Bor (List ℕ)). name.now) c.in-Watch.faults)) (g.F.Files.tells c.args.files.now) (g.F.Files.held c.args.files.now)
    (g.O.Sink.tells c.args.out.now) (g.O.Sink.taken c.args.out.now) (g.O.Sink.taken c.watch.new.out) status))
    c.as_slice-in-Watch.ensures.value c.watch.ensures.answers)

pub returns-in-Watch-clause-stops : goal.returns-in-Watch-clause-stops
returns-in-Watch-clause-stops g c =
    subst (λ (asked : Asked). IfErr c.watch.result (λ stop. Stops (asked_seen asked) (fed (g.I.Stream.tells c.args.input.now) (g.I.Stream.coming c.args.input.now) (g.I.Stream.coming c.args.input.now))
    (g.F.Files.tells c.args.files.now) (g.F.Files.held c.args.files.now)
    stop (g.O.Sink.tells c.args.out.now) (g.O.Sink.taken c.args.out.now) (g.O.Sink.taken c.watch.new.out))) (sym c.in-Watch.is)
    (subst (λ (names : List (Bor (List ℕ))). IfErr c.watch.result (λ stop. StopsWatch c.in-Watch.app.now c.in-Watch.layout
    (wanted_of c.in-Watch.trace.now (seen names) (option_map (λ (name : Bor (List ℕ)). name.now) c.in-Watch.faults)) (g.F.Files.tells c.args.files.now) (g.F.Files.held c.args.files.now)
    (g.O.Sink.tells c.args.out.now) (g.O.Sink.taken c.args.out.now) (g.O.Sink.taken c.watch.new.out) stop))
    c.as_slice-in-Watch.ensures.value c.watch.ensures.stops)

pub returns-in-Watch-clause-unread : goal.returns-in-Watch-clause-unread
returns-in-Watch-clause-unread g c =
    subst (λ (asked : Asked). IfErr c.watch.result (λ stop. IsUnread stop → IsUnreadBy (asked_seen asked)
    (g.F.Files.faults c.args.files.now) (g.F.Files.faults c.watch.new.files) (g.I.Stream.faults c.args.input.now) (g.I.Stream.faults c.args.input.now))) (sym c.in-Watch.is)
    (IfErr-weaker c.watch.result _ _ (λ stop unread is. risen_any c.in-Watch.app.now (file_meant c.in-Watch.trace.now)
    (option_map (λ (name : Bor (List ℕ)). name.now) c.in-Watch.faults) (g.F.Files.faults c.args.files.now) (g.F.Files.faults c.watch.new.files) (unread is))
    c.watch.ensures.unread)

pub returns-in-Never-clause-answers : goal.returns-in-Never-clause-answers
returns-in-Never-clause-answers g c =
    subst (λ (asked : Asked). IfOk c.never.result (λ status. Answers (asked_seen asked) (fed (g.I.Stream.tells c.args.input.now) (g.I.Stream.coming c.args.input.now) (g.I.Stream.coming c.args.input.now))
    (g.F.Files.tells c.args.files.now) (g.F.Files.held c.args.files.now)
    status (g.O.Sink.tells c.args.out.now) (g.O.Sink.taken c.args.out.now) (g.O.Sink.taken c.never.new.out))) (sym c.in-Never.is) c.never.ensures.answers

pub returns-in-Never-clause-stops : goal.returns-in-Never-clause-stops
returns-in-Never-clause-stops g c =
    subst (λ (asked : Asked). IfErr c.never.result (λ stop. Stops (asked_seen asked) (fed (g.I.Stream.tells c.args.input.now) (g.I.Stream.coming c.args.input.now) (g.I.Stream.coming c.args.input.now))
    (g.F.Files.tells c.args.files.now) (g.F.Files.held c.args.files.now)
    stop (g.O.Sink.tells c.args.out.now) (g.O.Sink.taken c.args.out.now) (g.O.Sink.taken c.never.new.out))) (sym c.in-Never.is) c.never.ensures.stops

pub returns-in-Never-clause-unread : goal.returns-in-Never-clause-unread
returns-in-Never-clause-unread g c =
    subst (λ (asked : Asked). IfErr c.never.result (λ stop. IsUnread stop → IsUnreadBy (asked_seen asked)
    (g.F.Files.faults c.args.files.now) (g.F.Files.faults c.never.new.files) (g.I.Stream.faults c.args.input.now) (g.I.Stream.faults c.args.input.now))) (sym c.in-Never.is)
    c.never.ensures.unread

pub returns-in-Trace-clause-answers : goal.returns-in-Trace-clause-answers
returns-in-Trace-clause-answers g c =
    subst (λ (asked : Asked). IfOk c.do_trace.result (λ status. Answers (asked_seen asked) (fed (g.I.Stream.tells c.args.input.now) (g.I.Stream.coming c.args.input.now) (g.I.Stream.coming c.args.input.now))
    (g.F.Files.tells c.args.files.now) (g.F.Files.held c.args.files.now)
    status (g.O.Sink.tells c.args.out.now) (g.O.Sink.taken c.args.out.now) (g.O.Sink.taken c.do_trace.new.out))) (sym c.in-Trace.is) c.do_trace.ensures.answers

pub returns-in-Trace-clause-stops : goal.returns-in-Trace-clause-stops
returns-in-Trace-clause-stops g c =
    subst (λ (asked : Asked). IfErr c.do_trace.result (λ stop. Stops (asked_seen asked) (fed (g.I.Stream.tells c.args.input.now) (g.I.Stream.coming c.args.input.now) (g.I.Stream.coming c.args.input.now))
    (g.F.Files.tells c.args.files.now) (g.F.Files.held c.args.files.now)
    stop (g.O.Sink.tells c.args.out.now) (g.O.Sink.taken c.args.out.now) (g.O.Sink.taken c.do_trace.new.out))) (sym c.in-Trace.is) c.do_trace.ensures.stops

pub returns-in-Trace-clause-unread : goal.returns-in-Trace-clause-unread
returns-in-Trace-clause-unread g c =
    subst (λ (asked : Asked). IfErr c.do_trace.result (λ stop. IsUnread stop → IsUnreadBy (asked_seen asked)
    (g.F.Files.faults c.args.files.now) (g.F.Files.faults c.do_trace.new.files) (g.I.Stream.faults c.args.input.now) (g.I.Stream.faults c.args.input.now))) (sym c.in-Trace.is)
    c.do_trace.ensures.unread

pub returns-in-Cover-clause-answers : goal.returns-in-Cover-clause-answers
returns-in-Cover-clause-answers g c =
    subst (λ (asked : Asked). IfOk c.do_cover.result (λ status. Answers (asked_seen asked) (fed (g.I.Stream.tells c.args.input.now) (g.I.Stream.coming c.args.input.now) (g.I.Stream.coming c.args.input.now))
    (g.F.Files.tells c.args.files.now) (g.F.Files.held c.args.files.now)
    status (g.O.Sink.tells c.args.out.now) (g.O.Sink.taken c.args.out.now) (g.O.Sink.taken c.do_cover.new.out))) (sym c.in-Cover.is)
    (subst (λ (traces : List (Bor (List ℕ))). IfOk c.do_cover.result (λ status. AnswersCover c.in-Cover.app.now
    (covered_of (seen traces) c.in-Cover.output c.in-Cover.least c.in-Cover.ideas) (g.F.Files.tells c.args.files.now) (g.F.Files.held c.args.files.now)
    (g.O.Sink.tells c.args.out.now) (g.O.Sink.taken c.args.out.now) (g.O.Sink.taken c.do_cover.new.out) status))
    c.as_slice-in-Cover.ensures.value c.do_cover.ensures.answers)

pub returns-in-Cover-clause-stops : goal.returns-in-Cover-clause-stops
returns-in-Cover-clause-stops g c =
    subst (λ (asked : Asked). IfErr c.do_cover.result (λ stop. Stops (asked_seen asked) (fed (g.I.Stream.tells c.args.input.now) (g.I.Stream.coming c.args.input.now) (g.I.Stream.coming c.args.input.now))
    (g.F.Files.tells c.args.files.now) (g.F.Files.held c.args.files.now)
    stop (g.O.Sink.tells c.args.out.now) (g.O.Sink.taken c.args.out.now) (g.O.Sink.taken c.do_cover.new.out))) (sym c.in-Cover.is)
    (subst (λ (traces : List (Bor (List ℕ))). IfErr c.do_cover.result (λ stop. StopsCover c.in-Cover.app.now
    (covered_of (seen traces) c.in-Cover.output c.in-Cover.least c.in-Cover.ideas) (g.F.Files.tells c.args.files.now) (g.F.Files.held c.args.files.now)
    (g.O.Sink.tells c.args.out.now) (g.O.Sink.taken c.args.out.now) (g.O.Sink.taken c.do_cover.new.out) stop))
    c.as_slice-in-Cover.ensures.value c.do_cover.ensures.stops)

pub returns-in-Cover-clause-unread : goal.returns-in-Cover-clause-unread
returns-in-Cover-clause-unread g c =
    let slice = c.as_slice-in-Cover.result.now in
    subst (λ (asked : Asked). IfErr c.do_cover.result (λ stop. IsUnread stop → IsUnreadBy (asked_seen asked)
    (g.F.Files.faults c.args.files.now) (g.F.Files.faults c.do_cover.new.files) (g.I.Stream.faults c.args.input.now) (g.I.Stream.faults c.args.input.now))) (sym c.in-Cover.is)
    (subst (λ (traces : List (Bor (List ℕ))). IfErr c.do_cover.result (λ stop. IsUnread stop → Any (λ (name : List ℕ).
    Rose (g.F.Files.faults c.args.files.now name) (g.F.Files.faults c.do_cover.new.files name))
    (c.in-Cover.app.now ∷ map file_meant (seen traces))))
    c.as_slice-in-Cover.ensures.value
    (subst (λ (names : List (List ℕ)). IfErr c.do_cover.result (λ stop. IsUnread stop → Any (λ (name : List ℕ).
    Rose (g.F.Files.faults c.args.files.now name) (g.F.Files.faults c.do_cover.new.files name)) (c.in-Cover.app.now ∷ names)))
    (sym (map-map file_meant (λ (word : Bor (List ℕ)). word.now) slice)) c.do_cover.ensures.unread))

pub returns-in-Why-clause-answers : goal.returns-in-Why-clause-answers
returns-in-Why-clause-answers g c =
    subst (λ (asked : Asked). IfOk c.why.result (λ status. Answers (asked_seen asked) (fed (g.I.Stream.tells c.args.input.now) (g.I.Stream.coming c.args.input.now) (g.I.Stream.coming c.args.input.now))
    (g.F.Files.tells c.args.files.now) (g.F.Files.held c.args.files.now)
    status (g.O.Sink.tells c.args.out.now) (g.O.Sink.taken c.args.out.now) (g.O.Sink.taken c.why.new.out))) (sym c.in-Why.is)
    c.why.ensures.answers

pub returns-in-Why-clause-stops : goal.returns-in-Why-clause-stops
returns-in-Why-clause-stops g c =
    subst (λ (asked : Asked). IfErr c.why.result (λ stop. Stops (asked_seen asked) (fed (g.I.Stream.tells c.args.input.now) (g.I.Stream.coming c.args.input.now) (g.I.Stream.coming c.args.input.now))
    (g.F.Files.tells c.args.files.now) (g.F.Files.held c.args.files.now)
    stop (g.O.Sink.tells c.args.out.now) (g.O.Sink.taken c.args.out.now) (g.O.Sink.taken c.why.new.out))) (sym c.in-Why.is)
    c.why.ensures.stops

pub returns-in-Same-clause-answers : goal.returns-in-Same-clause-answers
returns-in-Same-clause-answers g c =
    subst (λ (asked : Asked). IfOk c.do_same.result (λ status. Answers (asked_seen asked) (fed (g.I.Stream.tells c.args.input.now) (g.I.Stream.coming c.args.input.now) (g.I.Stream.coming c.args.input.now))
    (g.F.Files.tells c.args.files.now) (g.F.Files.held c.args.files.now)
    status (g.O.Sink.tells c.args.out.now) (g.O.Sink.taken c.args.out.now) (g.O.Sink.taken c.do_same.new.out))) (sym c.in-Same.is)
    c.do_same.ensures.answers

pub returns-in-Same-clause-stops : goal.returns-in-Same-clause-stops
returns-in-Same-clause-stops g c =
    subst (λ (asked : Asked). IfErr c.do_same.result (λ stop. Stops (asked_seen asked) (fed (g.I.Stream.tells c.args.input.now) (g.I.Stream.coming c.args.input.now) (g.I.Stream.coming c.args.input.now))
    (g.F.Files.tells c.args.files.now) (g.F.Files.held c.args.files.now)
    stop (g.O.Sink.tells c.args.out.now) (g.O.Sink.taken c.args.out.now) (g.O.Sink.taken c.do_same.new.out))) (sym c.in-Same.is)
    c.do_same.ensures.stops

pub returns-in-Campaign-clause-answers : goal.returns-in-Campaign-clause-answers
returns-in-Campaign-clause-answers g c =
    subst (λ (asked : Asked). IfOk c.campaign.result (λ status. Answers (asked_seen asked) (fed (g.I.Stream.tells c.args.input.now) (g.I.Stream.coming c.args.input.now) (g.I.Stream.coming c.args.input.now))
    (g.F.Files.tells c.args.files.now) (g.F.Files.held c.args.files.now)
    status (g.O.Sink.tells c.args.out.now) (g.O.Sink.taken c.args.out.now) (g.O.Sink.taken c.campaign.new.out))) (sym c.in-Campaign.is)
    c.campaign.ensures.answers

pub returns-in-Campaign-clause-stops : goal.returns-in-Campaign-clause-stops
returns-in-Campaign-clause-stops g c =
    subst (λ (asked : Asked). IfErr c.campaign.result (λ stop. Stops (asked_seen asked) (fed (g.I.Stream.tells c.args.input.now) (g.I.Stream.coming c.args.input.now) (g.I.Stream.coming c.args.input.now))
    (g.F.Files.tells c.args.files.now) (g.F.Files.held c.args.files.now)
    stop (g.O.Sink.tells c.args.out.now) (g.O.Sink.taken c.args.out.now) (g.O.Sink.taken c.campaign.new.out))) (sym c.in-Campaign.is)
    c.campaign.ensures.stops

pub returns-in-Live-clause-answers : goal.returns-in-Live-clause-answers
returns-in-Live-clause-answers g c =
    subst (λ (asked : Asked). IfOk c.live.result (λ status. Answers (asked_seen asked)
    (fed (g.I.Stream.tells c.args.input.now) (g.I.Stream.coming c.args.input.now) (g.I.Stream.coming c.live.new.input))
    (g.F.Files.tells c.args.files.now) (g.F.Files.held c.args.files.now)
    status (g.O.Sink.tells c.args.out.now) (g.O.Sink.taken c.args.out.now) (g.O.Sink.taken c.live.new.out))) (sym c.in-Live.is)
    c.live.ensures.answers

pub returns-in-Live-clause-stops : goal.returns-in-Live-clause-stops
returns-in-Live-clause-stops g c =
    subst (λ (asked : Asked). IfErr c.live.result (λ stop. Stops (asked_seen asked)
    (fed (g.I.Stream.tells c.args.input.now) (g.I.Stream.coming c.args.input.now) (g.I.Stream.coming c.live.new.input))
    (g.F.Files.tells c.args.files.now) (g.F.Files.held c.args.files.now)
    stop (g.O.Sink.tells c.args.out.now) (g.O.Sink.taken c.args.out.now) (g.O.Sink.taken c.live.new.out))) (sym c.in-Live.is)
    c.live.ensures.stops

pub returns-in-Live-clause-unread : goal.returns-in-Live-clause-unread
returns-in-Live-clause-unread g c =
    subst (λ (asked : Asked). IfErr c.live.result (λ stop. IsUnread stop → IsUnreadBy (asked_seen asked)
    (g.F.Files.faults c.args.files.now) (g.F.Files.faults c.live.new.files) (g.I.Stream.faults c.args.input.now) (g.I.Stream.faults c.live.new.input)))
    (sym c.in-Live.is) c.live.ensures.unread

pub returns-in-Report-clause-answers : goal.returns-in-Report-clause-answers
returns-in-Report-clause-answers g c =
    subst (λ (asked : Asked). IfOk c.report.result (λ status. Answers (asked_seen asked) (fed (g.I.Stream.tells c.args.input.now) (g.I.Stream.coming c.args.input.now) (g.I.Stream.coming c.args.input.now))
    (g.F.Files.tells c.args.files.now) (g.F.Files.held c.args.files.now)
    status (g.O.Sink.tells c.args.out.now) (g.O.Sink.taken c.args.out.now) (g.O.Sink.taken c.report.new.out))) (sym c.in-Report.is)
    (subst (λ (cases : List (Bor (List ℕ))). IfOk c.report.result (λ status. AnswersReport (reported_of c.in-Report.app.now (seen cases) (option_map (λ (text : Bor (List ℕ)). text.now) c.in-Report.title)) (g.F.Files.tells c.args.files.now) (g.F.Files.held c.args.files.now)
    (g.O.Sink.tells c.args.out.now) (g.O.Sink.taken c.args.out.now) (g.O.Sink.taken c.report.new.out) status))
    c.as_slice-in-Report.ensures.value c.report.ensures.answers)

pub returns-in-Report-clause-stops : goal.returns-in-Report-clause-stops
returns-in-Report-clause-stops g c =
    subst (λ (asked : Asked). IfErr c.report.result (λ stop. Stops (asked_seen asked) (fed (g.I.Stream.tells c.args.input.now) (g.I.Stream.coming c.args.input.now) (g.I.Stream.coming c.args.input.now))
    (g.F.Files.tells c.args.files.now) (g.F.Files.held c.args.files.now)
    stop (g.O.Sink.tells c.args.out.now) (g.O.Sink.taken c.args.out.now) (g.O.Sink.taken c.report.new.out))) (sym c.in-Report.is)
    (subst (λ (cases : List (Bor (List ℕ))). IfErr c.report.result (λ stop. StopsReport (reported_of c.in-Report.app.now (seen cases) (option_map (λ (text : Bor (List ℕ)). text.now) c.in-Report.title)) (g.F.Files.tells c.args.files.now) (g.F.Files.held c.args.files.now)
    (g.O.Sink.tells c.args.out.now) (g.O.Sink.taken c.args.out.now) (g.O.Sink.taken c.report.new.out) stop))
    c.as_slice-in-Report.ensures.value c.report.ensures.stops)

pub returns-in-Report-clause-unread : goal.returns-in-Report-clause-unread
returns-in-Report-clause-unread g c =
    subst (λ (asked : Asked). IfErr c.report.result (λ stop. IsUnread stop → IsUnreadBy (asked_seen asked)
    (g.F.Files.faults c.args.files.now) (g.F.Files.faults c.report.new.files) (g.I.Stream.faults c.args.input.now) (g.I.Stream.faults c.args.input.now))) (sym c.in-Report.is)
    (subst (λ (cases : List (Bor (List ℕ))). IfErr c.report.result (λ stop. IsUnread stop → Any (λ (name : List ℕ).
    Rose (g.F.Files.faults c.args.files.now name) (g.F.Files.faults c.report.new.files name)) (c.in-Report.app.now ∷ seen cases)))
    c.as_slice-in-Report.ensures.value c.report.ensures.unread)

pub returns-in-Sum-clause-answers : goal.returns-in-Sum-clause-answers
returns-in-Sum-clause-answers g c =
    subst (λ (asked : Asked). IfOk c.sum.result (λ status. Answers (asked_seen asked) (fed (g.I.Stream.tells c.args.input.now) (g.I.Stream.coming c.args.input.now) (g.I.Stream.coming c.args.input.now))
    (g.F.Files.tells c.args.files.now) (g.F.Files.held c.args.files.now)
    status (g.O.Sink.tells c.args.out.now) (g.O.Sink.taken c.args.out.now) (g.O.Sink.taken c.sum.new.out))) (sym c.in-Sum.is)
    (subst (λ (names : List (Bor (List ℕ))). IfOk c.sum.result (λ status. AnswersSum (seen names) (g.F.Files.tells c.args.files.now) (g.F.Files.held c.args.files.now)
    (g.O.Sink.tells c.args.out.now) (g.O.Sink.taken c.args.out.now) (g.O.Sink.taken c.sum.new.out) status))
    c.as_slice-in-Sum.ensures.value c.sum.ensures.answers)

pub returns-in-Sum-clause-stops : goal.returns-in-Sum-clause-stops
returns-in-Sum-clause-stops g c =
    subst (λ (asked : Asked). IfErr c.sum.result (λ stop. Stops (asked_seen asked) (fed (g.I.Stream.tells c.args.input.now) (g.I.Stream.coming c.args.input.now) (g.I.Stream.coming c.args.input.now))
    (g.F.Files.tells c.args.files.now) (g.F.Files.held c.args.files.now)
    stop (g.O.Sink.tells c.args.out.now) (g.O.Sink.taken c.args.out.now) (g.O.Sink.taken c.sum.new.out))) (sym c.in-Sum.is)
    (subst (λ (names : List (Bor (List ℕ))). IfErr c.sum.result (λ stop. StopsSum (seen names) (g.F.Files.tells c.args.files.now) (g.F.Files.held c.args.files.now)
    (g.O.Sink.tells c.args.out.now) (g.O.Sink.taken c.args.out.now) (g.O.Sink.taken c.sum.new.out) stop))
    c.as_slice-in-Sum.ensures.value c.sum.ensures.stops)

pub returns-in-Sum-clause-unread : goal.returns-in-Sum-clause-unread
returns-in-Sum-clause-unread g c =
    subst (λ (asked : Asked). IfErr c.sum.result (λ stop. IsUnread stop → IsUnreadBy (asked_seen asked)
    (g.F.Files.faults c.args.files.now) (g.F.Files.faults c.sum.new.files) (g.I.Stream.faults c.args.input.now) (g.I.Stream.faults c.args.input.now))) (sym c.in-Sum.is)
    (subst (λ (names : List (Bor (List ℕ))). IfErr c.sum.result (λ stop. IsUnread stop → Any (λ (name : List ℕ).
    Rose (g.F.Files.faults c.args.files.now name) (g.F.Files.faults c.sum.new.files name)) (seen names)))
    c.as_slice-in-Sum.ensures.value c.sum.ensures.unread)

pub returns-in-Watch-clause-hears : goal.returns-in-Watch-clause-hears
returns-in-Watch-clause-hears g c = λ tells.
    subst (λ (asked : Asked). HearsMeanwhile (asked_seen asked) (g.F.Files.tells c.args.files.now) (g.F.Files.held c.args.files.now) c.watch.result
    (listener_seen g.L.Listener.quiet g.L.Listener.heard g.L.KnownListener.reads g.L.KnownListener.unread g.L.KnownListener.room c.args.listener.now)
    (g.L.Listener.heard c.watch.new.listener)) (sym c.in-Watch.is)
    (subst (λ (names : List (Bor (List ℕ))). HearsWatch c.in-Watch.app.now
    (wanted_of c.in-Watch.trace.now (seen names) (option_map (λ (name : Bor (List ℕ)). name.now) c.in-Watch.faults))
    (g.F.Files.tells c.args.files.now) (g.F.Files.held c.args.files.now) c.watch.result
    (listener_seen g.L.Listener.quiet g.L.Listener.heard g.L.KnownListener.reads g.L.KnownListener.unread g.L.KnownListener.room c.args.listener.now)
    (g.L.Listener.heard c.watch.new.listener)) c.as_slice-in-Watch.ensures.value (c.watch.ensures.told tells))

pub returns-in-Why-clause-hears : goal.returns-in-Why-clause-hears
returns-in-Why-clause-hears g c = λ tells.
    subst (λ (asked : Asked). HearsMeanwhile (asked_seen asked) (g.F.Files.tells c.args.files.now) (g.F.Files.held c.args.files.now) c.why.result
    (listener_seen g.L.Listener.quiet g.L.Listener.heard g.L.KnownListener.reads g.L.KnownListener.unread g.L.KnownListener.room c.args.listener.now)
    (g.L.Listener.heard c.why.new.listener)) (sym c.in-Why.is)
    (c.why.ensures.told tells)

pub returns-in-Campaign-clause-hears : goal.returns-in-Campaign-clause-hears
returns-in-Campaign-clause-hears g c = λ tells.
    subst (λ (asked : Asked). HearsMeanwhile (asked_seen asked) (g.F.Files.tells c.args.files.now) (g.F.Files.held c.args.files.now) c.campaign.result
    (listener_seen g.L.Listener.quiet g.L.Listener.heard g.L.KnownListener.reads g.L.KnownListener.unread g.L.KnownListener.room c.args.listener.now)
    (g.L.Listener.heard c.campaign.new.listener)) (sym c.in-Campaign.is)
    (c.campaign.ensures.told tells)

pub returns-in-Test-clause-hears : goal.returns-in-Test-clause-hears
returns-in-Test-clause-hears g c = λ tells.
    subst (λ (asked : Asked). HearsMeanwhile (asked_seen asked) (g.F.Files.tells c.args.files.now) (g.F.Files.held c.args.files.now) c.do_test.result
    (listener_seen g.L.Listener.quiet g.L.Listener.heard g.L.KnownListener.reads g.L.KnownListener.unread g.L.KnownListener.room c.args.listener.now)
    (g.L.Listener.heard c.do_test.new.listener)) (sym c.in-Test.is)
    (c.do_test.ensures.quiet tells)

pub returns-in-Cover-clause-hears : goal.returns-in-Cover-clause-hears
returns-in-Cover-clause-hears g c = λ tells.
    subst (λ (asked : Asked). HearsMeanwhile (asked_seen asked) (g.F.Files.tells c.args.files.now) (g.F.Files.held c.args.files.now) c.do_cover.result
    (listener_seen g.L.Listener.quiet g.L.Listener.heard g.L.KnownListener.reads g.L.KnownListener.unread g.L.KnownListener.room c.args.listener.now)
    (g.L.Listener.heard c.do_cover.new.listener)) (sym c.in-Cover.is)
    (c.do_cover.ensures.quiet tells)

pub returns-in-Same-clause-hears : goal.returns-in-Same-clause-hears
returns-in-Same-clause-hears g c = λ tells.
    subst (λ (asked : Asked). HearsMeanwhile (asked_seen asked) (g.F.Files.tells c.args.files.now) (g.F.Files.held c.args.files.now) c.do_same.result
    (listener_seen g.L.Listener.quiet g.L.Listener.heard g.L.KnownListener.reads g.L.KnownListener.unread g.L.KnownListener.room c.args.listener.now)
    (g.L.Listener.heard c.do_same.new.listener)) (sym c.in-Same.is)
    (c.do_same.ensures.quiet tells)

pub returns-in-Never-clause-hears : goal.returns-in-Never-clause-hears
returns-in-Never-clause-hears g c = λ tells.
    subst (λ (asked : Asked). HearsMeanwhile (asked_seen asked) (g.F.Files.tells c.args.files.now) (g.F.Files.held c.args.files.now) c.never.result
    (listener_seen g.L.Listener.quiet g.L.Listener.heard g.L.KnownListener.reads g.L.KnownListener.unread g.L.KnownListener.room c.args.listener.now)
    (g.L.Listener.heard c.args.listener.now)) (sym c.in-Never.is)
    refl

pub returns-in-Trace-clause-hears : goal.returns-in-Trace-clause-hears
returns-in-Trace-clause-hears g c = λ tells.
    subst (λ (asked : Asked). HearsMeanwhile (asked_seen asked) (g.F.Files.tells c.args.files.now) (g.F.Files.held c.args.files.now) c.do_trace.result
    (listener_seen g.L.Listener.quiet g.L.Listener.heard g.L.KnownListener.reads g.L.KnownListener.unread g.L.KnownListener.room c.args.listener.now)
    (g.L.Listener.heard c.args.listener.now)) (sym c.in-Trace.is)
    refl

pub returns-in-Sum-clause-hears : goal.returns-in-Sum-clause-hears
returns-in-Sum-clause-hears g c = λ tells.
    subst (λ (asked : Asked). HearsMeanwhile (asked_seen asked) (g.F.Files.tells c.args.files.now) (g.F.Files.held c.args.files.now) c.sum.result
    (listener_seen g.L.Listener.quiet g.L.Listener.heard g.L.KnownListener.reads g.L.KnownListener.unread g.L.KnownListener.room c.args.listener.now)
    (g.L.Listener.heard c.args.listener.now)) (sym c.in-Sum.is)
    refl

pub returns-in-Report-clause-hears : goal.returns-in-Report-clause-hears
returns-in-Report-clause-hears g c = λ tells.
    subst (λ (asked : Asked). HearsMeanwhile (asked_seen asked) (g.F.Files.tells c.args.files.now) (g.F.Files.held c.args.files.now) c.report.result
    (listener_seen g.L.Listener.quiet g.L.Listener.heard g.L.KnownListener.reads g.L.KnownListener.unread g.L.KnownListener.room c.args.listener.now)
    (g.L.Listener.heard c.args.listener.now)) (sym c.in-Report.is)
    refl

pub returns-in-Live-clause-hears : goal.returns-in-Live-clause-hears
returns-in-Live-clause-hears g c = λ tells.
    subst (λ (asked : Asked). HearsMeanwhile (asked_seen asked) (g.F.Files.tells c.args.files.now) (g.F.Files.held c.args.files.now) c.live.result
    (listener_seen g.L.Listener.quiet g.L.Listener.heard g.L.KnownListener.reads g.L.KnownListener.unread g.L.KnownListener.room c.args.listener.now)
    (g.L.Listener.heard c.args.listener.now)) (sym c.in-Live.is)
    refl

pub returns-in-Page-clause-hears : goal.returns-in-Page-clause-hears
returns-in-Page-clause-hears g c = λ tells.
    subst (λ (asked : Asked). HearsMeanwhile (asked_seen asked) (g.F.Files.tells c.args.files.now) (g.F.Files.held c.args.files.now) c.do_page.result
    (listener_seen g.L.Listener.quiet g.L.Listener.heard g.L.KnownListener.reads g.L.KnownListener.unread g.L.KnownListener.room c.args.listener.now)
    (g.L.Listener.heard c.args.listener.now)) (sym c.in-Page.is)
    refl

pub returns-in_ok-expand-in-Expand-clause-hears : goal.returns-in_ok-expand-in-Expand-clause-hears
returns-in_ok-expand-in-Expand-clause-hears g c = λ tells.
    subst (λ (asked : Asked). HearsMeanwhile (asked_seen asked) (g.F.Files.tells c.args.files.now) (g.F.Files.held c.args.files.now) (Ok Done)
    (listener_seen g.L.Listener.quiet g.L.Listener.heard g.L.KnownListener.reads g.L.KnownListener.unread g.L.KnownListener.room c.args.listener.now)
    (g.L.Listener.heard c.args.listener.now)) (sym c.in-Expand.is)
    refl

pub returns-in_err-expand-in-Expand-clause-hears : goal.returns-in_err-expand-in-Expand-clause-hears
returns-in_err-expand-in-Expand-clause-hears g c = λ tells.
    subst (λ (asked : Asked). HearsMeanwhile (asked_seen asked) (g.F.Files.tells c.args.files.now) (g.F.Files.held c.args.files.now) c.from_residual.result
    (listener_seen g.L.Listener.quiet g.L.Listener.heard g.L.KnownListener.reads g.L.KnownListener.unread g.L.KnownListener.room c.args.listener.now)
    (g.L.Listener.heard c.args.listener.now)) (sym c.in-Expand.is)
    refl

pub returns-in-NotTaken-clause-hears : goal.returns-in-NotTaken-clause-hears
returns-in-NotTaken-clause-hears g c = λ tells.
    subst (λ (asked : Asked). HearsMeanwhile (asked_seen asked) (g.F.Files.tells c.args.files.now) (g.F.Files.held c.args.files.now) (Ok Usage)
    (listener_seen g.L.Listener.quiet g.L.Listener.heard g.L.KnownListener.reads g.L.KnownListener.unread g.L.KnownListener.room c.args.listener.now)
    (g.L.Listener.heard c.args.listener.now)) (sym c.in-NotTaken.is)
    refl
