use Rattle.std.proofs.Common.{IsTrue, inl, inr, sym, subst}
use Rattle.ps_bench_frame.proofs.Leaving.{reads_after, stops_first, texts_stay}
use Rattle.ps_bench_frame.specs.Opening.{source_in}
use Rattle.ps_bench_frame.specs.Seen.{Texts}
use Rattle.ps_bench_frame.specs.Sourcing.{IsSourceOf}
use Rattle.ps_bench_cover.specs.Asking.{wanted_by}
use Rattle.ps_bench_cover.specs.Coming.{CoverOf}
use Rattle.ps_bench_cover.proofs.accounting.cover_in.Goals as goal

pub cover_app-requires-clause-source : goal.cover_app-requires-clause-source
cover_app-requires-clause-source g c =
    subst (λ (t : Texts). IsTrue t.tells → IsSourceOf t.held c.args.asked.now.app.now c.in-Ok.sourced.source)
    (sym (texts_stay (g.C.Call.seen c.args.call.now) _ c.in-Ok.ensures.reads.quiet)) c.in-Ok.ensures.opens.1

pub returns-in-Ok : goal.returns-in-Ok
returns-in-Ok g c =
    let app = c.args.asked.now.app.now in
    let opened = c.in-Ok.sourced.opened in
    let first = g.C.Call.seen c.args.call.now in
    let mid = g.C.Call.seen c.open_sourced.new.self in
    record {
      comes = inr (
        opened.app,
        opened.sizes,
        c.in-Ok.ensures.opens.0,
        subst (λ (t : Texts). CoverOf (source_in opened.app opened.sizes t) app (wanted_by c.args.asked.now) c.cover_app.result)
            (texts_stay first mid c.in-Ok.ensures.reads.quiet) c.cover_app.ensures.comes,
      );
      reads = reads_after app _ first mid _ c.cover_app.result c.in-Ok.ensures.reads.quiet c.cover_app.ensures.reads;
    }

pub returns-in-Err : goal.returns-in-Err
returns-in-Err g c = record {
  comes = inl c.in-Err.ensures.opens;
  reads = record { quiet = c.in-Err.ensures.reads.quiet; stops = stops_first c.args.asked.now.app.now _ _ _ c.in-Err.stop c.in-Err.ensures.reads.stops };
}
