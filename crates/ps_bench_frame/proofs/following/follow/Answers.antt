use Rattle.std.proofs.Common.{◌≡◌, ◌≤◌, ◌∙◌, ℕ, List, IsTrue, Option, Result, Ok, Err, refl, sym, ap, subst, arith}
use Rattle.ps_accepted.proofs.Sourced.{some_of}
use Rattle.ps_outside.specs.Outside.{Rose}
use Rattle.ps_outside.specs.declared.text_fail.TextFail.{TextFail}
use Rattle.ps_outside.specs.declared.text_fail.TextFail.TheVariants as text_fail
use Rattle.ps_runs.specs.declared.items.Cut.TheVariants as cut
use Rattle.ps_trace.specs.Reading.{IsRead, items_left, last_of}
use Rattle.ps_trace.specs.Scans.{scans_behind}
use Rattle.ps_bench_frame.proofs.Followed.{cut_no_write, cut_of_run, cut_refused, cut_unread, followed, headless, never_rose, no_trace_no_write, no_trace_of_run, no_trace_refused, no_trace_unread}
use Rattle.ps_bench_frame.proofs.Stopped.{rose_since}
use Rattle.ps_bench_frame.specs.Ending.{IsOfRun, IsUnread}
use Rattle.ps_bench_frame.specs.Seen.{KeepsFiles, files_seen}
use Rattle.ps_bench_frame.specs.declared.ending.Stop.{Stop}
use Rattle.ps_bench_frame.specs.declared.ending.Stop.TheVariants.{Unwritten}
use Rattle.ps_bench_frame.proofs.following.follow.Goals as goal

pub do_items-requires-clause-due : goal.do_items-requires-clause-due
do_items-requires-clause-due g c = let first = c.requires.first in omega (arith, first)

pub returns-in-Err : goal.returns-in-Err
returns-in-Err g c =
    let held = g.F.Files.held c.args.files.now c.args.name.now in
    let why = c.in-Err.why in
    let is_stop = c.no_trace.ensures in
    record {
      follows = λ tells refusal is.
          let why_is = no_trace_refused why refusal (sym is_stop ∙ is) in
          let started : c.start.result ≡ Err (text_fail.Refused refusal) = c.in-Err.is ∙ ap Err why_is in
          let text = some_of held (c.start.ensures.found tells (subst IsRead (sym started) tt)) in
          headless _ _ _ c.args.app.now held text.0 c.args.runner.now.performer c.args.runner.now.taker refusal text.1
          (ap scans_behind (c.start.ensures.refuses tells text.0 text.1 refusal started));
      of_run = subst IsOfRun (sym is_stop) (no_trace_of_run why);
      no_write = λ is. no_trace_no_write why (sym is_stop ∙ is);
      unread = λ is.
          let why_is = no_trace_unread why (subst IsUnread is_stop is) in
          c.start.ensures.fault (c.in-Err.is ∙ ap Err why_is);
      keeps = record { counts = c.start.ensures.counts; held = c.start.ensures.kept; telling = c.start.ensures.telling };
    }

pub returns-in-Ok-do_items : goal.returns-in-Ok-do_items
returns-in-Ok-do_items g c =
    let held = g.F.Files.held c.args.files.now c.args.name.now in
    let begun = c.in-Ok.ensures in
    record {
      follows = λ tells.
          let text = some_of held (begun.found tells tt) in
          let there = subst IsTrue (sym begun.telling) tells in
          let kept = (λ i. begun.kept i (begun.name i)) ∙ text.1 in
          let does = c.do_items.ensures.does there text.0 kept (begun.reads tells text.0 text.1) in
          followed _ _ _ c.args.app.now held text.0 (last_of c.in-Ok.trace) (items_left c.in-Ok.trace text.0) c.args.runner.now.performer c.do_items.new.runner.performer
          c.args.runner.now.taker c.do_items.new.runner.taker does.bytes c.do_items.result (Ok tt) text.1 begun.fresh (begun.begins tells text.0 text.1) c.in-Ok-do_items.is does.did;
      of_run = tt;
      no_write = tt;
      unread = tt;
      keeps = record {
        counts = λ name. omega (arith, begun.counts name, c.do_items.ensures.failures.reads_rise name);
        held = c.do_items.ensures.kept ∙ begun.kept;
        telling = c.do_items.ensures.files_telling ∙ begun.telling;
      };
    }

pub returns : goal.returns
returns g c =
    let name = c.args.name.now in
    let held = g.F.Files.held c.args.files.now name in
    let begun = c.in-Ok.ensures in
    let why = c.in-Err-do_items.cut in
    let is_stop = c.cut_short.ensures in
    let fails = c.do_items.ensures.failures in
    record {
      follows = λ tells refusal is.
          let why_is = cut_refused why refusal (sym is_stop ∙ is) in
          let text = some_of held (begun.found tells tt) in
          let there = subst IsTrue (sym begun.telling) tells in
          let kept = (λ i. begun.kept i (begun.name i)) ∙ text.1 in
          let does = c.do_items.ensures.does there text.0 kept (begun.reads tells text.0 text.1) in
          followed _ _ _ c.args.app.now held text.0 (last_of c.in-Ok.trace) (items_left c.in-Ok.trace text.0) c.args.runner.now.performer c.do_items.new.runner.performer
          c.args.runner.now.taker c.do_items.new.runner.taker does.bytes c.do_items.result (Err (cut.Refused refusal)) text.1 begun.fresh (begun.begins tells text.0 text.1)
          (c.in-Err-do_items.is ∙ ap Err why_is) does.did;
      of_run = subst IsOfRun (sym is_stop) (cut_of_run why);
      no_write = λ is. never_rose (fails.unwritten (c.in-Err-do_items.is ∙ ap Err (cut_no_write why (sym is_stop ∙ is))));
      unread = λ is.
          let why_is = cut_unread why (subst IsUnread is_stop is) in
          let rose = fails.unread (c.in-Err-do_items.is ∙ ap Err why_is) in
          rose_since (g.F.Files.faults c.args.files.now name) (g.F.Files.faults c.start.new.files name) (g.F.Files.faults c.do_items.new.files name) (begun.counts name)
          (subst (λ (file : List ℕ). Rose (g.F.Files.faults c.start.new.files file) (g.F.Files.faults c.do_items.new.files file)) begun.name rose);
      keeps = record {
        counts = λ other. omega (arith, begun.counts other, fails.reads_rise other);
        held = c.do_items.ensures.kept ∙ begun.kept;
        telling = c.do_items.ensures.files_telling ∙ begun.telling;
      };
    }
