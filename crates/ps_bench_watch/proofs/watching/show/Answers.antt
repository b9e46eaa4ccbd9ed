use Rattle.std.proofs.Common.{◌∙◌, ◌++◌, IsTrue, List, ℕ, take, refl, sym, ap, subst, append_assoc}
use Rattle.ps_top.specs.Program.{end_line}
use Rattle.ps_bench_waves.proofs.Seeing.{lines_behind, part_begins}
use Rattle.ps_bench_watch.specs.Asking.{body_in, head_in, seen_of_run}
use Rattle.ps_trace.specs.Reading.{items_left}
use Rattle.ps_bench_watch.proofs.WatchEnding.{three_pieces}
use Rattle.ps_bench_watch.proofs.watching.show.Goals as goal

pub returns-in-Err-clause-shows : goal.returns-in-Err-clause-shows
returns-in-Err-clause-shows g c = λ tells text held reading layout run prepared.
    let net = c.args.app.now in
    let scans = items_left c.args.trace.now text in
    let head = head_in net layout run.names in
    let n = c.in-Err.field-0.taken in
    record {
      bytes = take n head;
      written = λ tell. c.in-Err.ensures.part tell
          ∙ ap (λ (piece : List ℕ). g.O.Sink.taken c.args.out.now ++ take n piece) (c.as_slice.ensures ∙ prepared.head);
      ends = λ ws means.
          let body = body_in net layout run.names scans.items (seen_of_run net run scans.items ws) in
          part_begins ((head ++ body) ++ end_line scans.end) head (body ++ end_line scans.end) n
          (sym (append_assoc head body (end_line scans.end)));
    }

pub returns-in-Ok-clause-shows : goal.returns-in-Ok-clause-shows
returns-in-Ok-clause-shows g c = λ tells text held reading layout run prepared.
    let net = c.args.app.now in
    let scans = items_left c.args.trace.now text in
    let head = head_in net layout run.names in
    let plays = c.play-ran.ensures.plays tells text held reading layout run prepared.player prepared.setup prepared.faults in
    let ends = c.ended.ensures.ends in
    record {
      bytes = (head ++ plays.bytes) ++ ends.more;
      written = λ tell.
          let tell1 = subst IsTrue (sym c.in-Ok.ensures.telling) tell in
          let tell2 = subst IsTrue (sym c.play-ran.ensures.telling) tell1 in
          three_pieces _ _ _ _ head plays.bytes ends.more
          (c.in-Ok.ensures.whole tell
          ∙ ap (λ (piece : List ℕ). g.O.Sink.taken c.args.out.now ++ piece) (c.as_slice.ensures ∙ prepared.head))
          (plays.written tell1) (ends.written tell2);
      ends = λ ws means.
          let body = body_in net layout run.names scans.items (seen_of_run net run scans.items ws) in
          ends.ends (head ++ body) scans.end (head ++ plays.bytes)
          (lines_behind (head ++ body) head body scans.end plays.bytes c.play-ran.result refl (plays.lines ws means));
    }
