use Rattle.std.proofs.Common.{◌∙◌, ℕ, List, Option, Err, ap, refl, subst}
use Rattle.ps_bench_cover.proofs.Leaving.{both, done}
use Rattle.ps_bench_cover.specs.Leaving.{Stays, sides}
use Rattle.ps_bench_frame.proofs.Stopped.{rose_since}
use Rattle.ps_bench_frame.specs.Opening.{source}
use Rattle.ps_bench_frame.specs.declared.ending.Stop.TheVariants.{UnreadCases}
use Rattle.ps_outside.specs.Outside.{Rose}
use Rattle.ps_bench_test.specs.Testing.{AreRan}
use Rattle.ps_bench_report.proofs.Reading.{cases_written, memory_leaves, read_stays, unread_leaves}
use Rattle.ps_bench_report.proofs.Shown.{one_filed}
use Rattle.ps_bench_trials.specs.Naming.{Names}
use Rattle.ps_bench_report.proofs.Stopped.{placed_leaves, stops_placed, unnamed_stops}
use Rattle.ps_bench_report.proofs.running.run_read.Goals as goal

pub returns-in-Err : goal.returns-in-Err
returns-in-Err g c =
    let is = c.in-Err.ensures in
    let name = c.args.name.now in
    let r = g.F.Files.tells c.args.files.now in
    let h = g.F.Files.held c.args.files.now in
    let f = g.F.Files.faults c.args.files.now in
    let t = g.O.Sink.tells c.args.out.now in
    let r' = g.F.Files.tells c.open_written_cases.new.files in
    let h' = g.F.Files.held c.open_written_cases.new.files in
    let f' = g.F.Files.faults c.open_written_cases.new.files in
    let t' = g.O.Sink.tells c.open_written_cases.new.out in
    let w' = g.O.Sink.faults c.open_written_cases.new.out in
    let before = sides r h f t (g.O.Sink.faults c.args.out.now) in
    let opened = sides r' h' f' t' w' in
    let taken = g.O.Sink.taken c.args.out.now in
    let taken' = g.O.Sink.taken c.open_written_cases.new.out in
    let from = source c.args.bench.now.opened.now.app c.args.bench.now.opened.now.sizes r h in
    let stays : Stays before opened = record { reading = is.reading; kept = is.kept; reads = is.reads; telling = is.telling; writes = is.writes } in
    let place = c.args.place in
    let stop = c.in-Err.stop in
    record {
      ends = stops_placed from name place stop c.at_place.result t taken taken' c.at_place.ensures is.stops;
      leaves = placed_leaves (Rose (f name) (f' name)) before opened place stop c.at_place.result c.at_place.ensures stays is.unread
          (λ at. is.unwritten (ap Err at));
    }

pub returns-in-Err-add_named : goal.returns-in-Err-add_named
returns-in-Err-add_named g c =
    let is = c.in-Ok.ensures in
    let name = c.args.name.now in
    let r = g.F.Files.tells c.args.files.now in
    let h = g.F.Files.held c.args.files.now in
    let f = g.F.Files.faults c.args.files.now in
    let t = g.O.Sink.tells c.args.out.now in
    let r' = g.F.Files.tells c.open_written_cases.new.files in
    let h' = g.F.Files.held c.open_written_cases.new.files in
    let f' = g.F.Files.faults c.open_written_cases.new.files in
    let t' = g.O.Sink.tells c.open_written_cases.new.out in
    let w' = g.O.Sink.faults c.open_written_cases.new.out in
    let before = sides r h f t (g.O.Sink.faults c.args.out.now) in
    let opened = sides r' h' f' t' w' in
    let r'' = g.F.Files.tells c.add_named.new.files in
    let h'' = g.F.Files.held c.add_named.new.files in
    let f'' = g.F.Files.faults c.add_named.new.files in
    let after = sides r'' h'' f'' t' w' in
    let taken = g.O.Sink.taken c.args.out.now in
    let taken' = g.O.Sink.taken c.open_written_cases.new.out in
    let from = source c.args.bench.now.opened.now.app c.args.bench.now.opened.now.sizes r h in
    let stays : Stays before after = both before opened after
    (record { reading = is.reading; kept = is.kept; reads = is.reads; telling = is.telling; writes = is.writes })
    (read_stays name r' r'' h' h'' f' f'' t' w' c.add_named.result c.add_named.ensures.reads) in
    let place = c.args.place in
    let fail = c.in-Err-add_named.fail in
    record {
      ends = unnamed_stops from name place fail c.stop_by.result t taken taken' c.stop_by.ensures is.unsaid;
      leaves = unread_leaves (Rose (f name) (f'' name)) before after (UnreadCases place) c.stop_by.result fail c.stop_by.ensures (cases_written place) stays
          (λ at. rose_since (f name) (f' name) (f'' name) (is.reads name) (c.in-Err-add_named.ensures.reads.fault (ap Err at)));
    }

pub returns-in-Ok-run_cases : goal.returns-in-Ok-run_cases
returns-in-Ok-run_cases g c =
    let is = c.in-Ok.ensures in
    let name = c.args.name.now in
    let r = g.F.Files.tells c.args.files.now in
    let h = g.F.Files.held c.args.files.now in
    let f = g.F.Files.faults c.args.files.now in
    let t = g.O.Sink.tells c.args.out.now in
    let r' = g.F.Files.tells c.open_written_cases.new.files in
    let h' = g.F.Files.held c.open_written_cases.new.files in
    let f' = g.F.Files.faults c.open_written_cases.new.files in
    let t' = g.O.Sink.tells c.open_written_cases.new.out in
    let w' = g.O.Sink.faults c.open_written_cases.new.out in
    let before = sides r h f t (g.O.Sink.faults c.args.out.now) in
    let opened = sides r' h' f' t' w' in
    let r'' = g.F.Files.tells c.add_named.new.files in
    let h'' = g.F.Files.held c.add_named.new.files in
    let f'' = g.F.Files.faults c.add_named.new.files in
    let after = sides r'' h'' f'' t' w' in
    let stays : Stays before after = both before opened after
    (record { reading = is.reading; kept = is.kept; reads = is.reads; telling = is.telling; writes = is.writes })
    (read_stays name r' r'' h' h'' f' f'' t' w' c.add_named.result c.add_named.ensures.reads) in
    let ran = c.in-Ok-run_cases.ensures in
    let named = c.in-Ok-add_named.ensures.named in
    let from = source c.args.bench.now.opened.now.app c.args.bench.now.opened.now.sizes r h in
    record {
      ends = (
        is.unsaid,
        record { name = name; file = c.in-Ok.file; ran = ran.0 },
        record {
          name_is = refl;
          of_text = is.of_text;
          ran = subst (λ cs. AreRan c.args.bench.now.opened.now.app c.args.bench.now.name.now name c.in-Ok.file cs ran.0) c.as_slice.ensures ran.1;
        },
        one_filed from c.args.place name (record { name = name; file = c.in-Ok.file; ran = ran.0 }) named.0 c.args.pages.now c.add_named.new.page c.run_cases.new.pages
            (λ tells. subst (λ (held : List ℕ → Option (List ℕ)). Names (held name) named.0) is.kept (named.1 (is.reading ∙ tells))) named.2 ran.2,
      );
      leaves = done (Rose (f name) (f'' name)) before after c.in-Ok-run_cases.field-0 stays;
    }

pub returns : goal.returns
returns g c =
    let is = c.in-Ok.ensures in
    let name = c.args.name.now in
    let r = g.F.Files.tells c.args.files.now in
    let h = g.F.Files.held c.args.files.now in
    let f = g.F.Files.faults c.args.files.now in
    let t = g.O.Sink.tells c.args.out.now in
    let r' = g.F.Files.tells c.open_written_cases.new.files in
    let h' = g.F.Files.held c.open_written_cases.new.files in
    let f' = g.F.Files.faults c.open_written_cases.new.files in
    let t' = g.O.Sink.tells c.open_written_cases.new.out in
    let w' = g.O.Sink.faults c.open_written_cases.new.out in
    let before = sides r h f t (g.O.Sink.faults c.args.out.now) in
    let opened = sides r' h' f' t' w' in
    let r'' = g.F.Files.tells c.add_named.new.files in
    let h'' = g.F.Files.held c.add_named.new.files in
    let f'' = g.F.Files.faults c.add_named.new.files in
    let after = sides r'' h'' f'' t' w' in
    let stays : Stays before after = both before opened after
    (record { reading = is.reading; kept = is.kept; reads = is.reads; telling = is.telling; writes = is.writes })
    (read_stays name r' r'' h' h'' f' f'' t' w' c.add_named.result c.add_named.ensures.reads) in
    record { ends = λ told. is.unsaid; leaves = memory_leaves (Rose (f name) (f'' name)) before after stays }
