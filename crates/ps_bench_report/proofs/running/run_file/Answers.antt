use Rattle.std.proofs.Common.{◌≡◌, ℕ, IsTrue, List, Some, Err, ap, refl}
use Rattle.ps_bench_cover.proofs.Leaving.{behind, same}
use Rattle.ps_bench_cover.specs.Leaving.{Stays, sides}
use Rattle.ps_bench_frame.proofs.Stopped.{rose_since}
use Rattle.ps_bench_frame.specs.Opening.{Source, source}
use Rattle.ps_bench_frame.specs.declared.ending.Stop.TheVariants.{UnreadCases}
use Rattle.ps_bench_trace.proofs.Refused.{of_some}
use Rattle.ps_outside.specs.Outside.{Rose}
use Rattle.ps_bench_report.specs.Running.{EndsFile}
use Rattle.ps_bench_report.proofs.Coming.{moved}
use Rattle.ps_bench_report.proofs.Once.{ends_held, leaves_held}
use Rattle.ps_bench_report.proofs.Reading.{cases_written, unread_leaves}
use Rattle.ps_bench_report.proofs.Stopped.{unnamed_stops}
use Rattle.ps_bench_report.proofs.running.run_file.Goals as goal

pub returns-in-Ok-Some : goal.returns-in-Ok-Some
returns-in-Ok-Some g c =
    let is = c.in-Ok-Some.ensures in
    let name = c.args.name.now in
    let app = c.args.bench.now.name.now in
    let net = c.args.bench.now.opened.now.app in
    let sizes = c.args.bench.now.opened.now.sizes in
    let r = g.F.Files.tells c.args.files.now in
    let r' = g.F.Files.tells c.of_file.new.files in
    let h = g.F.Files.held c.args.files.now in
    let h' = g.F.Files.held c.of_file.new.files in
    let f = g.F.Files.faults c.args.files.now in
    let f' = g.F.Files.faults c.of_file.new.files in
    let t = g.O.Sink.tells c.args.out.now in
    let t' = g.O.Sink.tells c.run_read.new.out in
    let w = g.O.Sink.faults c.args.out.now in
    let w' = g.O.Sink.faults c.run_read.new.out in
    let text = c.in-Ok-Some.text in
    let there : IsTrue r → h name ≡ Some text =
    λ tells. of_some (λ (t : List ℕ). h name ≡ Some t) c.in-Ok-Some.field-0 text c.in-Ok-Some.field-0-is (is.text tells) in
    let pages = c.args.pages.now in
    let pages' = c.run_read.new.pages in
    record {
      ends = ends_held net sizes r h name text there app c.args.place pages pages' t (g.O.Sink.taken c.args.out.now)
          (g.O.Sink.taken c.run_read.new.out) c.run_read.result c.run_read.ensures.ends;
      leaves = leaves_held (Rose (f name) (f' name)) text _ r r' h h' f f' t t' w w' c.run_read.result is.reading is.kept is.reads c.run_read.ensures.leaves;
    }

pub returns-in-Ok-None : goal.returns-in-Ok-None
returns-in-Ok-None g c =
    let is = c.in-Ok-None.ensures in
    let name = c.args.name.now in
    let app = c.args.bench.now.name.now in
    let net = c.args.bench.now.opened.now.app in
    let sizes = c.args.bench.now.opened.now.sizes in
    let r = g.F.Files.tells c.args.files.now in
    let r' = g.F.Files.tells c.of_file.new.files in
    let h = g.F.Files.held c.args.files.now in
    let h' = g.F.Files.held c.of_file.new.files in
    let f = g.F.Files.faults c.args.files.now in
    let f' = g.F.Files.faults c.of_file.new.files in
    let ran = c.run_read-in-Ok-None in
    let f'' = g.F.Files.faults ran.new.files in
    let t = g.O.Sink.tells c.args.out.now in
    let w = g.O.Sink.faults c.args.out.now in
    let b = g.O.Sink.taken c.args.out.now in
    let pages = c.args.pages.now in
    let pages' = ran.new.pages in
    let before = sides r h f t w in
    let middle = sides r' h' f' t w in
    let after = sides (g.F.Files.tells ran.new.files) (g.F.Files.held ran.new.files) f'' (g.O.Sink.tells ran.new.out) (g.O.Sink.faults ran.new.out) in
    let stays : Stays before middle = record { reading = is.reading; kept = is.kept; reads = is.reads; telling = refl; writes = (same before).writes } in
    record {
      ends = moved (λ (x : Source) tells taken. EndsFile x app name c.args.place pages pages' tells taken
          (g.O.Sink.taken ran.new.out) ran.result) net sizes r r' h h' t t b b is.reading is.kept refl refl ran.ensures.ends;
      leaves = behind before middle after ran.result (Rose (f' name) (f'' name)) (Rose (f name) (f'' name)) stays ran.ensures.leaves
          (rose_since (f name) (f' name) (f'' name) (is.reads name));
    }

pub returns-in-Err : goal.returns-in-Err
returns-in-Err g c =
    let is = c.in-Err.ensures in
    let name = c.args.name.now in
    let r = g.F.Files.tells c.args.files.now in
    let h = g.F.Files.held c.args.files.now in
    let f = g.F.Files.faults c.args.files.now in
    let f' = g.F.Files.faults c.of_file.new.files in
    let t = g.O.Sink.tells c.args.out.now in
    let w = g.O.Sink.faults c.args.out.now in
    let taken = g.O.Sink.taken c.args.out.now in
    let before = sides r h f t w in
    let after = sides (g.F.Files.tells c.of_file.new.files) (g.F.Files.held c.of_file.new.files) f' t w in
    let from = source c.args.bench.now.opened.now.app c.args.bench.now.opened.now.sizes r h in
    let place = c.args.place in
    let fail = c.in-Err.fail in
    record {
      ends = unnamed_stops from name place fail c.stop_by.result t taken taken c.stop_by.ensures refl;
      leaves = unread_leaves (Rose (f name) (f' name)) before after (UnreadCases place) c.stop_by.result fail c.stop_by.ensures (cases_written place)
          (record { reading = is.reading; kept = is.kept; reads = is.reads; telling = refl; writes = (same before).writes })
          (λ at. is.fault (ap Err at));
    }
