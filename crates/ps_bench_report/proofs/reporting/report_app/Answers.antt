use Rattle.std.proofs.Common.{◌∷◌, ℕ, List, Any, Err, inl, inr, refl}
use Rattle.ps_bench_cover.proofs.Leaving.{behind, passed, same}
use Rattle.ps_bench_cover.specs.Leaving.{sides}
use Rattle.ps_bench_frame.specs.Opening.{Source, source}
use Rattle.ps_bench_words.specs.Seen.{seen}
use Rattle.ps_outside.specs.Outside.{Rose}
use Rattle.ps_bench_report.specs.Asking.{Ends, wanted_by}
use Rattle.ps_bench_report.proofs.Coming.{moved, reported, unread_behind, written_behind}
use Rattle.ps_bench_report.proofs.Reading.{memory_leaves}
use Rattle.ps_bench_report.proofs.reporting.report_app.Goals as goal

pub returns-in-Err : goal.returns-in-Err
returns-in-Err g c =
    let f = g.F.Files.faults c.args.files.now in
    let before = sides (g.F.Files.tells c.args.files.now) (g.F.Files.held c.args.files.now) f (g.O.Sink.tells c.args.out.now) (g.O.Sink.faults c.args.out.now) in
    record {
      ends = inl (refl, λ told. refl);
      leaves = memory_leaves (Any (λ (name : List ℕ). Rose (f name) (f name)) (c.args.asked.now.app.now ∷ seen c.args.asked.now.cases.now)) before before (same before);
    }

pub returns-in-Ok-run_files : goal.returns-in-Ok-run_files
returns-in-Ok-run_files g c =
    let net = c.args.sourced.now.opened.app in
    let sizes = c.args.sourced.now.opened.sizes in
    let wanted = wanted_by c.args.asked.now in
    let app = wanted.app in
    let names = wanted.names in
    let r = g.F.Files.tells c.args.files.now in
    let h = g.F.Files.held c.args.files.now in
    let f = g.F.Files.faults c.args.files.now in
    let t = g.O.Sink.tells c.args.out.now in
    let w = g.O.Sink.faults c.args.out.now in
    let b = g.O.Sink.taken c.args.out.now in
    let f' = g.F.Files.faults c.run_files.new.files in
    let t' = g.O.Sink.tells c.run_files.new.out in
    let w' = g.O.Sink.faults c.run_files.new.out in
    let b' = g.O.Sink.taken c.run_files.new.out in
    let ran = c.in-Ok-run_files.ensures.ends in
    let filed = c.in-Ok-run_files.ensures.leaves in
    let ended = c.write_report.result in
    let pages = c.run_files.new.pages in
    let after = g.O.Sink.taken c.write_report.new.out in
    record {
      ends = moved (λ (x : Source) tells taken. Ends x wanted tells taken after ended) net sizes r r h h t t' b b' refl refl filed.stays.telling ran.0
          (reported (source net sizes r h) wanted c.args.sourced.now.source c.args.sourced.now.opened.text c.requires.app c.requires.text c.requires.source
          c.in-Ok.pages pages c.in-Ok.ensures ran.1 ran.2 ran.3 t' b' after ended c.write_report.ensures.ends);
      leaves = written_behind (Any (λ (name : List ℕ). Rose (f name) (f' name)) (app ∷ names)) r (g.F.Files.tells c.run_files.new.files) h
          (g.F.Files.held c.run_files.new.files) f f' t t' (g.O.Sink.tells c.write_report.new.out) w w' (g.O.Sink.faults c.write_report.new.out) ended
          filed.stays c.write_report.ensures.leaves;
    }

pub returns : goal.returns
returns g c =
    let app = c.args.asked.now.app.now in
    let names = seen c.args.asked.now.cases.now in
    let f = g.F.Files.faults c.args.files.now in
    let f' = g.F.Files.faults c.run_files.new.files in
    let before = sides (g.F.Files.tells c.args.files.now) (g.F.Files.held c.args.files.now) f (g.O.Sink.tells c.args.out.now) (g.O.Sink.faults c.args.out.now) in
    let after = sides (g.F.Files.tells c.run_files.new.files) (g.F.Files.held c.run_files.new.files) f' (g.O.Sink.tells c.run_files.new.out) (g.O.Sink.faults c.run_files.new.out) in
    let stop = c.in-Err-run_files.stop in
    let later = Any (λ (name : List ℕ). Rose (f name) (f' name)) names in
    record {
      ends = inr (inl c.in-Err-run_files.ensures.ends);
      leaves = behind before before after (Err stop) later (Any (λ (name : List ℕ). Rose (f name) (f' name)) (app ∷ names)) (same before)
          (passed later before after stop c.in-Err-run_files.ensures.leaves) (λ rose. unread_behind f f f' app names (same before).reads rose);
    }
