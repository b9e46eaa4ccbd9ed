use Rattle.std.proofs.Common.{◌∙◌, ◌++◌, Err, ap}
use Rattle.ps_bench_report.specs.Files.{file_row}
use Rattle.ps_bench_report.proofs.Reading.{read_done, read_failed}
use Rattle.ps_bench_report.proofs.running.add_named.Goals as goal

pub returns-in-Ok : goal.returns-in-Ok
returns-in-Ok g c =
    let is = c.name_of_file.ensures in
    let t = g.F.Files.tells c.args.files.now in
    let t' = g.F.Files.tells c.name_of_file.new.files in
    let h = g.F.Files.held c.args.files.now in
    let h' = g.F.Files.held c.name_of_file.new.files in
    let f = g.F.Files.faults c.args.files.now in
    let f' = g.F.Files.faults c.name_of_file.new.files in
    record {
      reads = read_done c.args.name.now t t' h h' f f' tt is.reading is.kept is.reads;
      named = (
        c.in-Ok.digest,
        λ tells. c.in-Ok.ensures.names tells,
        λ whole.
            let is = c.add_file.ensures whole in
            (is.0, is.1 ∙ (λ i. c.args.page.now.pieces ++ file_row (c.as_bytes.ensures.value i) (c.as_slice.ensures i))),
      );
    }

pub returns-in-Err : goal.returns-in-Err
returns-in-Err g c =
    let is = c.name_of_file.ensures in
    let t = g.F.Files.tells c.args.files.now in
    let t' = g.F.Files.tells c.name_of_file.new.files in
    let h = g.F.Files.held c.args.files.now in
    let h' = g.F.Files.held c.name_of_file.new.files in
    let f = g.F.Files.faults c.args.files.now in
    let f' = g.F.Files.faults c.name_of_file.new.files in
    record {
      reads = read_failed c.args.name.now t t' h h' f f' c.in-Err.fail is.reading is.kept is.reads (λ at. is.fault (c.in-Err.is ∙ ap Err at));
      named = tt;
    }
