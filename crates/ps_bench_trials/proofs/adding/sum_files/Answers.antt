use Rattle.std.proofs.Common.{◌≡◌, ◌∙◌, Err, ap}
use Rattle.ps_bench_trials.proofs.Behind.{names_in, rose_behind}
use Rattle.ps_bench_trials.specs.declared.adding.SumStop.TheVariants.{Unread}
use Rattle.ps_bench_trials.proofs.adding.sum_files.Goals as goal

pub returns-in-Err-add_files-clause-unread : goal.returns-in-Err-add_files-clause-unread
returns-in-Err-add_files-clause-unread g c = λ n is.
    let same : c.in-Err-add_files.stop ≡ Unread n = cc in
    rose_behind (g.F.Files.faults c.args.files.now) (g.F.Files.faults c.read_file.new.files) (g.F.Files.faults c.add_files.new.files)
    c.args.first.now (names_in c.args.others.now) c.read_file.ensures.reads
    (c.add_files.ensures.unread n (c.in-Err-add_files.is ∙ ap Err same))
