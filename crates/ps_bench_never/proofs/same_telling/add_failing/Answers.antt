use Rattle.std.proofs.Common.{codes}
use Rattle.ps_bench_frame.specs.Pieces.{count_text}
use Rattle.ps_reach.specs.Comparing.{two_of}
use Rattle.ps_bench_never.proofs.JoiningAny.{five_more}
use Rattle.ps_bench_never.specs.SameTelling.{names_text}
use Rattle.ps_bench_never.proofs.same_telling.add_failing.Goals as goal

pub returns : goal.returns
returns c =
    five_more c.extend_from_slice-3.result c.args.text.now (codes "FAILS ") (names_text (two_of c.args.compared.now)) (codes ", in ")
    (count_text c.args.scans (codes "scan")) (codes ": ") c.extend_from_slice.new.self c.add_names.new.text c.extend_from_slice-2.new.self
    c.add_count.new.text c.extend_from_slice-3.new.self c.in_ok-extend_from_slice.ensures c.in_ok-add_names.ensures
    c.in_ok-extend_from_slice-2.ensures c.in_ok-add_count.ensures c.extend_from_slice-3.ensures
