use Rattle.ps_bench_cases.proofs.ReadBack.{scan_back}
use Rattle.ps_bench_cases.proofs.laws.scan_lines_are_read.Goals as goal

pub returns : goal.returns
returns c = scan_back
