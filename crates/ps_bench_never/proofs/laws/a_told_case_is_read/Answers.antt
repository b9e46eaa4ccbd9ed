use Rattle.ps_bench_never.proofs.CaseBack.{case_is_read}
use Rattle.ps_bench_never.proofs.ScanBack.{scan_is_read}
use Rattle.ps_bench_never.proofs.ToldBack.{difference_is_read, found_is_read}
use Rattle.ps_bench_never.proofs.laws.a_told_case_is_read.Goals as goal

pub returns : goal.returns
returns c = record { scans = scan_is_read; cases = case_is_read; found = found_is_read; differs = difference_is_read }
