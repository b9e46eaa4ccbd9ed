use Rattle.ps_bench_campaign.proofs.Summed.{parts_sum_up}
use Rattle.ps_bench_campaign.proofs.laws.parts_sum_up.Goals as goal

pub returns : goal.returns
returns c = parts_sum_up
