use Rattle.std.proofs.Common.{subst, sym}
use Rattle.ps_bench_campaign.specs.Marks.{IsShort}
use Rattle.ps_bench_campaign.proofs.marks.is_short.Goals as goal

pub returns-in-Scanned : goal.returns-in-Scanned
returns-in-Scanned c = subst IsShort (sym c.in-Scanned.is) c.has_32_bits.ensures
