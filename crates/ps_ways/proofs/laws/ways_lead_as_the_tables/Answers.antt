use Rattle.ps_ways.proofs.EachKind.{each_leads}
use Rattle.ps_ways.proofs.laws.ways_lead_as_the_tables.Goals as goal

pub returns : goal.returns
returns c = each_leads
