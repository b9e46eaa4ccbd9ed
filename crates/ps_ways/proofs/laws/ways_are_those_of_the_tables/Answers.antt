use Rattle.ps_ways.proofs.EachKind.{each_kind}
use Rattle.ps_ways.proofs.laws.ways_are_those_of_the_tables.Goals as goal

pub returns : goal.returns
returns c = each_kind
