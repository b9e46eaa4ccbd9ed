use Rattle.std.proofs.Common.{sym, ◌∙◌}
use Rattle.ps_offences.proofs.Giving.{each_call_gives}
use Rattle.ps_accepted.proofs.Unbroken.{none_refused}
use Rattle.ps_accepted.proofs.flattening.flat_source.Goals as goal

pub flatten-requires : goal.flatten-requires
flatten-requires c = each_call_gives c.args.library (none_refused c.args.library (sym c.in-None.is ∙ c.in_ok-refusal.ensures))

pub returns-in_ok-flatten-in-None : goal.returns-in_ok-flatten-in-None
returns-in_ok-flatten-in-None c = record {
  flattens = record { unbroken = none_refused c.args.library (sym c.in-None.is ∙ c.in_ok-refusal.ensures); is = c.in_ok-flatten-in-None.ensures.flattens };
}
