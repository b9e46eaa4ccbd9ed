use Rattle.std.proofs.Common.{◌+◌, sym, ◌∙◌}
use Rattle.ps_demand.proofs.Kept.{keeps_others}
use Rattle.ps_demand.proofs.releasing.release_signal.Goals as goal

pub returns-then-not-is_wanted_behind : goal.returns-then-not-is_wanted_behind
returns-then-not-is_wanted_behind c =
    keeps_others c.args.last.now (c.args.k + 1) c.args.rows.now.items c.args.signal _ (sym c.is_wanted_behind.ensures ∙ c.if-not-is_wanted_behind.true)
