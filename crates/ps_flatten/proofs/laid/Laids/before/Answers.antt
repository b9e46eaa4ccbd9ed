use Rattle.std.proofs.Common.{sym, ap, ◌∙◌, slice_get, arith}
use Rattle.ps_flatten.specs.declared.laid.Laid.{Laid}
use Rattle.ps_flatten.proofs.Seen.{before_none, before_seen, got}
use Rattle.ps_flatten.proofs.laid.Laids.before.Goals as goal

pub returns-then-place-limit-clause-seen : goal.returns-then-place-limit-clause-seen
returns-then-place-limit-clause-seen c =
    let k = c.args.place in
    before_seen c.args.self.now c.args.limit k _
    (got c.deref.result.now k c.get.result c.get.ensures.lookup.0 c.get.ensures.lookup.1 ∙ ap (λ ls. slice_get ls k) (c.deref.ensures.value ∙ c.self.view_is)) c.if-place-limit.true

pub returns-else-place-limit-clause-seen : goal.returns-else-place-limit-clause-seen
returns-else-place-limit-clause-seen c = before_none c.args.self.now c.args.limit c.args.place (omega (arith, c.if-place-limit.false))
