use Rattle.std.proofs.Common.{◌≡◌, ◌∙◌, length, drop, arith}
use Rattle.std.proofs.lemmas.List.{take_at}
use Rattle.std.proofs.lemmas.List.FromFn.{fill_by_all}
use Rattle.ps_model.specs.Network.{instance_count}
use Rattle.ps_machine.specs.Standing.{limit_in}
use Rattle.ps_vote.proofs.limits.limits.Goals as goal

pub returns : goal.returns
returns c =
    let net = c.args.app.now in
    let v = c.in_ok-limits.limits in
    let new = c.note_limits.new.limits in
    let count : v.len ≡ instance_count net = omega (arith, c.in_ok-limits.ensures.len, c.instance_count.ensures) in
    let long : length new ≡ v.len = omega (arith, c.note_limits.auto.limits, c.as_mut_slice.ensures.len) in
    take_at new (drop (length new) v.items) v.len long
    ∙ fill_by_all (limit_in net) new (instance_count net) 0 (long ∙ count) (λ k low. c.note_limits.ensures k)
