use Rattle.std.proofs.Common.{ℕ, List, ◌++◌, codes, decimal, ap, ◌∙◌}
use Rattle.ps_message.specs.Ending.{channel_shown, trap_said}
use Rattle.ps_text.proofs.Joining.{four_more}
use Rattle.ps_message.proofs.statuses.add_trap.Goals as goal

pub returns : goal.returns
returns c =
    let old : List ℕ = c.args.message.now in
    let of : List ℕ = channel_shown c.args.channel in
    four_more old of (codes " was stopped by trap ") (decimal c.from.result) c.said_of_trap.result.now c.add_channel.new.message
    c.add_number.new.message c.extend_from_slice.new.self c.in_ok-add_channel.ensures c.in_ok-add_number.ensures c.in_ok-extend_from_slice.ensures
    ∙ ap (λ (n : ℕ). old ++ (((of ++ codes " was stopped by trap ") ++ decimal n) ++ c.said_of_trap.result.now)) c.from.ensures
    ∙ ap (λ (said : List ℕ). old ++ (((of ++ codes " was stopped by trap ") ++ decimal c.args.trap) ++ said)) c.said_of_trap.ensures
