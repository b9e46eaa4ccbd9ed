use Rattle.std.proofs.Common.{ℕ, List, ◌++◌, codes, ap, ◌∙◌}
use Rattle.ps_text.proofs.Joining.{three_more}
use Rattle.ps_message.proofs.writing.add_reference.Goals as goal

pub returns : goal.returns
returns c =
    three_more c.args.message.now (codes " (docs/refusals.md, ") c.args.advice.now.name.now (codes ")\n") c.extend_from_slice.new.self
    c.extend_from_slice-2.new.self c.extend_from_slice-3.new.self c.in_ok-extend_from_slice.ensures
    (c.in_ok-extend_from_slice-2.ensures ∙ ap (λ (t : List ℕ). c.extend_from_slice.new.self ++ t) c.as_bytes.ensures.value)
    c.in_ok-extend_from_slice-3.ensures
