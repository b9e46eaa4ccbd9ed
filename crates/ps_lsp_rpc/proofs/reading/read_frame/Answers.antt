use Rattle.std.proofs.Common.{◌∙◌, sym}
use Rattle.ps_lsp_rpc.proofs.Taking.{body_gives, endless_gives, headless_gives}
use Rattle.ps_lsp_rpc.proofs.reading.read_frame.Goals as goal

pub returns-then-not-is_whole-clause-gives : goal.returns-then-not-is_whole-clause-gives
returns-then-not-is_whole-clause-gives g c = λ tells.
    endless_gives _ _ _ _ _ _ (c.in_ok-head.ensures.head tells) c.as_slice-then-not-is_whole.ensures c.as_slice.ensures
    (sym c.is_whole.ensures ∙ c.if-not-is_whole.true) c.endless.ensures

pub returns-in-Some-clause-gives : goal.returns-in-Some-clause-gives
returns-in-Some-clause-gives g c = λ tells.
    body_gives _ _ _ _ _ _ _ _ (c.in_ok-head.ensures.head tells) c.as_slice.ensures (sym c.is_whole.ensures ∙ c.if-not-is_whole.false)
    c.as_slice-2.ensures c.in-Some.ensures.some (c.take_body.ensures.body (c.take_head.ensures.telling ∙ tells))

pub returns-clause-gives : goal.returns-clause-gives
returns-clause-gives g c = λ tells.
    headless_gives _ _ _ _ _ (c.in_ok-head.ensures.head tells) c.as_slice.ensures (sym c.is_whole.ensures ∙ c.if-not-is_whole.false)
    c.as_slice-2.ensures c.in-None.ensures.none
