use Rattle.std.proofs.Common.{◌∙◌}
use Rattle.ps_lsp_rpc.proofs.Growing.{added, anyway, behind, of_part}
use Rattle.ps_lsp_rpc.proofs.writing.write_frame.Goals as goal

pub returns-in_err-write_all-clause-begun : goal.returns-in_err-write_all-clause-begun
returns-in_err-write_all-clause-begun g c = λ tells. anyway _ _ _ (added _ _ _ (c.in_err-write_all.ensures.part tells))

pub returns-in_err-write_all-2-clause-begun : goal.returns-in_err-write_all-2-clause-begun
returns-in_err-write_all-2-clause-begun g c = λ tells.
    anyway _ _ _ (behind _ _ _ (added _ _ _ (c.in_ok-write_all.ensures.whole tells))
    (added _ _ _ (c.in_err-write_all-2.ensures.part (c.in_ok-write_all.ensures.telling ∙ tells))))

pub returns-in_err-write_all-3-clause-begun : goal.returns-in_err-write_all-3-clause-begun
returns-in_err-write_all-3-clause-begun g c = λ tells.
    let second = c.in_ok-write_all.ensures.telling ∙ tells in
    anyway _ _ _ (behind _ _ _
    (behind _ _ _ (added _ _ _ (c.in_ok-write_all.ensures.whole tells)) (added _ _ _ (c.in_ok-write_all-2.ensures.whole second)))
    (added _ _ _ (c.in_err-write_all-3.ensures.part (c.in_ok-write_all-2.ensures.telling ∙ second))))

pub returns-clause-begun : goal.returns-clause-begun
returns-clause-begun g c = λ tells.
    let second = c.in_ok-write_all.ensures.telling ∙ tells in
    let third = c.in_ok-write_all-2.ensures.telling ∙ second in
    of_part _ _ _ _ c.write_all-4.result
    (behind _ _ _ (behind _ _ _ (added _ _ _ (c.in_ok-write_all.ensures.whole tells)) (added _ _ _ (c.in_ok-write_all-2.ensures.whole second)))
    (added _ _ _ (c.in_ok-write_all-3.ensures.whole third)))
    (c.write_all-4.ensures.part (c.in_ok-write_all-3.ensures.telling ∙ third))
