use Rattle.std.proofs.Common.{◌∙◌, refl}
use Rattle.ps_lsp_rpc.proofs.Growing.{anyway, behind, of_sent, still}
use Rattle.ps_lsp_rpc.proofs.Sent.{sent}
use Rattle.ps_lsp_rpc.proofs.sending.send_reply.Goals as goal

pub returns-in-Ok-clause-sends : goal.returns-in-Ok-clause-sends
returns-in-Ok-clause-sends g c = λ tells. record {
  between = g.O.Sink.taken c.send.new.out;
  answers = sent _ _ _ _ _ c.as_ref.ensures.value (c.in_ok-send.ensures.sends tells) refl;
  notifies =
      sent _ _ _ _ _ c.as_ref-2.ensures.value (c.in_ok-send-2.ensures.sends (c.send.ensures.telling ∙ tells)) c.finish.ensures.kept;
}

pub returns-in_err-send-2-clause-begun : goal.returns-in_err-send-2-clause-begun
returns-in_err-send-2-clause-begun g c = λ tells.
    anyway _ _ _ (behind _ _ _ (of_sent _ _ _ (c.in_ok-send.ensures.sends tells))
    (c.in_err-send-2.ensures.begun (c.in_ok-send.ensures.telling ∙ tells)))

pub returns-in-Err-clause-begun : goal.returns-in-Err-clause-begun
returns-in-Err-clause-begun g c = λ tells.
    behind _ _ _ (of_sent _ _ _ (c.in_ok-send.ensures.sends tells))
    (behind _ _ _ (of_sent _ _ _ (c.in_ok-send-2.ensures.sends (c.in_ok-send.ensures.telling ∙ tells)))
    (still _ _ c.finish.ensures.kept))
