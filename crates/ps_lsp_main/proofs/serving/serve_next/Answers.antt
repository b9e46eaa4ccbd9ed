use Rattle.ps_lsp_main.proofs.Streams.{frame_fails, frame_hands, frame_served}
use Rattle.ps_lsp_main.proofs.serving.serve_next.Goals as goal

pub returns-in-Ok-clause-served : goal.returns-in-Ok-clause-served
returns-in-Ok-clause-served g c =
    frame_served _ _ _ _ c.in-Ok.frame _ _ _ _ c.serve_frame.result c.in-Ok.ensures.gives c.serve_frame.ensures.served
    c.serve_frame.ensures.leads

pub returns-in-Ok-clause-fails : goal.returns-in-Ok-clause-fails
returns-in-Ok-clause-fails g c =
    frame_fails _ _ c.in-Ok.frame _ _ _ _ c.serve_frame.result c.in-Ok.ensures.gives c.serve_frame.ensures.short
    c.serve_frame.ensures.begun

pub returns-in-Ok-clause-hands_on : goal.returns-in-Ok-clause-hands_on
returns-in-Ok-clause-hands_on g c = frame_hands _ _ c.serve_frame.result c.serve_frame.ensures.hands_on c.serve_frame.ensures.short
