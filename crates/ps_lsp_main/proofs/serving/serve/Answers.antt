use Rattle.std.proofs.Common.{◌≡◌, None, Some}
use Rattle.ps_lsp_main.proofs.Streams.{begun, ended_next, failed_next, goes_on, spent}
use Rattle.ps_lsp_main.proofs.serving.serve.Goals as goal

pub messages-init : goal.messages-init
messages-init g c = begun _ _ _ _ _ _ c.new-server.ensures

pub messages-preserved : goal.messages-preserved
messages-preserved g c =
    let none : c.in-Ok-None.field-0 ≡ None = cc in
    goes_on _ _ _ _ _ _ _ _ _ _ _ _ _ _ _ _ _ _ c.messages.invariant none c.in-Ok-None.ensures.served c.in-Ok-None.ensures.hands_on
    c.serve_next.ensures.reading c.serve_next.ensures.writing

pub returns-in-Ok-Some : goal.returns-in-Ok-Some
returns-in-Ok-Some g c =
    let is : c.in-Ok-Some.field-0 ≡ Some c.in-Ok-Some.ending = cc in
    ended_next _ _ _ _ _ _ _ c.in-Ok-Some.ending _ _ _ _ _ _ _ _ _ c.messages.invariant is c.in-Ok-Some.ensures.served
    c.in-Ok-Some.ensures.hands_on

pub returns-in-Err : goal.returns-in-Err
returns-in-Err g c =
    failed_next _ _ _ _ _ c.in-Err.ending _ _ _ _ _ _ _ _ _ c.messages.invariant c.in-Err.ensures.fails c.in-Err.ensures.hands_on

pub returns : goal.returns
returns g c = spent _ _ _ _ _ _ _ _ _ _ _ c.messages.invariant
