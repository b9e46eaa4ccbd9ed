use Rattle.ps_lsp_main.proofs.Streams.{Goes}
use Rattle.ps_lsp_main.proofs.serving.serve.Given as goal

-- what was read up to here was served, and nothing is held back
abbrev pub invariant-messages : goal.invariant-messages
invariant-messages g l =
    Goes (g.I.Incoming.tells l.initial.input) (g.O.Sink.tells l.initial.out) (g.I.Incoming.tells l.input) (g.O.Sink.tells l.out) l.server
    (g.I.Incoming.ahead l.initial.input) (g.I.Incoming.ahead l.input) (g.O.Sink.taken l.initial.out) (g.O.Sink.taken l.out)
    (g.O.Output.held_back l.initial.out) (g.O.Output.held_back l.out)
