use Rattle.ps_lsp_main.proofs.serving.serve_one.Goals as goal

pub returns-in-Err-Unwritten-clause-begun : goal.returns-in-Err-Unwritten-clause-begun
returns-in-Err-Unwritten-clause-begun g c = c.in-Err-Unwritten.ensures.begun

pub returns-clause-begun : goal.returns-clause-begun
returns-clause-begun g c = c.in-Err-Memory.ensures.begun
