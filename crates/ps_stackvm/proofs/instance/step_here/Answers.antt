use Rattle.std.proofs.Common.{sym, ap, ◌∙◌, refl}
use Rattle.ps_model.specs.Stored.{loaded}
use Rattle.ps_stackvm.proofs.Instances.{not_loaded}
use Rattle.ps_stackvm.proofs.instance.step_here.Goals as goal

pub returns-in-None-clause-none : goal.returns-in-None-clause-none
returns-in-None-clause-none g c =
    let kind = g.B.SafetyBlock.KIND in
    let block = c.in-Some.block.now in
    ap (loaded kind) (sym c.in-Some.ensures.cases.same)
    ∙ not_loaded c.loads_exactly.ensures kind block c.are_bytes.ensures c.in-None.ensures.none (loaded kind block) refl
