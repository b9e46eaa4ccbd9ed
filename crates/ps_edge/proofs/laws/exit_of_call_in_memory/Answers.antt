use Rattle.std.proofs.Common.{refl}
use Rattle.ps_edge.proofs.Over.{heard_by, in_memory}
use Rattle.ps_edge.proofs.laws.exit_of_call_in_memory.Goals as goal

pub returns : goal.returns
returns c =
    let does = c.exit_of_call.ensures.does in
    let heard = does.4 refl in (
      does.0,
      does.1,
      does.2,
      in_memory _ _ _ _ _ does.1 _ _ does.0 does.3 (heard_by heard.0 _ _ _ _ _ (heard.1 refl) heard.2),
    )
