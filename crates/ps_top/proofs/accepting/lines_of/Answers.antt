use Rattle.std.proofs.Common.{◌∙◌, sym}
use Rattle.ps_top.specs.Leaving.{left_with}
use Rattle.ps_top.specs.declared.left.Leaving.TheVariants.{Checked}
use Rattle.ps_top.proofs.Sourced.{says_none_left}
use Rattle.ps_top.proofs.accepting.lines_of.Goals as goal

pub returns-in-Err-clause-none : goal.returns-in-Err-clause-none
returns-in-Err-clause-none g c =
    let old = g.C.Call.seen c.args.call.now in (
      c.in-Err.why,
      sym c.into_parts-counts.ensures.lines ∙ c.in-Err.is,
      says_none_left c.in-Err.why old (g.C.Call.seen c.leave.new.self) (g.C.Call.seen c.refuse_source.new.call) c.refuse_source.result
          (left_with (Checked c.into_parts-counts.result.0) old.left) c.leave.ensures c.refuse_source.ensures.says,
      c.refuse_source.ensures.refuses,
    )
