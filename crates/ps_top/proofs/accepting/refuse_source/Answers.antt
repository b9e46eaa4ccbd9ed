use Rattle.ps_top.specs.Leaving.{left_with}
use Rattle.ps_top.specs.declared.left.Leaving.TheVariants.{Text}
use Rattle.ps_top.proofs.Sourced.{says_none_left}
use Rattle.ps_top.proofs.accepting.refuse_source.Goals as goal

pub returns-clause-says : goal.returns-clause-says
returns-clause-says g c =
    let old = g.C.Call.seen c.args.call.now in
    says_none_left c.args.why old (g.C.Call.seen c.leave.new.self) (g.C.Call.seen c.say_none.new.call) c.say_none.result (left_with (Text c.args.bytes) old.left)
    c.leave.ensures c.say_none.ensures.says
