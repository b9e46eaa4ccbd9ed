use Rattle.ps_findings.specs.Comments.{odd_places}
use Rattle.std.proofs.Common.{[]}
use Rattle.ps_findings.proofs.Oddities.{finished}
use Rattle.ps_findings.proofs.comments.odd_comments.Goals as goal

pub returns : goal.returns
returns c = record {
  says = finished (λ list. list.items) c.finish.result c.new-odd.result c.add_odd.new.odd (odd_places [] c.args.text.now) c.new-odd.ensures.none
      c.new-odd.ensures.last c.add_odd.ensures c.finish.ensures;
}
