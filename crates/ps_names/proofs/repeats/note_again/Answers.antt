use Rattle.std.proofs.Common.{◌∙◌}
use Rattle.ps_names.proofs.NamesAgain.{again_noted, again_has}
use Rattle.ps_names.proofs.repeats.note_again.Goals as goal

pub returns : goal.returns
returns c = record {
  found = λ ns has. again_noted c.args.rule c.args.found _ ns c.args.name.now _ c.note_if.ensures (c.in_ok-was.ensures.was ∙ has c.args.name.now.text);
  table = λ ns has q. again_has _ _ ns c.args.name.now 0 q (has q) (c.in_ok-was.ensures.is q);
}
