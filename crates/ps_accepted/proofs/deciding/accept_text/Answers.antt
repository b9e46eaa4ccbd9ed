use Rattle.ps_accepted.proofs.Decided.{accepted_whole, accepted_given, sourced_checked, sourced_stands}
use Rattle.ps_accepted.proofs.deciding.accept_text.Goals as goal

pub returns : goal.returns
returns c = record {
  decides = λ whole is.
      accepted_whole c.args.text.now whole c.accept_source.result is (accepted_given c.args.text.now c.accept_source.result c.accept_source.ensures);
  checked = sourced_checked c.args.text.now c.accept_source.result c.accept_source.ensures;
  sourced = sourced_stands c.args.text.now c.accept_source.result c.accept_source.ensures;
}
