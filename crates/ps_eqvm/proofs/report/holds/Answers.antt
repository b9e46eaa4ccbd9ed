use Rattle.std.proofs.Common.{ap, ◌∙◌, sym}
use Rattle.std.specs.Prelude.{not}
use Rattle.ps_eqvm.proofs.report.holds.Goals as goal

pub returns-then-even : goal.returns-then-even
returns-then-even c = c.if-even.true ∙ sym (ap not (c.requires.even c.if-even.true c.args.s c.requires.signal))
