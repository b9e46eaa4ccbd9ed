use Rattle.std.proofs.Common.{ap, ◌∙◌, ◌||◌}
use Rattle.std.specs.Prelude.{◌==◌}
use Rattle.std.specs.List.{list_all, list_any}
use Rattle.ps_model.specs.Obligations.{obligations}
use Rattle.ps_checker.proofs.Marking.{no_mark_at_first}
use Rattle.ps_checker.proofs.covering.is_covered.Goals as goal

pub returns : goal.returns
returns c =
    c.all_covered.ensures
    ∙ ap (λ p. list_all p (obligations c.args.app.now))
    (λ i o. (c.mark_spoken.ensures.each o.node ∙ ap (λ b. b || list_any (λ l. l.node == o.node) c.args.lines.now) (no_mark_at_first 20000 o.node)) i)
