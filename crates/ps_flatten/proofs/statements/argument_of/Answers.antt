use Rattle.std.proofs.Common.{sym, ap, ◌∙◌}
use Rattle.std.specs.Option.{option_map}
use Rattle.ps_parser.specs.declared.statement.Argument.{Argument}
use Rattle.ps_parser.specs.ArgumentView.{argument_tree}
use Rattle.ps_derived.specs.Bodies.{same}
use Rattle.ps_derived.proofs.Lookups.{found_map, found_none, found_at}
use Rattle.ps_flatten.proofs.statements.argument_of.Goals as goal

pub returns-in-None : goal.returns-in-None
returns-in-None c =
    let n = c.args.pin.now in
    ap (option_map argument_tree) (found_none (λ (a : Argument). same n a.pin) c.args.arguments.now (sym c.in-None.is ∙ c.in_ok-place_of.ensures ∙ c.requires n.text))
    ∙ sym (found_map argument_tree (λ a. same n a.pin) c.args.arguments.now)

pub returns-then-k-arguments : goal.returns-then-k-arguments
returns-then-k-arguments c =
    let n = c.args.pin.now in
    ap (option_map argument_tree) (found_at (λ (a : Argument). same n a.pin) c.args.arguments.now c.in-Some.k c.index-arguments-k.result (sym c.in-Some.is ∙ c.in_ok-place_of.ensures ∙ c.requires n.text) c.if-k-arguments.true c.index-arguments-k.is)
    ∙ sym (found_map argument_tree (λ a. same n a.pin) c.args.arguments.now)
