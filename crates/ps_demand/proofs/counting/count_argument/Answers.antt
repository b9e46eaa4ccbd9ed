use Rattle.std.proofs.Common.{[], ◌∷◌, subst, arith}
use Rattle.std.specs.Prelude.{All}
use Rattle.ps_model.specs.declared.step.Arg.{Arg}
use Rattle.ps_model.specs.Args.{actual}
use Rattle.ps_model.specs.Exprs.{formula}
use Rattle.ps_model.specs.Network.{signal_count}
use Rattle.ps_model.specs.Values.{IsBelow, values_at_pin}
use Rattle.ps_demand.proofs.counting.count_argument.Goals as goal

pub count_value-requires-clause-below : goal.count_value-requires-clause-below
count_value-requires-clause-below c =
    let P = IsBelow (signal_count c.args.app.now) in
    let here : All P (formula c.in-Value.e ∷ []) = subst (λ (a : Arg). All P (values_at_pin (actual a))) c.in-Value.is c.requires.below in
    here 0 (formula c.in-Value.e) (omega arith)
