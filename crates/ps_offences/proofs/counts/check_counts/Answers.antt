use Rattle.std.proofs.Common.{map, ap, ◌∙◌, arith}
use Rattle.std.specs.List.{flat_map}
use Rattle.std.proofs.lemmas.List.{take_all}
use Rattle.ps_parser.specs.StatementView.{statement_tree}
use Rattle.ps_names.specs.Offences.{noted}
use Rattle.ps_names.specs.Uses.{called}
use Rattle.ps_names.proofs.NamesAgain.{flat_noted}
use Rattle.ps_derived.specs.declared.declared.Declared.{Declared}
use Rattle.ps_offences.specs.BlockRules.{called_wrongly}
use Rattle.ps_offences.proofs.Tallying.{counts_same}
use Rattle.ps_offences.proofs.counts.check_counts.Goals as goal

pub loop-declared-preserved : goal.loop-declared-preserved
loop-declared-preserved c = λ cs ns calls names.
    let g = called_wrongly c.args.body.now.before.now cs ns in
    flat_noted g c.args.found c.loop-declared.found c.in_ok-found.found c.as_slice-declared-items.result.now c.loop-declared.declared-index c.declared-item.result c.loop-declared-test.true
    (c.loop-declared.invariant cs ns calls names) (c.in_ok-found.ensures cs ns calls names ∙ ap (λ x. noted c.loop-declared.found (g x)) c.declared-item.is)

pub returns : goal.returns
returns c =
    let cs = flat_map called (map statement_tree c.args.statements.now) in
    let ns = map (λ (d : Declared). d.name) c.args.body.now.scope.now in
    c.loop-declared.invariant cs ns c.in_ok-calls.ensures (counts_same c.in_ok-names.names _ _ (ap (map (λ (d : Declared). d.name)) c.as_slice.ensures) c.in_ok-names.ensures)
    ∙ ap (λ ds. noted c.args.found (flat_map (called_wrongly c.args.body.now.before.now cs ns) ds)) (take_all c.loop-declared.declared-index c.as_slice-declared-items.result.now (omega arith) ∙ c.as_slice-declared-items.ensures)
