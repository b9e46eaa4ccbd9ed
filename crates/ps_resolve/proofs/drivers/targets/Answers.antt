use Rattle.std.proofs.Common.{map, take, [], ◌++◌, ap, ◌∙◌, sym}
use Rattle.std.specs.List.{flat_map, list_any}
use Rattle.ps_names.proofs.NamesAgain.{names_more, noted_next}
use Rattle.ps_resolve.proofs.drivers.targets.Goals as goal
use Rattle.ps_base.specs.LetterCase.{is_same_name}
use Rattle.ps_names.specs.Offences.{noted}
use Rattle.ps_names.specs.Rules.{repeated}
use Rattle.ps_names.specs.Uses.{assigned}
use Rattle.ps_parser.specs.StatementView.{statement_tree}
use Rattle.ps_base.specs.declared.failing.Rule.TheVariants.{N7}

pub loop-i-preserved : goal.loop-i-preserved
loop-i-preserved c =
    let xs = c.args.statements.now in let i = c.loop-i.i in let d = c.index-statements-i.result in
    let ns = flat_map assigned (map statement_tree (take i xs)) in
    let new = assigned (statement_tree d) in
    let more = names_more assigned statement_tree xs i d c.loop-i-test.true ∙ ap (λ s. ns ++ assigned (statement_tree s)) (sym c.index-statements-i.is) in
    record {
      table = λ q. c.in_ok-found.ensures.table ns c.loop-i.invariant.table q ∙ ap (list_any (λ n. is_same_name q n.text)) (sym more);
      found = noted_next N7 c.args.found c.loop-i.found c.in_ok-found.found ns new c.loop-i.invariant.found (c.in_ok-found.ensures.found ns c.loop-i.invariant.table)
          ∙ ap (λ l. noted c.args.found (repeated N7 [] l)) (sym more);
    }
