use Rattle.std.proofs.Common.{map, take, [], ap, ◌∙◌, sym, arith}
use Rattle.std.specs.List.{list_any}
use Rattle.std.proofs.lemmas.List.{map_more, take_all}
use Rattle.ps_base.specs.declared.failing.Rule.TheVariants.{B3}
use Rattle.ps_parser.specs.declared.statement.Argument.{Argument}
use Rattle.ps_parser.specs.ArgumentView.{argument_tree}
use Rattle.ps_base.specs.LetterCase.{is_same_name}
use Rattle.ps_names.specs.Offences.{noted}
use Rattle.ps_names.specs.Rules.{repeated}
use Rattle.ps_names.proofs.Lists.{map_map}
use Rattle.ps_names.proofs.NamesAgain.{noted_next, has_same}
use Rattle.ps_offences.proofs.calls.pins_of.Goals as goal

pub loop-i-preserved : goal.loop-i-preserved
loop-i-preserved c =
    let xs = c.args.arguments.now in let i = c.loop-i.i in let d = c.index-arguments-i.result in
    let ns = map (λ (a : Argument). a.pin) (take i xs) in
    let more = map_more (λ (a : Argument). a.pin) xs i d c.loop-i-test.true in
    record {
      table = λ q. c.in_ok-found.ensures.table ns c.loop-i.invariant.table q ∙ ap (list_any (λ n. is_same_name q n.text)) (sym more);
      found = noted_next B3 c.args.found c.loop-i.found c.in_ok-found.found ns _ c.loop-i.invariant.found (c.in_ok-found.ensures.found ns c.loop-i.invariant.table)
          ∙ ap (λ l. noted c.args.found (repeated B3 [] l)) (sym more);
    }

pub returns-clause-table : goal.returns-clause-table
returns-clause-table c =
    has_same c.loop-i.pins _ _ (ap (map (λ (a : Argument). a.pin)) (take_all c.loop-i.i c.args.arguments.now (omega arith)) ∙ sym (map_map (λ a. a.pin) argument_tree c.args.arguments.now)) c.loop-i.invariant.table

pub returns-clause-found : goal.returns-clause-found
returns-clause-found c =
    c.loop-i.invariant.found
    ∙ ap (λ l. noted c.args.found (repeated B3 [] l)) (ap (map (λ (a : Argument). a.pin)) (take_all c.loop-i.i c.args.arguments.now (omega arith)) ∙ sym (map_map (λ a. a.pin) argument_tree c.args.arguments.now))
