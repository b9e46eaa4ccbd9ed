use Rattle.std.proofs.Common.{None, map, ◌++◌}
use Rattle.std.specs.List.{flat_map}
use Rattle.ps_parser.specs.StatementView.{statement_tree}
use Rattle.ps_names.specs.Uses.{statement_uses}
use Rattle.ps_names.specs.Rules.{declared_twice, untyped, broken_by, pins_twice}
use Rattle.ps_names.proofs.NamesAgain.{noted_two}
use Rattle.ps_resolve.proofs.resolution.check_names.Goals as goal

pub returns-clause-found : goal.returns-clause-found
returns-clause-found c =
    let es = c.args.entries.now in
    let ss = map statement_tree c.args.statements.now in
    let uses = flat_map (broken_by es) (flat_map statement_uses ss) in
    let a = c.in_ok-table.ensures.found in
    let b = noted_two None c.in_ok-table.found c.check_types-found.result (declared_twice es) (flat_map untyped es) a c.check_types-found.ensures in
    let d = noted_two None c.check_types-found.result c.in_ok-found.found (declared_twice es ++ flat_map untyped es) uses b c.in_ok-found.ensures in
    noted_two None c.in_ok-found.found c.in_ok-found-2.found (declared_twice es ++ flat_map untyped es ++ uses) (flat_map pins_twice ss) d c.in_ok-found-2.ensures
