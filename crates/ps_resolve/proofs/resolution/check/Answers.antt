use Rattle.std.proofs.Common.{None, map, refl, ◌++◌}
use Rattle.std.specs.List.{flat_map}
use Rattle.ps_parser.specs.StatementView.{statement_tree}
use Rattle.ps_names.specs.Offences.{noted}
use Rattle.ps_names.specs.Uses.{statement_uses, assigned, called, read_names}
use Rattle.ps_names.specs.Rules.{declared_twice, untyped, broken_by, pins_twice, assigned_twice, undriven, called_twice, uncalled, too_large}
use Rattle.ps_names.proofs.NamesAgain.{noted_two}
use Rattle.ps_resolve.proofs.resolution.check.Goals as goal

pub returns-clause-found : goal.returns-clause-found
returns-clause-found c =
    let es = c.args.entries.now in
    let ss = map statement_tree c.args.statements.now in
    let first = declared_twice es ++ flat_map untyped es ++ flat_map (broken_by es) (flat_map statement_uses ss) ++ flat_map pins_twice ss in
    let targets = assigned_twice ss in
    let drivers = flat_map (undriven (flat_map assigned ss) (read_names ss)) es in
    let callers = flat_map (uncalled (flat_map called ss)) es in
    let a = c.in_ok-table.ensures.found in
    let b = noted_two None c.in_ok-table.found (noted c.in_ok-table.found targets) first targets a refl in
    let d = noted_two None (noted c.in_ok-table.found targets) c.in_ok-driven.driven (first ++ targets) drivers b c.in_ok-driven.ensures in
    let e = noted_two None c.in_ok-driven.driven (noted c.in_ok-driven.driven (called_twice ss)) (first ++ targets ++ drivers) (called_twice ss) d refl in
    let f = noted_two None (noted c.in_ok-driven.driven (called_twice ss)) c.in_ok-called.called (first ++ targets ++ drivers ++ called_twice ss) callers e c.in_ok-called.ensures in
    noted_two None c.in_ok-called.called c.check_limits-all.result (first ++ targets ++ drivers ++ called_twice ss ++ callers) (too_large c.args.place es ss) f c.check_limits-all.ensures
