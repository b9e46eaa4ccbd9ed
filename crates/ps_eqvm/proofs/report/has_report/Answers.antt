use Rattle.ps_eqvm.proofs.report.has_report.Goals as goal

pub outputs_hold-requires-clause-even : goal.outputs_hold-requires-clause-even
outputs_hold-requires-clause-even c = c.are_even-even.ensures.signals c.args.sizes.now.signals c.requires.sized.cells

pub diags_hold-requires-clause-even : goal.diags_hold-requires-clause-even
diags_hold-requires-clause-even c = c.are_even-even.ensures.signals c.args.sizes.now.signals c.requires.sized.cells
