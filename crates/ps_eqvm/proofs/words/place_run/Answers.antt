use Rattle.ps_eqvm.proofs.Runs.{in_run, off_run}
use Rattle.ps_eqvm.proofs.words.place_run.Goals as goal

pub returns-clause-inside : goal.returns-clause-inside
returns-clause-inside c = in_run c.args.words.now c.args.i c.args.count c.args.number c.with_run.result c.requires.within c.requires.fits c.with_run.ensures.inside

pub returns-clause-outside : goal.returns-clause-outside
returns-clause-outside c = off_run c.args.words.now c.args.i c.args.count c.args.number c.with_run.result c.requires.within c.requires.fits c.with_run.ensures.before c.with_run.ensures.after
