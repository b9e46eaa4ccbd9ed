use Rattle.std.proofs.Common.{◌^◌, ◌<◌, arith}
use Rattle.ps_eqvm.proofs.Runs.{run_inside, run_before, run_after}
use Rattle.ps_eqvm.proofs.words.with_run.Goals as goal

pub returns-clause-inside : goal.returns-clause-inside
returns-clause-inside c = let small : c.args.word < 2 ^ 64 = omega arith in run_inside c.args.word c.args.number c.args.at c.args.count c.requires.fits c.requires.few small

pub returns-clause-before : goal.returns-clause-before
returns-clause-before c = let small : c.args.word < 2 ^ 64 = omega arith in run_before c.args.word c.args.number c.args.at c.args.count c.requires.fits c.requires.few small

pub returns-clause-after : goal.returns-clause-after
returns-clause-after c = let small : c.args.word < 2 ^ 64 = omega arith in run_after c.args.word c.args.number c.args.at c.args.count c.requires.fits c.requires.few small
