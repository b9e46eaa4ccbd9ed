use Rattle.std.proofs.Common.{◌<◌, length, arith}
use Rattle.ps_bench_frame.proofs.Holding.{all_held}
use Rattle.ps_bench_frame.proofs.held.HeldText.of_file.Goals as goal

pub returns-then-len-most-clause-text : goal.returns-then-len-most-clause-text
returns-then-len-most-clause-text g c = λ tells.
    let few : length c.in-Ok.text < c.args.most = omega (arith, c.if-len-most.true, c.len.ensures) in
    all_held (g.F.Files.held c.args.files.now c.args.name.now) c.in-Ok.text c.args.most (c.in-Ok.ensures.found tells) (c.in-Ok.ensures.bytes tells) few
