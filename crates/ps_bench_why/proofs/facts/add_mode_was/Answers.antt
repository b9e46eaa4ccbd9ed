use Rattle.std.specs.Prelude.{codes, decimal}
use Rattle.ps_bench_why.specs.Facts.{before_text}
use Rattle.ps_cover.proofs.Chains.{being, carry, chain4}
use Rattle.ps_model.specs.Network.{instance_name}
use Rattle.ps_bench_why.proofs.facts.add_mode_was.Goals as goal

pub returns : goal.returns
returns c =
    let m = c.args.m.now in
    carry c.add_before.result
    (λ last. chain4 c.args.text.now (instance_name m.app.now c.args.i) (codes " had latched mode ") (decimal c.args.mode) (before_text m.before)
    (being c.args.text.now c.name_of.result.now c.in_ok-extend_from_slice.ensures c.name_of.ensures) c.in_ok-extend_from_slice-2.ensures c.in_ok-add_number.ensures last)
    c.add_before.ensures
