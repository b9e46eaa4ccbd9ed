use Rattle.std.proofs.Common.{◌≡◌, ◌+◌, length, ap, ◌∙◌, sym, arith}
use Rattle.ps_model.specs.Blocks.{outs}
use Rattle.ps_model.proofs.OutputLengths.{length-outs, output_count_is}
use Rattle.ps_eqvm.proofs.plain.put_outputs.Goals as goal

pub put_run-requires-clause-room : goal.put_run-requires-clause-room
put_run-requires-clause-room c = let count = output_count_is c.args.kind in omega (arith, count, c.requires.room, c.safe_outputs-safe.ensures.count)

pub returns : goal.returns
returns c =
    let a = c.args in
    let count = output_count_is a.kind in
    let all : length (outs a.kind a.code a.mode) ≡ c.safe_outputs-safe.result + 2 = length-outs a.kind a.code a.mode ∙ count ∙ ap (λ n. n + 2) (sym c.safe_outputs-safe.ensures.count) in
    c.put_run.ensures (outs a.kind a.code a.mode) all c.outputs.ensures
