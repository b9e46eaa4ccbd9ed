use Rattle.std.proofs.Common.{◌≡◌, ◌∙◌, ◌++◌, None, Option, length, map, slice_get, sym, ap, append-nil, arith}
use Rattle.std.proofs.lemmas.Option.{slice_get_past}
use Rattle.ps_parser.specs.Tree.{SourceTree, StatementTree}
use Rattle.ps_bench_cover.specs.Standing.{step_operands}
use Rattle.ps_bench_cover.specs.Operands.{place_of}
use Rattle.ps_bench_cover.proofs.listing.push_step.Goals as goal

pub returns-then-at-len : goal.returns-then-at-len
returns-then-at-len c =
    let none : slice_get c.args.source.now.statements c.args.step ≡ None =
    slice_get_past c.args.source.now.statements c.args.step (omega (arith, c.if-at-len.true, c.len.ensures, ap (λ (t : SourceTree). length t.statements) c.source.view_is)) in
    sym (append-nil c.args.places.now.items)
    ∙ ap (λ (o : Option StatementTree). c.args.places.now.items ++ map place_of (step_operands c.args.app.now c.args.step o)) (sym none)
