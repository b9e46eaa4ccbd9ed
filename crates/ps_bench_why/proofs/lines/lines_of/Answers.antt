use Rattle.std.proofs.Common.{◌≡◌, ◌∙◌, [], ap, length, map, subst, sym, arith}
use Rattle.std.specs.List.{range_with_len}
use Rattle.ps_why.specs.Below.{first_line}
use Rattle.ps_bench_why.specs.Pending.{IsInOrder}
use Rattle.ps_bench_why.proofs.Ordered.{order_none}
use Rattle.ps_bench_why.proofs.lines.lines_of.Goals as goal

pub tell_firsts-requires-clause-firsts : goal.tell_firsts-requires-clause-firsts
tell_firsts-requires-clause-firsts c =
    let all : c.in-Ok.count ≡ length c.args.explanation.now.facts.items = omega (arith, c.in-Ok.ensures, c.len.ensures) in
    c.as_slice.ensures.value ∙ c.in_ok-firsts.ensures ∙ ap (λ n. map first_line (range_with_len 0 n)) all

pub tell_firsts-requires-clause-order : goal.tell_firsts-requires-clause-order
tell_firsts-requires-clause-order c =
    let e = c.args.explanation.now in
    let firsts = tell_firsts-requires-clause-firsts c in
    subst (λ ls. IsInOrder e ls [] c.as_slice.result.now) (sym c.in_ok-lines.ensures.items) (order_none e c.as_slice.result.now firsts)
