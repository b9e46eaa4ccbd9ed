use Rattle.std.proofs.Common.{◌≡◌, ◌∙◌, ◌+◌, [], ap, drop, inl, inr, length, slice_get, subst, true, Some, arith}
use Rattle.std.specs.Prelude.{slice_index_or}
use Rattle.std.proofs.lemmas.Grind.{common_steps}
use Rattle.std.proofs.lemmas.List.{get_or_default}
use Rattle.ps_model.proofs.Rest.{rest_at}
use Rattle.ps_bench_why.proofs.Ordered.{order_all, order_first}
use Rattle.std.proofs.lemmas.Bool.{cases_lt}
use Rattle.std.proofs.lemmas.List.FromFn.{length-map-range_with_len}
use Rattle.ps_why.specs.Below.{first_line}
use Rattle.ps_why.specs.declared.lines.Line.{Line}
use Rattle.ps_bench_why.proofs.Tellings.{first_at, telling_all}
use Rattle.ps_bench_why.proofs.lines.tell_firsts.Goals as goal

pub tell_first-requires-clause-left : goal.tell_first-requires-clause-left
tell_first-requires-clause-left c =
    let d : Line = record { fact = 0; depth = 0 } in
    let count = length c.args.explanation.now.facts.items in
    ap (λ (l : Line). l.depth) (first_at c.args.firsts.now count c.loop-line.line-index d c.requires.firsts c.loop-line-test.true)

pub tell_first-requires-clause-fact : goal.tell_first-requires-clause-fact
tell_first-requires-clause-fact c =
    let d : Line = record { fact = 0; depth = 0 } in
    let count = length c.args.explanation.now.facts.items in
    let is = ap (λ (l : Line). l.fact) (first_at c.args.firsts.now count c.loop-line.line-index d c.requires.firsts c.loop-line-test.true) in
    omega (arith, is, c.loop-line-test.true, ap length c.requires.firsts, length-map-range_with_len first_line 0 count)

pub loop-line-preserved : goal.loop-line-preserved
loop-line-preserved c =
    let d : Line = record { fact = 0; depth = 0 } in
    let count = length c.args.explanation.now.facts.items in
    let i = c.loop-line.line-index in
    let is = ap (λ (l : Line). l.fact) (first_at c.args.firsts.now count i d c.requires.firsts c.loop-line-test.true) in (
      c.in_ok-tell_first.ensures.telling,
      c.in_ok-tell_first.ensures.none,
      λ m below.
          elim (cases_lt m i) [
            | inl earlier ↦ c.in_ok-tell_first.ensures.keeps m (c.loop-line.invariant.2 m earlier)
            | inr last ↦
                let same : i ≡ m = omega (arith, below, last) in
                subst (λ n. slice_get c.tell_first.new.told n ≡ Some true) (is ∙ same) c.in_ok-tell_first.ensures.tells
          ],
      c.in_ok-tell_first.ensures.order (drop (i + 1) c.args.firsts.now)
          (order_first c.args.explanation.now c.loop-line.lines.items (slice_index_or c.args.firsts.now i d) (drop (i + 1) c.args.firsts.now) (drop i c.args.firsts.now)
          (rest_at c.args.firsts.now i (slice_index_or c.args.firsts.now i d) c.loop-line-test.true
          (get_or_default c.args.firsts.now i d (slice_index_or c.args.firsts.now i d) c.loop-line-test.true)) c.loop-line.invariant.3),
    )

pub returns : goal.returns
returns c =
    let e = c.args.explanation.now in
    let count = length e.facts.items in
    let end : drop c.loop-line.line-index c.args.firsts.now ≡ [] = grind (arith, common_steps) in
    telling_all e c.loop-line.told c.loop-line.lines.items c.loop-line.invariant.0
    (λ n within. c.loop-line.invariant.2 n
    (omega (arith, within, c.loop-line-test.false, ap length c.requires.firsts, length-map-range_with_len first_line 0 count)))
    (order_all e c.loop-line.lines.items (drop c.loop-line.line-index c.args.firsts.now) end c.loop-line.invariant.3)
