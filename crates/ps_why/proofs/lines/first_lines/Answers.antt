use Rattle.std.proofs.Common.{◌≡◌, ◌∙◌, ◌++◌, ◌∷◌, [], List, ap, sym, arith, map}
use Rattle.std.specs.List.{range_with_len}
use Rattle.std.proofs.lemmas.List.FromFn.{map-range_with_len_more}
use Rattle.ps_why.specs.Below.{first_line}
use Rattle.ps_why.specs.declared.lines.Line.{Line}
use Rattle.ps_why.proofs.lines.first_lines.Goals as goal

pub loop-fact-preserved : goal.loop-fact-preserved
loop-fact-preserved c =
    let k = c.loop-fact.fact in
    c.in_ok-push.ensures.items ∙ ap (λ (ls : List Line). ls ++ first_line k ∷ []) c.loop-fact.invariant
    ∙ sym (map-range_with_len_more first_line 0 k k (omega arith))

pub returns : goal.returns
returns c =
    let all : c.loop-fact.fact ≡ c.args.count = omega (arith, c.loop-fact-test.false, c.loop-fact.auto.fact-end) in
    c.loop-fact.invariant ∙ ap (λ n. map first_line (range_with_len 0 n)) all
