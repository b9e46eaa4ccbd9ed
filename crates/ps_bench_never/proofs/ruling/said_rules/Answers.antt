use Rattle.std.proofs.Common.{◌≡◌, ◌∙◌, ◌++◌, ◌∷◌, [], map, sym, ap, arith}
use Rattle.std.specs.List.{range_with_len}
use Rattle.std.proofs.lemmas.List.FromFn.{map-range_with_len_more}
use Rattle.ps_reach.specs.declared.asked.InputRule.{InputRule}
use Rattle.ps_bench_never.specs.Asked.{said_of}
use Rattle.ps_bench_never.proofs.ruling.said_rules.Goals as goal

pub loop-i-preserved : goal.loop-i-preserved
loop-i-preserved c =
    let i = c.loop-i.i in
    let f = said_of c.args.file.now in
    c.in_ok-push.ensures.items ∙ ap (λ xs. xs ++ c.rule_by.result ∷ []) c.loop-i.invariant
    ∙ ap (λ (r : InputRule). map f (range_with_len 0 i) ++ r ∷ []) c.rule_by.ensures ∙ sym (map-range_with_len_more f 0 i i (omega arith))
