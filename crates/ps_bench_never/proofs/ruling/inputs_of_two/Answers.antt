use Rattle.std.proofs.Common.{◌≡◌, ◌<◌, ◌∙◌, ◌++◌, ◌∷◌, [], map, sym, ap, arith}
use Rattle.std.specs.Prelude.{◌||◌}
use Rattle.std.proofs.lemmas.Grind.{common_steps}
use Rattle.std.specs.List.{range_with_len}
use Rattle.std.proofs.lemmas.List.FromFn.{map-range_with_len_more}
use Rattle.ps_model.specs.Network.{input_count}
use Rattle.ps_reach.specs.declared.asked.InputRule.{InputRule}
use Rattle.ps_bench_never.specs.Asked.{rule_by, rule_of_two}
use Rattle.ps_bench_never.specs.Wanted.{marked_at}
use Rattle.ps_bench_never.proofs.ruling.inputs_of_two.Goals as goal

pub loop-i-preserved : goal.loop-i-preserved
loop-i-preserved c =
    let i = c.loop-i.i in
    let net = c.args.app.now in
    let other = c.args.other.now in
    let file = c.args.file.now in
    let f = rule_of_two net other file in
    let inside : i < input_count net = omega arith in
    let within : i < input_count other = omega (arith, inside, c.requires) in
    let first : c.index.result.now ≡ marked_at c.in_ok-wanted.wanted.items i = grind (arith, common_steps) in
    let second : c.index-in-loop-i.result.now ≡ marked_at c.in_ok-also.also.items i = grind (arith, common_steps) in
    let one = first ∙ c.in_ok-wanted.ensures.marked i inside in
    let two = second ∙ c.in_ok-also.ensures.marked i within in
    let same : c.rule_by.result ≡ f i = c.rule_by.ensures ∙ ap (λ b. rule_by file b i) (c.either-is_wanted.ensures ∙ (λ x. one x || two x)) in
    c.in_ok-push.ensures.items ∙ ap (λ xs. xs ++ c.rule_by.result ∷ []) c.loop-i.invariant ∙ ap (λ (r : InputRule). map f (range_with_len 0 i) ++ r ∷ []) same
    ∙ sym (map-range_with_len_more f 0 i i (omega arith))
