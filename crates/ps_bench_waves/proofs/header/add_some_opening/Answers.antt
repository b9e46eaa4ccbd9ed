use Rattle.std.proofs.Common.{List, ℕ, ◌++◌, ◌∙◌, ap, append_assoc, codes, flat_map}
use Rattle.std.proofs.lemmas.Result.{on_ok_weaker}
use Rattle.ps_bench_waves.specs.Declarations.{opening_byte}
use Rattle.ps_bench_waves.proofs.header.add_some_opening.Goals as goal

pub returns : goal.returns
returns c =
    let text = c.args.text.now in let first = codes "$scope module " in let names = flat_map opening_byte c.args.scope.now in let last = codes " $end\n" in
    on_ok_weaker c.extend_from_slice-2.result
    (λ is. is ∙ ap (λ (bytes : List ℕ). bytes ++ last) (c.in_ok-add_names.ensures ∙ ap (λ (bytes : List ℕ). bytes ++ names) c.in_ok-extend_from_slice.ensures)
    ∙ append_assoc (text ++ first) names last ∙ append_assoc text first (names ++ last)) c.extend_from_slice-2.ensures
