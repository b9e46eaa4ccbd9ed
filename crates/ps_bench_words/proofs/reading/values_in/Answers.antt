use Rattle.std.proofs.Common.{◌∙◌, [], sym, ap}
use Rattle.std.specs.Prelude.{option_map, unwrap_or}
use Rattle.std.proofs.lemmas.Result.{IfOk-weaker}
use Rattle.clap.specs.Words.{found_of}
use Rattle.ps_bench_words.specs.Seen.{seen}
use Rattle.ps_bench_words.proofs.Given.{values_given}
use Rattle.ps_bench_words.proofs.reading.values_in.Goals as goal

pub returns-in-Some : goal.returns-in-Some
returns-in-Some c =
    let given = values_given (found_of c.args.values.now) c.args.id.now c.get_strs.result c.get_strs.ensures in
    IfOk-weaker c.copied.result _ _ (λ copy is. is ∙ ap (λ o. unwrap_or o []) (sym (ap (option_map (λ s. seen s.now)) c.in-Some.is) ∙ given)) c.copied.ensures

pub returns-in-None : goal.returns-in-None
returns-in-None c =
    let given = values_given (found_of c.args.values.now) c.args.id.now c.get_strs.result c.get_strs.ensures in
    ap seen c.new.ensures.items ∙ ap (λ o. unwrap_or o []) (sym (ap (option_map (λ s. seen s.now)) c.in-None.is) ∙ given)
