use Rattle.std.proofs.Common.{◌∷◌, [], ◌∙◌, sym}
use Rattle.ps_bench_waves.proofs.Steps.{octet_is}
use Rattle.ps_bench_waves.proofs.change.octet.Goals as goal

pub returns : goal.returns
returns c =
    (λ i. c.digit.ensures i ∷ c.digit-2.ensures i ∷ c.digit-3.ensures i ∷ c.digit-4.ensures i ∷ c.digit-5.ensures i
    ∷ c.digit-6.ensures i ∷ c.digit-7.ensures i ∷ c.digit-8.ensures i ∷ [])
    ∙ sym (octet_is c.args.number)
