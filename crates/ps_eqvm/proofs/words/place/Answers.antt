use Rattle.std.proofs.Common.{inl, inr, ℕ, sym, ap, ◌∙◌, arith, lit<, add-zero}
use Rattle.std.specs.Int.{bit_at}
use Rattle.std.proofs.lemmas.Bool.{cases_lt}
use Rattle.ps_eqvm.specs.Bits.{bit_in}
use Rattle.ps_eqvm.proofs.LowBits.{bit_first, byte_bit}
use Rattle.ps_eqvm.proofs.words.place.Goals as goal

pub returns-clause-same : goal.returns-clause-same
returns-clause-same c =
    let on = c.args.on in
    ap (bit_in c.place_run.new.words) (sym (add-zero c.args.i)) ∙ c.place_run.ensures.inside 0 (lit< tt)
    ∙ ap (λ (n : ℕ). bit_at n 0) (c.from.ensures ∙ byte_bit on) ∙ bit_first on

pub returns-clause-others : goal.returns-clause-others
returns-clause-others c = λ j other. elim (cases_lt j c.args.i) [
  | inl low ↦ c.place_run.ensures.outside j (inl low)
  | inr high ↦ c.place_run.ensures.outside j (inr (omega (arith, high, other)))
]
