use Rattle.std.proofs.Common.{inl, inr, ◌≡◌, ℕ, ◌/◌, ◌%◌, length, ap, ◌∙◌, arith}
use Rattle.std.specs.Prelude.{slice_index}
use Rattle.std.specs.Int.{bit_at}
use Rattle.std.proofs.lemmas.Bool.{cases_lt, cases_eq}
use Rattle.std.proofs.lemmas.List.{get_or_past}
use Rattle.std.proofs.lemmas.Nat.Bits.{bit_at-zero}
use Rattle.ps_eqvm.proofs.words.are_clear.Goals as goal

pub loop-i-preserved : goal.loop-i-preserved
loop-i-preserved c = λ k low. elim (cases_eq k c.loop-i.i) [
  | inl last ↦ ap (λ (j : ℕ). slice_index c.args.words.now j) last ∙ omega arith
  | inr other ↦ c.loop-i.invariant k (omega (arith, low, other))
]

pub returns : goal.returns
returns c = λ is i.
    let zero : slice_index c.args.words.now (i / 64) ≡ 0 = elim (cases_lt (i / 64) (length c.args.words.now)) [
      | inl low ↦ c.loop-i.invariant (i / 64) (omega arith)
      | inr high ↦ get_or_past c.args.words.now (i / 64) 0 high
    ] in
    ap (λ (w : ℕ). bit_at w (i % 64)) zero ∙ bit_at-zero (i % 64)
