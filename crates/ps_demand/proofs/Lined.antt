-- The lines of the safe outputs, one after another.
use Rattle.std.proofs.Common.{◌≡◌, ◌≤◌, ◌+◌, ◌-◌, ◌++◌, ℕ, zero, suc, true, false, List, [], ◌∷◌, filter, ap, ◌∙◌, append-nil, arith}
use Rattle.std.specs.Prelude.{flat_map}
use Rattle.std.specs.List.{range_with_len}
use Rattle.std.proofs.lemmas.Bool.{cond-true, cond-false}
use Rattle.std.proofs.lemmas.Grind.{flat_map-append}
use Rattle.std.proofs.lemmas.List.Elements.{filter-append}
use Rattle.ps_model.specs.Network.{Network, input_count}
use Rattle.ps_model.specs.Typing.{is_safe_signal}
use Rattle.ps_demand.specs.Lines.{demand_line}

range_more : (a n j : ℕ) → a + n ≡ j → range_with_len a (n + 1) ≡ range_with_len a n ++ j ∷ []
range_more a zero j e = ap (λ x. x ∷ []) (let same : a ≡ j = omega (arith, e) in same)
range_more a (suc n) j e =
    let more : suc n + 1 ≡ suc (n + 1) = omega arith in
    ap (range_with_len a) more ∙ ap (λ xs. a ∷ xs) (range_more (a + 1) n j (omega (arith, e)))

module _ (net : Network) where
  -- the lines of the safe outputs before a signal
  abbrev pub lines_before : ℕ → List ℕ
  lines_before s = flat_map (demand_line net) (filter (is_safe_signal net) (range_with_len (input_count net) (s - input_count net)))

  one_more : (s : ℕ) → input_count net ≤ s →
      lines_before (s + 1) ≡ lines_before s ++ flat_map (demand_line net) (filter (is_safe_signal net) (s ∷ []))
  one_more s behind =
      let first = input_count net in
      let n = s - first in
      let place : (s + 1) - first ≡ n + 1 = omega (arith, behind) in
      let f = demand_line net in
      let p = is_safe_signal net in
      ap (λ m. flat_map f (filter p (range_with_len first m))) place
      ∙ ap (λ xs. flat_map f (filter p xs)) (range_more first n s (omega (arith, behind)))
      ∙ ap (flat_map f) (filter-append p (range_with_len first n) (s ∷ []))
      ∙ flat_map-append f (filter p (range_with_len first n)) (filter p (s ∷ []))

  pub with_line : (s : ℕ) → input_count net ≤ s → is_safe_signal net s ≡ true → lines_before (s + 1) ≡ lines_before s ++ demand_line net s
  with_line s behind is =
      one_more s behind
      ∙ ap (λ xs. lines_before s ++ flat_map (demand_line net) xs) (cond-true (is_safe_signal net s) (s ∷ []) [] is)
      ∙ ap (λ xs. lines_before s ++ xs) (append-nil (demand_line net s))

  pub without_line : (s : ℕ) → input_count net ≤ s → is_safe_signal net s ≡ false → lines_before (s + 1) ≡ lines_before s
  without_line s behind is =
      one_more s behind
      ∙ ap (λ xs. lines_before s ++ flat_map (demand_line net) xs) (cond-false (is_safe_signal net s) (s ∷ []) [] is)
      ∙ append-nil (lines_before s)
