-- What is read of sixteen bytes, and which bytes load for no state.
use Rattle.std.proofs.Common.{◌≡◌, ℕ, ◌<◌, ◌^◌, Bool, true, false, List, length, refl, sym, ap, ◌∙◌, get_or}
use Rattle.std.specs.Prelude.{◌==◌, ◌&&◌, drop}
use Rattle.std.specs.List.{list_all}
use Rattle.std.proofs.lemmas.Bool.{and_parts, eqb-true, true≢false}
use Rattle.ps_model.specs.declared.kind.Kind.{Kind}
use Rattle.ps_model.specs.Blocks.{block}
use Rattle.ps_model.specs.Kept.{Kept}
use Rattle.ps_model.specs.Stored.{Loads, is_last, is_mode, be2, be4}
use Rattle.ps_model.proofs.Sixteen.{as_sixteen, short_code, stored_is, small_last, flag}
use Rattle.ps_block.specs.Images.{Reads}
use Rattle.ps_block.proofs.Loading.{code_in}

seven_zeros : (xs : List ℕ) → length xs ≡ 16 → list_all (λ b. b == 0) (drop 9 xs) ≡ true →
    (0 ≡ get_or xs 9 0) × (0 ≡ get_or xs 10 0) × (0 ≡ get_or xs 11 0) × (0 ≡ get_or xs 12 0) × (0 ≡ get_or xs 13 0) × (0 ≡ get_or xs 14 0) × (0 ≡ get_or xs 15 0)
seven_zeros xs long h =
    let p = and_parts _ _ (sym (ap (λ ys. list_all (λ b. b == 0) (drop 9 ys)) (as_sixteen xs long)) ∙ h) in
    let q = and_parts _ _ p.1 in
    let r = and_parts _ _ q.1 in
    let s = and_parts _ _ r.1 in
    let t = and_parts _ _ s.1 in
    let u = and_parts _ _ t.1 in
    let v = and_parts _ _ u.1 in
    (sym (eqb-true _ 0 p.0), sym (eqb-true _ 0 q.0), sym (eqb-true _ 0 r.0), sym (eqb-true _ 0 s.0), sym (eqb-true _ 0 t.0), sym (eqb-true _ 0 u.0), sym (eqb-true _ 0 v.0))

-- sixteen bytes, each as the kind keeps it, are those of what they hold
pub reads : (kind : Kind) (xs : List ℕ) (code time : ℕ) → length xs ≡ 16 → ((i : ℕ) → get_or xs i 0 < 256) → code ≡ be2 xs 0 → time ≡ be4 xs 5 →
    code < 2 ^ 16 → time < 2 ^ 32 → is_last (block kind).reset (get_or xs 2 0) ≡ true → is_last (block kind).auxiliary (get_or xs 3 0) ≡ true →
    is_mode kind code (get_or xs 4 0) ≡ true → list_all (λ b. b == 0) (drop 9 xs) ≡ true →
    Reads kind xs (record { code = code; last_reset = get_or xs 2 0 == 1; last_auxiliary = get_or xs 3 0 == 1; mode = get_or xs 4 0; time = time })
reads kind xs code time long fits is-code is-time code-fits time-fits reset auxiliary mode zeros =
    let z = seven_zeros xs long zeros in
    let same-reset = flag (get_or xs 2 0) (small_last (block kind).reset (get_or xs 2 0) reset) in
    let same-auxiliary = flag (get_or xs 3 0) (small_last (block kind).auxiliary (get_or xs 3 0) auxiliary) in
    let k : Kept = record { code = code; last_reset = get_or xs 2 0 == 1; last_auxiliary = get_or xs 3 0 == 1; mode = get_or xs 4 0; timer = time } in
    record {
      bytes_are = sym (stored_is xs k long fits is-code same-reset same-auxiliary refl is-time z.0 z.1 z.2 z.3 z.4 z.5 z.6);
      last_reset = ap (is_last (block kind).reset) same-reset ∙ reset;
      last_auxiliary = ap (is_last (block kind).auxiliary) same-auxiliary ∙ auxiliary;
      mode = mode;
      code_fits = code-fits;
      time_fits = time-fits;
    }

module _ (kind : Kind) (xs : List ℕ) where
  pub lasts_load : (k : Kept) → Loads kind xs k → (is_last (block kind).reset (get_or xs 2 0) && is_last (block kind).auxiliary (get_or xs 3 0)) ≡ true
  lasts_load k h =
      ap (λ l. is_last (block kind).reset (get_or l 2 0) && is_last (block kind).auxiliary (get_or l 3 0)) h.bytes_are
      ∙ (λ i. h.kept.last_reset i && h.kept.last_auxiliary i)

  pub mode_loads : (k : Kept) → Loads kind xs k → is_mode kind (be2 xs 0) (get_or xs 4 0) ≡ true
  mode_loads k h =
      ap (λ l. is_mode kind (be2 l 0) (get_or l 4 0)) h.bytes_are
      ∙ ap (λ c. is_mode kind c k.mode) (code_in k (short_code kind k.code h.kept.state)) ∙ h.kept.mode

  pub zeros_load : (k : Kept) → Loads kind xs k → list_all (λ b. b == 0) (drop 9 xs) ≡ true
  zeros_load k h = ap (λ l. list_all (λ b. b == 0) (drop 9 l)) h.bytes_are

-- what holds of all bytes that load, and not of these
pub not_loaded : (kind : Kind) (xs : List ℕ) (b : Bool) → ((k : Kept) → Loads kind xs k → b ≡ true) → b ≡ false → (k : Kept) → Loads kind xs k → ⊥
not_loaded kind xs b all none k h = true≢false (sym (all k h) ∙ none)
