-- What a step shows: its outputs and its diagnosis.
use Rattle.std.proofs.Common.{◌≡◌, ◌≢◌, ◌<◌, ◌+◌, ◌-◌, ◌∙◌, ◌++◌, ◌∷◌, ◌&&◌, [], ℕ, Bool, cond, false, List, length, map, drop, get_or, refl, sym, ap, arith, length-append, replicate, ⊎_elim}
use Rattle.std.specs.Prelude.{nat_le, nat_lt, ◌==◌}
use Rattle.std.specs.List.{range_with_len}
use Rattle.std.proofs.lemmas.List.{ext_get_or, get_or-replicate, length-replicate}
use Rattle.std.proofs.lemmas.List.FromFn.{length-map-range_with_len}
use Rattle.std.proofs.lemmas.Bool.{cases_Bool, eqb-true, eq-eqb, le-leb, true≢false}
use Rattle.ps_model.specs.declared.kind.Kind.{Kind}
use Rattle.ps_model.specs.Blocks.{block, outs, output_count, safe_output, ready_in, error_in}
use Rattle.ps_model.specs.Kept.{Kept}
use Rattle.ps_model.specs.Meaning.{diag_in}
use Rattle.ps_model.specs.Network.{Network, kind_at}
use Rattle.ps_block.specs.declared.block.Outs.{Outs}
use Rattle.ps_model.specs.PinBits.{pin_of}
use Rattle.ps_block.specs.Shown.{Shows}
use Rattle.ps_scan.specs.Instances.{KeptInstance, kept_instance}
use Rattle.ps_scan.specs.Cells.{Cells, instance_at}

same_ends : (xs ys : List Bool) (r e r' e' : Bool) → length xs ≡ length ys → xs ++ (r ∷ e ∷ []) ≡ ys ++ (r' ∷ e' ∷ []) → (r ≡ r') × (e ≡ e')
same_ends [] [] r e r' e' same is = (ap (λ bs. get_or bs 0 r) is, ap (λ bs. get_or bs 1 e) is)
same_ends [] (y ∷ ys) r e r' e' same is = absurd (omega arith)
same_ends (x ∷ xs) [] r e r' e' same is = absurd (omega arith)
same_ends (x ∷ xs) (y ∷ ys) r e r' e' same is = same_ends xs ys r e r' e' (omega arith) (ap (drop 1) is)

-- what a step says of its block is what its state says
pub diag_shown : (kind : Kind) (o : Outs) (k : Kept) → Shows kind o k → o.diag ≡ diag_in k.code
unfolding outs
diag_shown kind o k h =
    let n = length (block kind).outputs in
    let ends = same_ends (map (pin_of o.safe) (range_with_len 0 n)) (map (safe_output kind k.code k.mode) (range_with_len 0 n)) o.diag.ready o.diag.error (ready_in k.code) (error_in k.code)
    (length-map-range_with_len (pin_of o.safe) 0 n ∙ sym (length-map-range_with_len (safe_output kind k.code k.mode) 0 n)) h.outputs in
    λ i. record { ready = ends.0 i; error = ends.1 i; code = h.code i }

-- after the step of one instance each has its kind
pub kinds_kept : (net : Network) (w w' : Cells) (i : ℕ) (k : Kept) → ((j : ℕ) → (instance_at w j).kind ≡ kind_at net j) → ((j : ℕ) → j ≢ i → instance_at w' j ≡ instance_at w j) →
    instance_at w' i ≡ kept_instance (instance_at w i).kind k → (j : ℕ) → (instance_at w' j).kind ≡ kind_at net j
kinds_kept net w w' i k kinds others here j =
    ⊎_elim
    (λ y. let e : i ≡ j = eqb-true i j y in ap (λ n. (instance_at w' n).kind) (sym e) ∙ ap (λ (h : KeptInstance). h.kind) here ∙ ap (λ n. (instance_at w n).kind) e ∙ kinds j)
    (λ n. ap (λ (h : KeptInstance). h.kind) (others j (λ e. not_same i j n (sym e))) ∙ kinds j)
    (cases_Bool (i == j))
  where
    not_same : (i j : ℕ) → (i == j) ≡ false → i ≢ j
    not_same i j n e = absurd (true≢false (sym (eq-eqb i j e) ∙ n))

-- values that are FALSE at each place
pub all_false : (n : ℕ) (xs : List Bool) → length xs ≡ n → ((k : ℕ) → k < length xs → get_or xs k false ≡ false) → xs ≡ replicate n false
all_false n xs len each =
    ext_get_or false xs (replicate n false) (len ∙ sym (length-replicate n false))
    (λ i inside. each i inside ∙ sym (get_or-replicate n i false false (omega (arith, len, inside))))

-- values that are written from place 0 on
pub from_zero : (ins : List Bool) (s n : ℕ) (b : Bool) → length ins ≡ n → cond (nat_le 0 s && nat_lt s (0 + length ins)) (get_or ins (s - 0) false) b ≡ cond (nat_lt s n) (get_or ins s false) b
from_zero ins s n b len =
    let at : s - 0 ≡ s = omega arith in
    let end : 0 + length ins ≡ n = omega (arith, len) in
    ap (λ c. cond (c && nat_lt s (0 + length ins)) (get_or ins (s - 0) false) b) (le-leb 0 s (omega arith))
    ∙ ap (λ m. cond (nat_lt s m) (get_or ins (s - 0) false) b) end
    ∙ ap (λ m. cond (nat_lt s n) (get_or ins m false) b) at
