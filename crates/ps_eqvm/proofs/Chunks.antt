-- The sixteen bytes of each instance, as channel B keeps them.
use Rattle.std.proofs.Common.{◌≡◌, ℕ, zero, suc, ◌+◌, ◌*◌, ◌<◌, ◌≤◌, List, [], ◌∷◌, ◌++◌, length, take, drop, get_or, refl, sym, ap, ◌∙◌, inl, inr, subst, lit<, arith, length-append, length-drop, take-append-drop}
use Rattle.std.specs.Prelude.{slice_index}
use Rattle.std.specs.Int.{w32, to_be_bytes}
use Rattle.std.proofs.lemmas.Bool.{cases_eq}
use Rattle.std.proofs.lemmas.List.{drop-drop, drop_at, take_at, nil_from_length, length-take-le}
use Rattle.ps_model.specs.Kept.{healed}
use Rattle.ps_model.specs.Stored.{kept_in}
use Rattle.ps_machine.specs.Bytes.{replaced}
use Rattle.ps_machine.proofs.Instances.{bytes_at, bytes_at_same, bytes_at_other}
use Rattle.ps_machine.proofs.Places.{length-replaced}
use Rattle.ps_eqvm.proofs.Again.{bytes-append}
use Rattle.ps_eqvm.specs.Restoring.{counted_block, counted_blocks}

pub length-counted : (limit t : ℕ) (bytes : List ℕ) → length bytes ≡ 16 → length (counted_block limit t bytes) ≡ 16
length-counted limit t bytes long = length-replaced bytes 5 (to_be_bytes w32 (healed limit t (kept_in bytes)).timer) (omega arith) ∙ long

-- the front of more than sixteen bytes
front_long : (n : ℕ) (blocks : List ℕ) → length blocks ≡ 16 * suc n → length (take 16 blocks) ≡ 16
front_long n blocks long = length-take-le 16 blocks (omega arith)

back_long : (n : ℕ) (blocks : List ℕ) → length blocks ≡ 16 * suc n → length (drop 16 blocks) ≡ 16 * n
back_long n blocks long = omega (arith, length-drop 16 blocks)

pub length-counted_blocks : (limits : List ℕ) (t : ℕ) (blocks : List ℕ) → length blocks ≡ 16 * length limits → length (counted_blocks limits t blocks) ≡ 16 * length limits
length-counted_blocks [] t blocks long = refl
length-counted_blocks (limit ∷ limits) t blocks long =
    let here = length-counted limit t (take 16 blocks) (front_long (length limits) blocks long) in
    let rest = length-counted_blocks limits t (drop 16 blocks) (back_long (length limits) blocks long) in
    omega (arith, length-append (counted_block limit t (take 16 blocks)) (counted_blocks limits t (drop 16 blocks)))

-- the bytes of a later instance
later : (front rest : List ℕ) (i : ℕ) → length front ≡ 16 → bytes_at (suc i) (front ++ rest) ≡ bytes_at i rest
later front rest i long =
    let e : 16 * suc i ≡ 16 + 16 * i = omega arith in
    ap (λ n. take 16 (drop n (front ++ rest))) e ∙ ap (take 16) (sym (drop-drop (16 * i) 16 (front ++ rest)) ∙ ap (drop (16 * i)) (drop_at front rest 16 long))

first_of_both : (front rest : List ℕ) → length front ≡ 16 → bytes_at 0 (front ++ rest) ≡ front
first_of_both front rest long = take_at front rest 16 long

later_of : (blocks : List ℕ) (i : ℕ) → bytes_at (suc i) blocks ≡ bytes_at i (drop 16 blocks)
later_of blocks i =
    let e : 16 * suc i ≡ 16 + 16 * i = omega arith in
    ap (λ n. take 16 (drop n blocks)) e ∙ ap (take 16) (sym (drop-drop (16 * i) 16 blocks))

-- each instance is counted by its limit
pub counted_at : (limits : List ℕ) (t : ℕ) (blocks : List ℕ) (i : ℕ) → length blocks ≡ 16 * length limits → i < length limits →
    bytes_at i (counted_blocks limits t blocks) ≡ counted_block (get_or limits i 0) t (bytes_at i blocks)
counted_at [] t blocks i long low = absurd (omega (arith, low))
counted_at (limit ∷ limits) t blocks zero long low =
    first_of_both (counted_block limit t (take 16 blocks)) (counted_blocks limits t (drop 16 blocks)) (length-counted limit t (take 16 blocks) (front_long (length limits) blocks long))
counted_at (limit ∷ limits) t blocks (suc i) long low =
    later (counted_block limit t (take 16 blocks)) (counted_blocks limits t (drop 16 blocks)) i (length-counted limit t (take 16 blocks) (front_long (length limits) blocks long))
    ∙ counted_at limits t (drop 16 blocks) i (back_long (length limits) blocks long) (omega (arith, low))
    ∙ ap (counted_block (get_or limits i 0) t) (sym (later_of blocks i))

-- bytes of which each instance is counted are all counted
pub all_counted : (limits : List ℕ) (t : ℕ) (old new : List ℕ) → length old ≡ 16 * length limits → length new ≡ 16 * length limits →
    ((i : ℕ) → i < length limits → bytes_at i new ≡ counted_block (get_or limits i 0) t (bytes_at i old)) → new ≡ counted_blocks limits t old
all_counted [] t old new long same each = nil_from_length new (same ∙ refl)
all_counted (limit ∷ limits) t old new long same each =
    let rest = all_counted limits t (drop 16 old) (drop 16 new) (back_long (length limits) old long) (back_long (length limits) new same)
    (λ i low. sym (later_of new i) ∙ each (suc i) (omega (arith, low)) ∙ ap (counted_block (get_or limits i 0) t) (later_of old i)) in
    sym (take-append-drop 16 new) ∙ (λ j. each 0 (omega arith) j ++ rest j)

-- one more instance is counted
pub record CountedTo (limits : List ℕ) (t : ℕ) (old new : List ℕ) (i : ℕ) : Type 0 where
  pub done : (j : ℕ) → j < i → bytes_at j new ≡ counted_block (get_or limits j 0) t (bytes_at j old)
  pub rest : (j : ℕ) → i ≤ j → bytes_at j new ≡ bytes_at j old

pub counted_more : (limits : List ℕ) (t : ℕ) (old new : List ℕ) (i : ℕ) → 16 * i + 16 ≤ length new → CountedTo limits t old new i →
    CountedTo limits t old (replaced new (16 * i) (counted_block (get_or limits i 0) t (bytes_at i new))) (i + 1)
counted_more limits t old new i room h =
    let block = counted_block (get_or limits i 0) t (bytes_at i new) in
    let long : length block ≡ 16 = length-counted (get_or limits i 0) t (bytes_at i new) (length-take-le 16 (drop (16 * i) new) (omega (arith, length-drop (16 * i) new))) in
    let own : bytes_at i (replaced new (16 * i) block) ≡ counted_block (get_or limits i 0) t (bytes_at i old) =
    bytes_at_same new block i room long ∙ ap (counted_block (get_or limits i 0) t) (h.rest i (omega arith)) in
    record {
      done = λ j low. elim (cases_eq j i) [
        | inl same ↦ ap (λ k. bytes_at k (replaced new (16 * i) block)) same ∙ own ∙ ap (λ k. counted_block (get_or limits k 0) t (bytes_at k old)) (sym same)
        | inr other ↦ bytes_at_other new block i j room long other ∙ h.done j (omega arith)
      ];
      rest = λ j high. bytes_at_other new block i j room long (λ e. omega arith) ∙ h.rest j (omega arith);
    }

-- where the bytes of each counted instance are bytes, all are
pub counted_blocks_bytes : (limits : List ℕ) (t : ℕ) (blocks : List ℕ) → ((i : ℕ) → i < length limits → (k : ℕ) → slice_index (counted_block (get_or limits i 0) t (bytes_at i blocks)) k < 256) →
    (k : ℕ) → slice_index (counted_blocks limits t blocks) k < 256
counted_blocks_bytes [] t blocks each k = lit< tt
counted_blocks_bytes (limit ∷ limits) t blocks each k =
    bytes-append (counted_block limit t (take 16 blocks)) (counted_blocks limits t (drop 16 blocks)) (each 0 (omega arith))
    (counted_blocks_bytes limits t (drop 16 blocks) (λ i low j.
    subst (λ l. slice_index l j < 256) (ap (counted_block (get_or limits i 0) t) (later_of blocks i)) (each (suc i) (omega (arith, low)) j))) k
