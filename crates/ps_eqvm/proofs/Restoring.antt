-- Channel B stands for what the bytes stand for that it is restored from.
use Rattle.std.proofs.Common.{◌≡◌, ℕ, ◌+◌, ◌*◌, ◌<◌, ◌^◌, List, [], ◌∷◌, ◌++◌, length, take, drop, get_or, refl, sym, ap, ◌∙◌, subst, inl, inr, arith, length-append, length-drop, zero-add}
use Rattle.std.specs.Prelude.{slice_index, replicate}
use Rattle.std.specs.Int.{w32, to_be_bytes, from_be_bytes}
use Rattle.std.proofs.lemmas.Bool.{cases_lt}
use Rattle.std.proofs.lemmas.List.{get_or-drop, get_or-take, get_or_past, drop-drop, drop_at, length-take-le, length-replicate, get_or_append_left}
use Rattle.ps_model.specs.declared.sizes.Sizes.{Sizes}
use Rattle.ps_model.specs.Kept.{Since, Remains}
use Rattle.ps_model.specs.Network.{Network, signal_count, instance_count, kind_at}
use Rattle.ps_model.specs.Scanning.{State, signal_in, block_in}
use Rattle.ps_model.specs.Sized.{AreSizesOf}
use Rattle.ps_model.specs.Sound.{IsSound}
use Rattle.ps_machine.specs.Bytes.{bit, be4, replaced, instance_bytes}
use Rattle.ps_machine.specs.Standing.{LoadsTo, AreCellsOf, limit_in}
use Rattle.ps_machine.proofs.Carrying.{drop_written}
use Rattle.ps_machine.proofs.Instances.{bytes_at, block_is}
use Rattle.ps_machine.proofs.Places.{length-replaced, index_before, be4_within}
use Rattle.ps_eqvm.specs.Channel.{blank_b}
use Rattle.ps_eqvm.specs.Plain.{complement}
use Rattle.ps_eqvm.specs.Restoring.{counted_block, counted_blocks, counted, restored_b}
use Rattle.ps_eqvm.specs.Stands.{StandsB}
use Rattle.ps_eqvm.proofs.Again.{twice, bytes-append, four}
use Rattle.ps_eqvm.proofs.Complements.{complement_replicate, complement_replaced}
use Rattle.ps_eqvm.proofs.StoredBytes.{bit_low}
use Rattle.ps_eqvm.proofs.Chunks.{counted_at, length-counted_blocks, counted_blocks_bytes}
use Rattle.ps_eqvm.proofs.Healed.{limit_in_small, counted_stands, counted_bytes}

module _ (net : Network) (z : Sizes) (sizes : AreSizesOf net z) where
  module _ (sound : IsSound net) (limits : List ℕ) (many : length limits ≡ z.instances) (each : (i : ℕ) → i < instance_count net → get_or limits i 0 ≡ limit_in net i)
      (w : State) (t : ℕ) (carry : List ℕ) (small : t < 2 ^ 32) (h : AreCellsOf net (λ i. Since t) w 0 carry) where
    length-carry : length carry ≡ z.signals + 16 * z.instances
    length-carry = omega (arith, h.sized, sizes.signals, sizes.instances)

    blocks : List ℕ
    blocks = drop z.signals carry

    length-blocks : length blocks ≡ 16 * length limits
    unfolding blocks
    length-blocks = omega (arith, length-drop z.signals carry, length-carry, many)

    rest : List ℕ
    rest = counted z limits t carry

    rest_is : rest ≡ take z.signals carry ++ counted_blocks limits t blocks
    unfolding rest blocks
    rest_is = refl

    length-front : length (take z.signals carry) ≡ z.signals
    length-front = length-take-le z.signals carry (omega (arith, length-carry))

    length-rest : length rest ≡ z.signals + 16 * z.instances
    length-rest =
        ap length rest_is
        ∙ omega (arith, length-append (take z.signals carry) (counted_blocks limits t blocks), length-front, length-counted_blocks limits t blocks length-blocks, many)

    -- a signal among what is carried
    signal_at : (s : ℕ) → s < signal_count net → slice_index carry s ≡ bit (signal_in w s)
    signal_at s low = ap (slice_index carry) (sym (zero-add s)) ∙ h.signals s low

    -- the sixteen bytes of an instance
    block_at : (i : ℕ) → bytes_at i blocks ≡ instance_bytes (0 + signal_count net) i carry
    unfolding blocks
    block_at i =
        sym (block_is (0 + signal_count net) i carry (drop z.signals carry) (ap (λ n. drop n carry) (zero-add (signal_count net) ∙ sym sizes.signals)))

    stands_at : (i : ℕ) → i < instance_count net → LoadsTo (Since t) (kind_at net i) (bytes_at i blocks) (block_in w i)
    stands_at i low = subst (λ b. LoadsTo (Since t) (kind_at net i) b (block_in w i)) (sym (block_at i)) (h.blocks i low)

    counted_stands_at : (i : ℕ) → i < instance_count net → LoadsTo (Remains (limit_in net i)) (kind_at net i) (bytes_at i (counted_blocks limits t blocks)) (block_in w i)
    counted_stands_at i low =
        subst (λ b. LoadsTo (Remains (limit_in net i)) (kind_at net i) b (block_in w i))
        (sym (counted_at limits t blocks i length-blocks (omega (arith, many, sizes.instances, low)) ∙ ap (λ l. counted_block l t (bytes_at i blocks)) (each i low)))
        (counted_stands (kind_at net i) (limit_in net i) t (bytes_at i blocks) (block_in w i) (limit_in_small net sound i) (stands_at i low))

    -- what is carried are bytes
    signal_bytes : (s : ℕ) → slice_index (take z.signals carry) s < 256
    signal_bytes s =
        elim (cases_lt s z.signals) [
          | inl low ↦
              let low_bit = bit_low (signal_in w s) in
              let e = get_or-take z.signals carry s 0 low ∙ signal_at s (omega (arith, sizes.signals)) in
              omega arith
          | inr high ↦ let e = get_or_past (take z.signals carry) s 0 (omega (arith, length-front)) in omega arith
        ]

    rest_bytes : (i : ℕ) → slice_index rest i < 256
    rest_bytes i =
        subst (λ l. slice_index l i < 256) (sym rest_is)
        (bytes-append (take z.signals carry) (counted_blocks limits t blocks) signal_bytes
        (counted_blocks_bytes limits t blocks (λ j low k.
        let here : j < instance_count net = omega (arith, many, sizes.instances, low) in
        counted_bytes (kind_at net j) (get_or limits j 0) t (bytes_at j blocks) (block_in w j) (stands_at j here) k)) i)

    time : List ℕ
    time = to_be_bytes w32 t

    size : ℕ
    size = 61 + z.signals + 16 * z.instances

    none : List ℕ
    none = replicate (61 + z.signals + 16 * z.instances) 0

    length-none : length none ≡ 61 + z.signals + 16 * z.instances
    unfolding none
    length-none = length-replicate (61 + z.signals + 16 * z.instances) 0

    dated : List ℕ
    dated = replaced none 5 (to_be_bytes w32 t)

    length-dated : length dated ≡ 61 + z.signals + 16 * z.instances
    unfolding dated
    length-dated = length-replaced none 5 (to_be_bytes w32 t) (omega (arith, length-none)) ∙ length-none

    -- the plain cells
    plain : List ℕ
    plain = replaced dated 61 rest

    plain_is : complement (restored_b z limits t carry) ≡ plain
    unfolding plain dated none rest
    plain_is =
        let last : List ℕ = to_be_bytes w32 t in
        complement_replaced (replaced (blank_b z) 5 (complement last)) 61 (complement rest)
        ∙ (λ i. replaced (complement_replaced (blank_b z) 5 (complement last) i) 61 (twice rest rest_bytes i))
        ∙ (λ i. replaced (replaced (complement_replicate (61 + z.signals + 16 * z.instances) 255 i) 5 (twice last (four t) i)) 61 rest)

    plain_rest : drop 61 plain ≡ rest
    unfolding plain
    plain_rest = drop_written dated 61 rest (omega (arith, length-dated, length-rest))

    length-plain : length plain ≡ 61 + signal_count net + 16 * instance_count net
    unfolding plain
    length-plain = length-replaced dated 61 rest (omega (arith, length-dated, length-rest)) ∙ omega (arith, length-dated, sizes.signals, sizes.instances)

    time_at : (k : ℕ) → k < 61 → slice_index plain k ≡ slice_index dated k
    unfolding plain
    time_at k low = index_before dated 61 rest k low (omega (arith, length-dated))

    plain_time : be4 plain 5 ≡ t
    unfolding dated
    plain_time =
        (λ i. from_be_bytes w32 (time_at 5 (omega arith) i ∷ time_at 6 (omega arith) i ∷ time_at 7 (omega arith) i ∷ time_at 8 (omega arith) i ∷ []))
        ∙ be4_within none 5 t (omega (arith, length-none)) small

    plain_signal : (s : ℕ) → s < signal_count net → slice_index plain (61 + s) ≡ bit (signal_in w s)
    plain_signal s low =
        sym (get_or-drop 61 plain s 0) ∙ ap (λ l. slice_index l s) (plain_rest ∙ rest_is)
        ∙ get_or_append_left (take z.signals carry) (counted_blocks limits t blocks) 0 s (omega (arith, length-front, sizes.signals, low))
        ∙ get_or-take z.signals carry s 0 (omega (arith, sizes.signals, low)) ∙ signal_at s low

    plain_block : (i : ℕ) → instance_bytes (61 + signal_count net) i plain ≡ bytes_at i (counted_blocks limits t blocks)
    plain_block i =
        block_is (61 + signal_count net) i plain (counted_blocks limits t blocks)
        (ap (λ n. drop (61 + n) plain) (sym sizes.signals) ∙ sym (drop-drop z.signals 61 plain) ∙ ap (drop z.signals) (plain_rest ∙ rest_is)
        ∙ drop_at (take z.signals carry) (counted_blocks limits t blocks) z.signals length-front)

    pub restores_b : StandsB net w t (restored_b z limits t carry)
    restores_b = record {
      kept_time = ap (λ l. be4 l 5) plain_is ∙ plain_time;
      standing = subst (AreCellsOf net (λ i. Remains (limit_in net i)) w 61) (sym plain_is) (record {
        sized = length-plain;
        undriven = h.undriven;
        signals = plain_signal;
        blocks = λ i low. subst (λ b. LoadsTo (Remains (limit_in net i)) (kind_at net i) b (block_in w i)) (sym (plain_block i)) (counted_stands_at i low);
      });
    }
