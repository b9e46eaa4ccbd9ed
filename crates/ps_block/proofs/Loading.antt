-- What is read is loaded where its code is that of a state.
use Rattle.std.proofs.Common.{◌≡◌, ℕ, ◌<◌, ◌^◌, Bool, true, false, List, refl, sym, ap, ◌∙◌, subst}
use Rattle.std.specs.Prelude.{◌==◌, nat_le}
use Rattle.std.proofs.lemmas.Bool.{true≢false}
use Rattle.std.proofs.lemmas.Nat.{from_be_bytes-to_be_bytes_2}
use Rattle.ps_model.specs.declared.kind.Kind.{Kind}
use Rattle.ps_model.specs.Blocks.{block}
use Rattle.ps_model.specs.Kept.{Kept}
use Rattle.ps_model.specs.Stored.{Loads, stored, is_state, is_last, is_mode, bit, be2}
use Rattle.ps_model.proofs.Sixteen.{short_code}
use Rattle.ps_block.specs.declared.image.Image.{Image}
use Rattle.ps_block.specs.Images.{Reads, kept_of}

loads_image : (kind : Kind) (bytes : List ℕ) (i : Image) → Reads kind bytes i → is_state kind i.code ≡ true → Loads kind bytes (kept_of i)
loads_image kind bytes i r state = record {
  kept = record { state = state; last_reset = r.last_reset; last_auxiliary = r.last_auxiliary; mode = r.mode; timer = r.time_fits };
  bytes_are = r.bytes_are;
}

pub loads_from : (kind : Kind) (bytes : List ℕ) (i : Image) (k : Kept) → Reads kind bytes i → is_state kind i.code ≡ true →
    k.code ≡ i.code → k.last_reset ≡ i.last_reset → k.last_auxiliary ≡ i.last_auxiliary → k.mode ≡ i.mode → k.timer ≡ i.time → Loads kind bytes k
loads_from kind bytes i k r state code reset auxiliary mode time =
    let same : kept_of i ≡ k = λ x. record { code = sym code x; last_reset = sym reset x; last_auxiliary = sym auxiliary x; mode = sym mode x; timer = sym time x } in
    subst (λ y. Loads kind bytes y) same (loads_image kind bytes i r state)

pub code_in : (k : Kept) → k.code < 2 ^ 16 → be2 (stored k) 0 ≡ k.code
code_in k h = from_be_bytes-to_be_bytes_2 k.code h

pub no_state : (kind : Kind) (bytes : List ℕ) (i : Image) → Reads kind bytes i → is_state kind i.code ≡ false → (k : Kept) → Loads kind bytes k → ⊥
no_state kind bytes i r none k h =
    let codes : i.code ≡ k.code =
    sym (code_in (kept_of i) r.code_fits) ∙ ap (λ b. be2 b 0) (sym r.bytes_are ∙ h.bytes_are) ∙ code_in k (short_code kind k.code h.kept.state) in
    true≢false (sym h.kept.state ∙ ap (is_state kind) (sym codes) ∙ none)

-- a last input that the kind does not have is FALSE
pub not_last : (b : Bool) → (bit b == 0) ≡ true → false ≡ b
not_last true h = h
not_last false h = refl

pub loads_stored : (kind : Kind) (bytes : List ℕ) (k : Kept) → bytes ≡ stored k → is_state kind k.code ≡ true →
    is_last (block kind).reset (bit k.last_reset) ≡ true → is_last (block kind).auxiliary (bit k.last_auxiliary) ≡ true →
    is_mode kind k.code k.mode ≡ true → k.timer < 2 ^ 32 → Loads kind bytes k
loads_stored kind bytes k are state reset auxiliary mode time = record {
  kept = record { state = state; last_reset = reset; last_auxiliary = auxiliary; mode = mode; timer = time };
  bytes_are = are;
}

-- a truth value is at most 1
pub small_bit : (b : Bool) → nat_le (bit b) 1 ≡ true
small_bit true = refl
small_bit false = refl

-- what is written of an image loads for a kind that keeps it, in a state whose code is the image's
pub loads_written : (kind : Kind) (bytes : List ℕ) (i : Image) (code : ℕ) → bytes ≡ stored (kept_of i) → i.code ≡ code → is_state kind code ≡ true →
    is_last (block kind).reset (bit i.last_reset) ≡ true → is_last (block kind).auxiliary (bit i.last_auxiliary) ≡ true →
    is_mode kind code i.mode ≡ true → i.time < 2 ^ 32 →
    Loads kind bytes (record { code = code; last_reset = i.last_reset; last_auxiliary = i.last_auxiliary; mode = i.mode; timer = i.time })
loads_written kind bytes i code are same state reset auxiliary mode time = record {
  kept = record { state = state; last_reset = reset; last_auxiliary = auxiliary; mode = mode; timer = time };
  bytes_are = are ∙ (λ x. stored (record { code = same x; last_reset = i.last_reset; last_auxiliary = i.last_auxiliary; mode = i.mode; timer = i.time }));
}
