-- Which outputs of an instance are SAFEBOOL, and what a safe output shows.
use Rattle.std.proofs.Common.{◌≡◌, ℕ, suc, zero, ◌+◌, ◌-◌, ◌≤◌, ◌<◌, true, false, List, [], ◌∷◌, take, length, map, sym, ap, ◌∙◌, refl, inl, inr, arith}
use Rattle.std.specs.Prelude.{slice_index_or, nat_lt, sum_by, replicate}
use Rattle.std.specs.List.{range_with_len}
use Rattle.std.proofs.lemmas.Bool.{false≢true, cases_lt, cond-false, le-ltb}
use Rattle.std.proofs.lemmas.List.{length-replicate, get_or-append-add, get_or_append_left, get_or-append_right}
use Rattle.std.proofs.lemmas.List.FromFn.{length-map-range_with_len, get_or-map-range_with_len}
use Rattle.std.proofs.lemmas.List.Sums.{sum_by-cons}
use Rattle.ps_model.specs.declared.kind.Kind.{Kind}
use Rattle.ps_model.specs.declared.kind.Ty.TheVariants.{Safe, Bool as Plain}
use Rattle.ps_model.specs.declared.named.Instance.{Instance}
use Rattle.ps_model.specs.Blocks.{block, outs, output_count, safe_output, ready_in, error_in}
use Rattle.ps_model.specs.Named.{output_types, pin_types}
use Rattle.ps_model.specs.Network.{Network, declared_count, declared_signals, instance_count, kind_at, first_pin, no_instance, no_signal}
use Rattle.ps_model.specs.Sound.{IsSound}
use Rattle.ps_model.specs.Typing.{is_safe_type, is_safe_signal, signal_type}
use Rattle.ps_model.proofs.Counting.{length-output_types}
use Rattle.ps_model.proofs.OneSolution.{first_pin_range}

-- among the types of all outputs stand those of each instance
type_of_output : (xs : List Instance) (i j : ℕ) → i < length xs → j < output_count (slice_index_or xs i no_instance).kind →
    slice_index_or (pin_types xs) (sum_by (λ x. output_count x.kind) (take i xs) + j) Plain
    ≡ slice_index_or (output_types (slice_index_or xs i no_instance).kind) j Plain
type_of_output [] i j inside below = absurd (omega arith)
type_of_output (x ∷ xs) zero j inside below =
    let e : 0 + j ≡ j = omega arith in
    let within : j < length (output_types x.kind) = omega (arith, length-output_types x.kind) in
    ap (λ n. slice_index_or (pin_types (x ∷ xs)) n Plain) e
    ∙ get_or_append_left (output_types x.kind) (pin_types xs) Plain j within
type_of_output (x ∷ xs) (suc i) j inside below =
    let first = sum_by (λ x. output_count x.kind) (take i xs) in
    let e : sum_by (λ x. output_count x.kind) (take (suc i) (x ∷ xs)) + j ≡ length (output_types x.kind) + (first + j) =
    omega (arith, length-output_types x.kind, sum_by-cons (λ (y : Instance). output_count y.kind) x (take i xs)) in
    ap (λ n. slice_index_or (pin_types (x ∷ xs)) n Plain) e
    ∙ get_or-append-add (output_types x.kind) (pin_types xs) (first + j) Plain
    ∙ type_of_output xs i j (omega arith) below

-- what stands past the first of two, each BOOL
plain_past : (n : ℕ) → slice_index_or (Plain ∷ Plain ∷ []) n Plain ≡ Plain
plain_past zero = refl
plain_past (suc zero) = refl
plain_past (suc (suc n)) = refl

-- past the safe outputs stand BOOL ones
plain_type : (kind : Kind) (j : ℕ) → length (block kind).outputs ≤ j → slice_index_or (output_types kind) j Plain ≡ Plain
unfolding output_types
plain_type kind j past =
    get_or-append_right (replicate (length (block kind).outputs) Safe) (Plain ∷ Plain ∷ []) (length (block kind).outputs) j Plain
    (length-replicate (length (block kind).outputs) Safe) past
    ∙ plain_past (j - length (block kind).outputs)

module _ (net : Network) (sound : IsSound net) where
  type_at_output : (i j : ℕ) → i < instance_count net → j < output_count (kind_at net i) →
      signal_type net (first_pin net i + j) ≡ slice_index_or (output_types (kind_at net i)) j Plain
  type_at_output i j inside below =
      let range = first_pin_range net sound i inside in
      let s = first_pin net i + j in
      let before = sum_by (λ x. output_count x.kind) (take i net.instances) in
      let first : first_pin net i ≡ declared_count net + before = refl in
      let place : s - declared_count net ≡ before + j = omega arith in
      cond-false (nat_lt s (declared_count net)) ((slice_index_or (declared_signals net) s no_signal).ty) (slice_index_or (pin_types net.instances) (s - declared_count net) Plain)
      (le-ltb s (declared_count net) (omega arith))
      ∙ ap (λ n. slice_index_or (pin_types net.instances) n Plain) place
      ∙ type_of_output net.instances i j inside below

  -- an output that is SAFEBOOL is one of the kind's safe outputs
  pub safe_below : (i j : ℕ) → i < instance_count net → j < output_count (kind_at net i) → is_safe_signal net (first_pin net i + j) ≡ true →
      j < length (block (kind_at net i)).outputs
  safe_below i j inside below is =
      elim (cases_lt j (length (block (kind_at net i)).outputs)) [
        | inl small ↦ small
        | inr past ↦
            absurd (false≢true (sym (ap is_safe_type (type_at_output i j inside below ∙ plain_type (kind_at net i) j past)) ∙ is))
      ]

-- a safe output shows what its kind says of it
pub safe_shown : (kind : Kind) (q mode j : ℕ) → j < length (block kind).outputs → slice_index_or (outs kind q mode) j false ≡ safe_output kind q mode j
unfolding outs
safe_shown kind q mode j below =
    let n = length (block kind).outputs in
    let safe = map (safe_output kind q mode) (range_with_len 0 n) in
    let long : length safe ≡ n = length-map-range_with_len (safe_output kind q mode) 0 n in
    get_or_append_left safe (ready_in q ∷ error_in q ∷ []) false j (omega (arith, long))
    ∙ get_or-map-range_with_len (safe_output kind q mode) 0 n j j false below (omega arith)
