-- What a step reads, as facts.
use Rattle.std.proofs.Common.{◌≡◌, ℕ, ◌<◌, ◌≤◌, Bool, true, false, List, length, map, sym, ap, ◌∙◌, inl, inr, arith}
use Rattle.std.specs.Prelude.{Contains, cond, slice_index_or}
use Rattle.std.specs.Bool.{MatchBool}
use Rattle.std.specs.List.{range_with_len}
use Rattle.std.proofs.lemmas.Bool.{cases_Bool, cases_lt, cond-true, cond-false}
use Rattle.std.proofs.lemmas.List.{get_or-map, get_or_past, length-map}
use Rattle.std.proofs.lemmas.List.Elements.{Contains-get_or}
use Rattle.std.proofs.lemmas.List.FromFn.{get_or-map-range_with_len, length-map-range_with_len}
use mathlib.Core.Path.{fun_ext}
use Rattle.ps_model.specs.Formula.{Formula}
use Rattle.ps_model.specs.Network.{Network, is_new, signal_count}
use Rattle.ps_why.specs.FactsRead.{fact_of_read}
use Rattle.ps_why.specs.Reasons.{deciding, reads}
use Rattle.ps_why.specs.Scenes.{IsSceneFor, read_in}
use Rattle.ps_why.specs.declared.fact.Fact.{Fact}
use Rattle.ps_why.specs.declared.scene.Scene.{Scene}

-- what stands in a list stands in its image
pub contains_map : {Y : Type 0} (f : ℕ → Y) (xs : List ℕ) (x : ℕ) → Contains xs x → Contains (map f xs) (f x)
contains_map f xs x h = (h.0, omega (arith, h.1, length-map xs f), get_or-map f xs h.0 x (f x) h.1 ∙ ap f h.2)

-- and the other way round
pub map_contains : {Y : Type 0} (f : ℕ → Y) (xs : List ℕ) (y : Y) → Contains (map f xs) y → (x : ℕ) × Contains xs x × (y ≡ f x)
map_contains f xs y h =
    let within : h.0 < length xs = omega (arith, h.1, length-map xs f) in
    (slice_index_or xs h.0 0, Contains-get_or xs h.0 0 within, sym h.2 ∙ get_or-map f xs h.0 0 y within)

pub match_of : (n : Bool) (P : Fact → Type 0) (a b : Fact) → P (cond n a b) → MatchBool n (P a) (P b)
match_of true P a b h = h
match_of false P a b h = h

module _ (net : Network) (x : Scene) (fits : IsSceneFor net x) (k : ℕ) where
  -- the signals as the step reads them, in order
  abbrev pub read_list : List Bool
  read_list = map (read_in net x k) (range_with_len 0 (signal_count net))

  past_read : (s : ℕ) → signal_count net ≤ s → read_in net x k s ≡ false
  past_read s past =
      let behind : slice_index_or x.signals.behind.now s false ≡ false = get_or_past x.signals.behind.now s false (omega (arith, fits.behind)) in
      let before : slice_index_or x.signals.before.now s false ≡ false = get_or_past x.signals.before.now s false (omega (arith, fits.before)) in
      elim (cases_Bool (is_new net k s)) [
        | inl y ↦ cond-true (is_new net k s) _ _ y ∙ behind
        | inr n ↦ cond-false (is_new net k s) _ _ n ∙ before
      ]

  pub read_all : (s : ℕ) → slice_index_or read_list s false ≡ read_in net x k s
  read_all s =
      elim (cases_lt s (signal_count net)) [
        | inl below ↦ get_or-map-range_with_len (read_in net x k) 0 (signal_count net) s s false below (omega arith)
        | inr past ↦
            get_or_past read_list s false (omega (arith, past, length-map-range_with_len (read_in net x k) 0 (signal_count net)))
            ∙ sym (past_read s past)
      ]

  -- what is told by that list
  pub reads_by_list : (e : Formula) →
      map (λ s. fact_of_read net k s (slice_index_or read_list s false)) (deciding (λ s. slice_index_or read_list s false) e) ≡ reads net x k e
  reads_by_list e = ap (λ v. map (λ s. fact_of_read net k s (v s)) (deciding v e)) (fun_ext read_all)
