-- Where the outputs of instances stand.
use Rattle.std.proofs.Common.{◌≡◌, ℕ, ◌+◌, ◌≤◌, List, [], ◌∷◌, ◌++◌, length, replicate, take, sym, ap, subst, ◌∙◌, arith, get_or, ⊎_elim, append-nil}
use Rattle.std.specs.Prelude.{sum_by}
use Rattle.std.proofs.lemmas.List.{length-append, length-map, map-append, take-append-le, take_all, get_or_append_left}
use Rattle.std.proofs.Math.Seq.{get_or-append_seam}
use Rattle.std.proofs.lemmas.Grind.{flat_map-append}
use Rattle.std.proofs.lemmas.Bool.{cases_lt}
use Rattle.ps_model.specs.declared.kind.Ty.{Ty}
use Rattle.ps_model.specs.declared.named.Instance.{Instance}
use Rattle.ps_model.specs.declared.named.Placed.{Placed}
use Rattle.ps_model.specs.Blocks.{output_count}
use Rattle.ps_model.specs.Named.{output_types, pin_types, pin_owners, instances_of, KeepsPlaces}
use Rattle.ps_model.specs.Network.{Network, declared_count, signal_count}
use Rattle.ps_model.proofs.Counting.{length-output_types, length-pin_types}
use Rattle.ps_model.proofs.Owners.{owners-one_more}

abbrev outputs : List Instance → ℕ
outputs xs = sum_by (λ x. output_count x.kind) xs

-- all signals are the declared ones and the outputs of instances
pub all_signals : (net : Network) → declared_count net + length (pin_types net.instances) ≡ signal_count net
all_signals net =
    omega (arith, length-pin_types net.instances, ap outputs (take_all (length net.instances) net.instances (omega arith)))

module _ (placed : List Placed) (types : List Ty) (owners : List ℕ) (x : Instance) (keeps : KeepsPlaces placed types owners) where
  abbrev next : Placed
  next = record { instance = x; first = length types }

  more : instances_of (placed ++ next ∷ []) ≡ instances_of placed ++ x ∷ []
  more = map-append (λ p. p.instance) placed (next ∷ [])

  -- the instances before a place are as before
  earlier : (i : ℕ) → i ≤ length placed → take i (instances_of (placed ++ next ∷ [])) ≡ take i (instances_of placed)
  earlier i h =
      ap (take i) more
      ∙ take-append-le i (instances_of placed) (x ∷ []) (omega (arith, length-map placed (λ p. p.instance)))

  before_last : length types ≡ outputs (take (length placed) (instances_of placed))
  before_last =
      ap length keeps.types_are ∙ length-pin_types (instances_of placed)
      ∙ ap outputs (sym (take_all (length placed) (instances_of placed) (omega (arith, length-map placed (λ p. p.instance)))))

  -- one more instance stands where the outputs before it end
  pub placed_next : KeepsPlaces (placed ++ next ∷ []) (types ++ output_types x.kind) (owners ++ replicate (length (output_types x.kind)) (length placed))
  placed_next = record {
    types_are = ap (λ ts. ts ++ output_types x.kind) keeps.types_are
        ∙ ap (λ ts. pin_types (instances_of placed) ++ ts) (sym (append-nil (output_types x.kind)))
        ∙ sym (flat_map-append (λ i. output_types i.kind) (instances_of placed) (x ∷ []))
        ∙ ap pin_types (sym more);
    owners_are = ap (λ k. owners ++ replicate k (length placed)) (length-output_types x.kind)
        ∙ ap (λ os. os ++ replicate (output_count x.kind) (length placed)) keeps.owners_are
        ∙ ap (λ n. pin_owners (instances_of placed) ++ replicate (output_count x.kind) n)
        (let all : length placed ≡ 0 + length (instances_of placed) = omega (arith, length-map placed (λ p. p.instance)) in all)
        ∙ sym (owners-one_more 0 (instances_of placed) x)
        ∙ ap pin_owners (sym more);
    first_is = λ i d h.
        ⊎_elim
        (λ inside. ap (λ p. p.first) (get_or_append_left placed (next ∷ []) d i inside) ∙ keeps.first_is i d inside
        ∙ ap outputs (sym (earlier i (omega arith))))
        (λ past.
        let last : i ≡ length placed = omega (arith, length-append placed (next ∷ [])) in
        ap (λ (p : Placed). p.first) (ap (λ j. get_or (placed ++ next ∷ []) j d) last ∙ get_or-append_seam placed next [] d)
        ∙ before_last ∙ ap (λ j. outputs (take j (instances_of placed))) (sym last)
        ∙ ap outputs (sym (earlier i (omega arith))))
        (cases_lt i (length placed));
  }

  -- the same of lists that are these
  pub placed_in : (placed' : List Placed) (types' : List Ty) (owners' : List ℕ) → placed' ≡ placed ++ next ∷ [] → types' ≡ types ++ output_types x.kind →
      owners' ≡ owners ++ replicate (length (output_types x.kind)) (length placed) → KeepsPlaces placed' types' owners'
  placed_in placed' types' owners' p t o =
      subst (λ ps. KeepsPlaces ps types' owners') (sym p)
      (subst (λ ts. KeepsPlaces (placed ++ next ∷ []) ts owners') (sym t)
      (subst (λ os. KeepsPlaces (placed ++ next ∷ []) (types ++ output_types x.kind) os) (sym o) placed_next))
