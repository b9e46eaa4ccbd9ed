-- Facts that come one after another, and lists of them.
use Rattle.std.proofs.Common.{◌≡◌, ℕ, ◌+◌, ◌<◌, ◌++◌, List, [], ◌∷◌, drop, length, map, subst, sym, ap, ◌∙◌, inl, inr, arith, append_assoc}
use Rattle.std.specs.Prelude.{Result, Ok, Err, Contains, IfOk, slice_index_or}
use Rattle.std.proofs.lemmas.List.Elements.{Contains-append_left, Contains-push_cases}
use Rattle.ps_model.proofs.Rest.{rest_at}
use Rattle.ps_why.specs.Telling.{Adds}
use Rattle.ps_why.specs.declared.fact.Fact.{Fact}

-- one fact more
pub adds_push : (Sort : Fact → Type 0) (old mid new : List Fact) (f : Fact) → Adds Sort old mid → Sort f → new ≡ mid ++ f ∷ [] → Adds Sort old new
adds_push Sort old mid new f a s is = record {
  kept = λ g h. subst (λ xs. Contains xs g) (sym is) (Contains-append_left mid (f ∷ []) g (a.kept g h));
  only = λ g h. elim (Contains-push_cases mid f g (subst (λ xs. Contains xs g) is h)) [
    | inl was ↦ a.only g was
    | inr same ↦ inr (subst Sort same s)
  ];
}

-- of another sort
pub adds_as : (Sort Sort' : Fact → Type 0) → ((f : Fact) → Sort f → Sort' f) → (old new : List Fact) → Adds Sort old new → Adds Sort' old new
adds_as Sort Sort' as_other old new a = record {
  kept = a.kept;
  only = λ f h. elim (a.only f h) [ inl was ↦ inl was | inr is ↦ inr (as_other f is) ];
}

-- where nothing was told before, all is of the sort
pub adds_only : (Sort : Fact → Type 0) (old new : List Fact) → old ≡ [] → Adds Sort old new → (f : Fact) → Contains new f → Sort f
adds_only Sort old new none a f h = elim (a.only f h) [
  | inl was ↦ absurd (let w = subst (λ xs. Contains xs f) none was in omega (arith, w.1))
  | inr is ↦ is
]

-- one more image
pub map_rest : {Y : Type 0} (f : ℕ → Y) (xs : List ℕ) (i : ℕ) (x : ℕ) (ys zs : List Y) → ys ++ map f (drop i xs) ≡ map f xs → i < length xs →
    x ≡ slice_index_or xs i x → zs ≡ ys ++ f x ∷ [] → zs ++ map f (drop (i + 1) xs) ≡ map f xs
map_rest f xs i x ys zs h within at is =
    ap (λ l. l ++ map f (drop (i + 1) xs)) is
    ∙ append_assoc ys (f x ∷ []) (map f (drop (i + 1) xs))
    ∙ ap (λ l. ys ++ map f l) (sym (rest_at xs i x within at))
    ∙ h

-- what holds of an answer
pub ok_each : {T E : Type 0} (r : Result T E) {P Q : T → Type 0} → ((x : T) → P x → Q x) → IfOk r P → IfOk r Q
ok_each (Ok x) f h = f x h
ok_each (Err e) f h = tt

-- and what follows from two such
pub both : {T E : Type 0} (r : Result T E) {P Q R : Type 0} → (P → Q → R) → IfOk r (λ _. P) → IfOk r (λ _. Q) → IfOk r (λ _. R)
both (Ok x) f h k = f h k
both (Err e) f h k = tt
