-- How facts come to those that are told.
use Rattle.std.proofs.Common.{◌≡◌, ◌⊎◌, ℕ, zero, suc, ◌+◌, ◌<◌, ◌≤◌, ◌++◌, List, [], ◌∷◌, length, refl, subst, sym, ap, ◌∙◌, inl, inr, arith}
use Rattle.std.specs.Prelude.{Bool, false, Contains, Some, slice_get, slice_index_or, take}
use Rattle.std.specs.List.{AllZip}
use Rattle.std.proofs.lemmas.Bool.{cases_lt}
use Rattle.std.proofs.lemmas.List.{length_push}
use Rattle.std.proofs.Math.Seq.{take-length}
use Rattle.std.proofs.lemmas.List.Elements.{Contains-append_left, Contains-push}
use Rattle.std.proofs.lemmas.Option.{get_or_from_slice_get, same_Some, slice_get-get_or, slice_get_within}
use Rattle.ps_model.proofs.Once.{element_at, take_next}
use Rattle.ps_model.specs.Network.{Network}
use Rattle.ps_model.specs.Scanning.{Solves, State}
use Rattle.ps_why.specs.Explained.{IsLeaf}
use Rattle.ps_why.specs.Facts.{IsSo}
use Rattle.ps_why.specs.Laws.{IsOfApplication}
use Rattle.ps_why.specs.Rests.{Rests}
use Rattle.ps_why.specs.declared.fact.Fact.{Fact}
use Rattle.ps_why.specs.declared.fact.Fact.TheVariants.{SignalIs}
use Rattle.ps_why.specs.Entering.{Enters, EntersAll, IsAmong}
use Rattle.ps_why.specs.Explanations.{AreSo, EachRests, HasReasons, IsMeantThere, IsOneOf, IsReason, IsTold}
use Rattle.ps_why.specs.Reasons.{reasons_of}
use Rattle.ps_why.specs.Resting.{RestsThere}
use Rattle.ps_why.specs.Scenes.{IsSceneOf}
use Rattle.ps_why.specs.declared.explaining.Explanation.{Explanation}
use Rattle.ps_why.specs.declared.explaining.Reasons.{Reasons}
use Rattle.ps_why.specs.declared.scene.Scene.{Scene}
use Rattle.ps_why.proofs.More.{grounds_more}

-- ---- What stands at a place after one more.

pub push_before : {X : Type 0} (xs : List X) (y : X) (n : ℕ) (x : X) → slice_get xs n ≡ Some x → slice_get (xs ++ y ∷ []) n ≡ Some x
push_before [] y n x h = absurd (let none = h in cc)
push_before (z ∷ xs) y zero x h = h
push_before (z ∷ xs) y (suc n) x h = push_before xs y n x h

pub push_at : {X : Type 0} (xs : List X) (y : X) → slice_get (xs ++ y ∷ []) (length xs) ≡ Some y
push_at [] y = refl
push_at (z ∷ xs) y = push_at xs y

pub push_cases : {X : Type 0} (xs : List X) (y : X) (n : ℕ) (x : X) → slice_get (xs ++ y ∷ []) n ≡ Some x → (slice_get xs n ≡ Some x) ⊎ ((n ≡ length xs) × (y ≡ x))
push_cases [] y zero x h = inr (refl, same_Some y x h)
push_cases [] y (suc n) x h = absurd (let none = h in cc)
push_cases (z ∷ xs) y zero x h = inl h
push_cases (z ∷ xs) y (suc n) x h =
    elim (push_cases xs y n x h) [
      | inl before ↦ inl before
      | inr last ↦ inr (ap suc last.0, last.1)
    ]

-- ---- One fact more.

no_fact : Fact
no_fact = SignalIs 0 false

module _ (mid new : List Fact) (f : Fact) (n : ℕ) (h : Enters mid new f n) where
  one_kept : (m : ℕ) (g : Fact) → slice_get mid m ≡ Some g → slice_get new m ≡ Some g
  one_kept m g at = elim h.1 as (λ _. slice_get new m ≡ Some g) [
    | inl same ↦ ap (λ xs. slice_get xs m) same ∙ at
    | inr more ↦ ap (λ xs. slice_get xs m) more.0 ∙ push_before mid f m g at
  ]

  one_only : (m : ℕ) (g : Fact) → slice_get new m ≡ Some g → (slice_get mid m ≡ Some g) ⊎ ((m ≡ n) × (f ≡ g) × (length mid ≤ m))
  one_only m g at = elim h.1 as (λ _. (slice_get mid m ≡ Some g) ⊎ ((m ≡ n) × (f ≡ g) × (length mid ≤ m))) [
    | inl same ↦ inl (sym (ap (λ xs. slice_get xs m) same) ∙ at)
    | inr more ↦
        elim (push_cases mid f m g (sym (ap (λ xs. slice_get xs m) more.0) ∙ at)) [
          | inl before ↦ inl before
          | inr last ↦ inr (last.0 ∙ sym more.1, last.1, omega (arith, last.0))
        ]
  ]

-- lists that go together still do with one element more
zip_push : {A B : Type 0} (R : A → B → Type 0) (xs : List A) (ys : List B) (x : A) (y : B) → AllZip R xs ys → R x y → AllZip R (xs ++ x ∷ []) (ys ++ y ∷ [])
zip_push R [] [] x y h r = (r, tt)
zip_push R [] (z ∷ ys) x y h r = absurd h
zip_push R (z ∷ xs) [] x y h r = absurd h
zip_push R (z ∷ xs) (w ∷ ys) x y h r = (h.0, zip_push R xs ys x y h.1 r)

zip_more : {A B : Type 0} (R : A → B → Type 0) (xs : List A) (ys : List B) (i : ℕ) (x : A) (y : B) → slice_get xs i ≡ Some x → AllZip R (take i xs) ys → R x y →
    AllZip R (take (i + 1) xs) (ys ++ y ∷ [])
zip_more R xs ys i x y at h r =
    let next : suc i ≡ i + 1 = omega arith in
    subst (λ k. AllZip R (take k xs) (ys ++ y ∷ [])) next (subst (λ l. AllZip R l (ys ++ y ∷ [])) (sym (take_next xs i x at)) (zip_push R (take i xs) ys x y h r))

-- numbers stay those of the same facts
still_right : (mid new : List Fact) → ((m : ℕ) (g : Fact) → slice_get mid m ≡ Some g → slice_get new m ≡ Some g) → (gs : List Fact) (ms : List ℕ) →
    AllZip (λ g m. slice_get mid m ≡ Some g) gs ms → AllZip (λ g m. slice_get new m ≡ Some g) gs ms
still_right mid new kept [] [] h = h
still_right mid new kept [] (m ∷ ms) h = h
still_right mid new kept (g ∷ gs) [] h = h
still_right mid new kept (g ∷ gs) (m ∷ ms) h = (kept m g h.0, still_right mid new kept gs ms h.1)

module _ (old : List Fact) (given : List Fact) where
  -- what was told stays within
  longer : (mid : List Fact) → ((m : ℕ) (g : Fact) → slice_get old m ≡ Some g → slice_get mid m ≡ Some g) → length old ≤ length mid
  unfolding no_fact
  longer mid kept =
      elim (cases_lt (length mid) (length old)) [
        | inl shorter ↦
            let at = kept (length mid) (slice_index_or old (length mid) no_fact) (slice_get-get_or old (length mid) no_fact shorter) in
            absurd (omega (arith, slice_get_within mid (length mid) (slice_index_or old (length mid) no_fact) at))
        | inr long ↦ long
      ]

  pub enters_none : EntersAll old old 0 given []
  enters_none = record {
    kept = λ n f at. at;
    each = λ f h. absurd (omega (arith, h.1));
    right = tt;
    only = λ n f at. inl at;
  }

  pub enters_next : (mid new : List Fact) (i : ℕ) (numbers : List ℕ) (f : Fact) (n : ℕ) → EntersAll old mid i given numbers → slice_get given i ≡ Some f →
      Enters mid new f n → EntersAll old new (i + 1) given (numbers ++ n ∷ [])
  enters_next mid new i numbers f n h at e = record {
    kept = λ m g was. one_kept mid new f n e m g (h.kept m g was);
    each = λ g among. each_by g among (cases_lt among.0 i);
    right = zip_more (λ g m. slice_get new m ≡ Some g) given numbers i f n at
        (still_right mid new (one_kept mid new f n e) (take i given) numbers h.right) e.0;
    only = λ m g is. only_by m g (one_only mid new f n e m g is);
  }
    where
      wider : (g : Fact) → IsAmong i given g → IsAmong (i + 1) given g
      wider g among = (among.0, omega (arith, among.1), among.2)

      each_by : (g : Fact) (among : IsAmong (i + 1) given g) → (among.0 < i) ⊎ (i ≤ among.0) → IsOneOf new (numbers ++ n ∷ []) g
      each_by g among (inl before) =
          let w = h.each g (among.0, before, among.2) in
          (w.0, Contains-append_left numbers (n ∷ []) w.0 w.1, one_kept mid new f n e w.0 g w.2)
      each_by g among (inr last) =
          let here : i ≡ among.0 = omega (arith, last, among.1) in
          let same : f ≡ g = same_Some f g (sym at ∙ ap (slice_get given) here ∙ among.2) in
          (n, Contains-push numbers n, e.0 ∙ ap Some same)

      only_by : (m : ℕ) (g : Fact) → (slice_get mid m ≡ Some g) ⊎ ((m ≡ n) × (f ≡ g) × (length mid ≤ m)) →
          (slice_get old m ≡ Some g) ⊎ (IsAmong (i + 1) given g × Contains (numbers ++ n ∷ []) m × (length old ≤ m))
      only_by m g (inl was) =
          elim (h.only m g was) [
            | inl before ↦ inl before
            | inr w ↦ inr (wider g w.0, Contains-append_left numbers (n ∷ []) m w.1, w.2)
          ]
      only_by m g (inr last) =
          inr (
            (i, omega arith, at ∙ ap Some last.1),
            subst (Contains (numbers ++ n ∷ [])) (sym last.0) (Contains-push numbers n),
            omega (arith, longer mid h.kept, last.2),
          )

among_all : (given : List Fact) (f : Fact) → Contains given f → IsAmong (length given) given f
among_all given f h = (h.0, h.1, slice_get-get_or given h.0 f h.1 ∙ ap Some h.2)

all_among : (n : ℕ) (given : List Fact) (f : Fact) → IsAmong n given f → Contains given f
all_among n given f h = (h.0, slice_get_within given h.0 f h.2, get_or_from_slice_get given h.0 f f h.2)

-- ---- All that is told so far.

-- what is told is so in a scan, and rests on its reasons
pub record IsMeantSoFar (net : Network) (old : State) (since : ℕ) (new : State) (facts : List Fact) (reasons : List Reasons) : Type 0 where
  pub so : (n : ℕ) (f : Fact) → slice_get facts n ≡ Some f → IsSo net old since new f × IsOfApplication net f
  pub rests : EachRests net facts reasons

-- the reasons of the first n facts are told
pub record IsToldSoFar (net : Network) (x : Scene) (roots : List Fact) (n : ℕ) (facts : List Fact) (reasons : List Reasons) : Type 0 where
  pub each : length reasons ≡ n
  pub within : n ≤ length facts
  pub asked_for : (f : Fact) → Contains roots f → (m : ℕ) × (slice_get facts m ≡ Some f)
  pub used : (m : ℕ) (f : Fact) → slice_get facts m ≡ Some f → Contains roots f ⊎ IsReason reasons m
  pub right : (m : ℕ) (f : Fact) (r : Reasons) → slice_get facts m ≡ Some f → slice_get reasons m ≡ Some r →
      AllZip (λ g k. slice_get facts k ≡ Some g) (reasons_of net x f) r.facts.items
  pub meant : (old : State) (ins : List Bool) (since : ℕ) (new : State) → Solves net old ins since new →
      IsSceneOf net old since new x → AreSo net old since new roots → IsMeantSoFar net old since new facts reasons

module _ (net : Network) (x : Scene) (roots : List Fact) where
  pub told_first : (facts : List Fact) (numbers : List ℕ) → EntersAll [] facts (length roots) roots numbers → IsToldSoFar net x roots 0 facts []
  told_first facts numbers h = record {
    each = refl;
    within = omega arith;
    asked_for = λ f is. let w = h.each f (among_all roots f is) in (w.0, w.2);
    used = λ m f at. inl (root m f at);
    right = λ m f r at none. absurd (let clash = none in cc);
    meant = λ old ins since new solves scene so. record {
      so = λ m f at. (so.0 f (root m f at), so.1 f (root m f at));
      rests = λ m f r at none. absurd (let clash = none in cc);
    };
  }
    where
      root : (m : ℕ) (f : Fact) → slice_get facts m ≡ Some f → Contains roots f
      root m f at = elim (h.only m f at) [
        | inl none ↦ absurd (let clash = none in cc)
        | inr w ↦ all_among (length roots) roots f w.0
      ]

  module _ (n : ℕ) (facts facts' : List Fact) (reasons : List Reasons) (given : List Fact) (r : Reasons) (f : Fact)
      (h : IsToldSoFar net x roots n facts reasons) (at : slice_get facts n ≡ Some f) (rests_there : RestsThere net x f given) (given_is : given ≡ reasons_of net x f)
      (e : EntersAll facts facts' (length given) given r.facts.items) where
    inside : n < length facts
    inside = slice_get_within facts n f at

    -- what is told at a place is what was told there, or is new
    was_or_new : (m : ℕ) (g : Fact) → slice_get facts' m ≡ Some g → (slice_get facts m ≡ Some g) ⊎ (Contains given g × Contains r.facts.items m × (length facts ≤ m))
    was_or_new m g is = elim (e.only m g is) [
      | inl was ↦ inl was
      | inr w ↦ inr (all_among (length given) given g w.0, w.1, w.2)
    ]

    used_by : (m : ℕ) (g : Fact) → (slice_get facts m ≡ Some g) ⊎ (Contains given g × Contains r.facts.items m × (length facts ≤ m)) →
        Contains roots g ⊎ IsReason (reasons ++ r ∷ []) m
    used_by m g (inl was) = elim (h.used m g was) [
      | inl root ↦ inl root
      | inr w ↦ inr (w.0, w.1, w.2, push_before reasons r w.0 w.1 w.3, w.4)
    ]
    used_by m g (inr w) = inr (n, r, omega (arith, inside, w.2), subst (λ k. slice_get (reasons ++ r ∷ []) k ≡ Some r) h.each (push_at reasons r), w.1)

    right_by : (m : ℕ) (g : Fact) (s : Reasons) → slice_get facts' m ≡ Some g → (slice_get reasons m ≡ Some s) ⊎ ((m ≡ length reasons) × (r ≡ s)) →
        AllZip (λ g k. slice_get facts' k ≡ Some g) (reasons_of net x g) s.facts.items
    right_by m g s is (inl was) =
        let below : m < length reasons = slice_get_within reasons m s was in
        elim (was_or_new m g is) [
          | inl before ↦ still_right facts facts' e.kept (reasons_of net x g) s.facts.items (h.right m g s before was)
          | inr w ↦ absurd (omega (arith, below, h.each, h.within, w.2))
        ]
    right_by m g s is (inr last) =
        let same_place : n ≡ m = omega (arith, h.each, last.0) in
        let same : f ≡ g = same_Some f g (sym (e.kept n f at) ∙ ap (slice_get facts') same_place ∙ is) in
        subst (λ (t : Reasons). AllZip (λ g k. slice_get facts' k ≡ Some g) (reasons_of net x g) t.facts.items) last.1
        (subst (λ gs. AllZip (λ g k. slice_get facts' k ≡ Some g) gs r.facts.items) (take-length given ∙ given_is ∙ ap (reasons_of net x) same) e.right)

    module _ (old : State) (ins : List Bool) (since : ℕ) (new : State) (solves : Solves net old ins since new)
        (scene : IsSceneOf net old since new x) (so : AreSo net old since new roots) where
      meant_before : IsMeantSoFar net old since new facts reasons
      meant_before = h.meant old ins since new solves scene so

      so_by : (m : ℕ) (g : Fact) → (slice_get facts m ≡ Some g) ⊎ (Contains given g × Contains r.facts.items m × (length facts ≤ m)) →
          IsSo net old since new g × IsOfApplication net g
      unfolding meant_before
      so_by m g (inl was) = meant_before.so m g was
      so_by m g (inr w) =
          let here = meant_before.so n f at in
          let is = rests_there old ins since new solves scene here.1 here.0 in
          (is.so g w.0, is.fit g w.0)

      rests_by : (m : ℕ) (g : Fact) (s : Reasons) → slice_get facts' m ≡ Some g → (slice_get reasons m ≡ Some s) ⊎ ((m ≡ length reasons) × (r ≡ s)) →
          IsLeaf net g ⊎ Rests net (IsOneOf facts' s.facts.items) g
      unfolding meant_before
      rests_by m g s is (inl was) =
          let below : m < length reasons = slice_get_within reasons m s was in
          elim (was_or_new m g is) [
            | inl before ↦
                grounds_more net (IsOneOf facts s.facts.items) (IsOneOf facts' s.facts.items) (λ k w. (w.0, w.1, e.kept w.0 k w.2)) g
                (meant_before.rests m g s before was)
            | inr w ↦ absurd (omega (arith, below, h.each, h.within, w.2))
          ]
      rests_by m g s is (inr last) =
          let same_place : n ≡ m = omega (arith, h.each, last.0) in
          let same : f ≡ g = same_Some f g (sym (e.kept n f at) ∙ ap (slice_get facts') same_place ∙ is) in
          let here = meant_before.so n f at in
          let rest = (rests_there old ins since new solves scene here.1 here.0).grounds in
          subst (λ k. IsLeaf net k ⊎ Rests net (IsOneOf facts' s.facts.items) k) same
          (subst (λ (t : Reasons). IsLeaf net f ⊎ Rests net (IsOneOf facts' t.facts.items) f) last.1
          (grounds_more net (Contains given) (IsOneOf facts' r.facts.items) (λ k w. e.each k (among_all given k w)) f rest))

    pub told_next : IsToldSoFar net x roots (n + 1) facts' (reasons ++ r ∷ [])
    told_next = record {
      each = length_push reasons r ∙ ap (λ k. k + 1) h.each;
      within = omega (arith, inside, longer facts given facts' e.kept);
      asked_for = λ g is. let w = h.asked_for g is in (w.0, e.kept w.0 g w.1);
      used = λ m g is. used_by m g (was_or_new m g is);
      right = λ m g s is reason. right_by m g s is (push_cases reasons r m s reason);
      meant = λ old ins since new solves scene so. record {
        so = λ m g is. so_by old ins since new solves scene so m g (was_or_new m g is);
        rests = λ m g s is reason. rests_by old ins since new solves scene so m g s is (push_cases reasons r m s reason);
      };
    }

  module _ (n : ℕ) (e : Explanation) (h : IsToldSoFar net x roots n e.facts.items e.reasons.items) (end : length e.facts.items ≤ n) where
    pub told_all : IsTold roots e
    told_all = record {
      asked_for = h.asked_for;
      each = omega (arith, h.each, h.within, end);
      used = h.used;
    }

    pub right_all : HasReasons net x e
    right_all m f at =
        let within : m < length e.reasons.items = omega (arith, slice_get_within e.facts.items m f at, h.each, h.within, end) in
        let reason = element_at e.reasons.items m within in
        (reason.0, reason.1, h.right m f reason.0 at reason.1)

    pub meant_all : IsMeantThere net x roots e
    meant_all old ins since new solves scene so =
        let m = h.meant old ins since new solves scene so in
        record {
          so = λ f is. (m.so is.0 f (slice_get-get_or e.facts.items is.0 f is.1 ∙ ap Some is.2)).0;
          rests = m.rests;
          explained = λ f is.
              let at : slice_get e.facts.items is.0 ≡ Some f = slice_get-get_or e.facts.items is.0 f is.1 ∙ ap Some is.2 in
              let within : is.0 < length e.reasons.items = omega (arith, is.1, h.each, h.within, end) in
              let reason = element_at e.reasons.items is.0 within in
              let r = reason.0 in
              grounds_more net (IsOneOf e.facts.items r.facts.items) (Contains e.facts.items)
              (λ k w. (w.0, slice_get_within e.facts.items w.0 k w.2, get_or_from_slice_get e.facts.items w.0 k k w.2)) f
              (m.rests is.0 f r at reason.1);
        }
