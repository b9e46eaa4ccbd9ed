-- A source gives one reading alone where its demands are asked for, and has one where it has one by the rules before M1.
use Rattle.std.proofs.Common.{◌≡◌, ◌⊎◌, ◌≤◌, ◌<◌, ◌+◌, ◌∙◌, ℕ, zero, suc, List, Option, None, Some, IsSome, length, refl, sym, ap, subst, inl, inr, ⊎_elim, arith}
use Rattle.std.proofs.lemmas.Bool.{true≢false, cases_Bool, cases_lt}
use Rattle.std.proofs.lemmas.Option.{same_Some}
use Rattle.ps_base.specs.declared.failing.Refusal.{Refusal}
use Rattle.ps_base.specs.declared.failing.Rule.TheVariants.{M1}
use Rattle.ps_model.specs.Action.{assigns}
use Rattle.ps_model.specs.Network.{Network, input_count}
use Rattle.ps_model.specs.Typing.{is_safe_signal}
use Rattle.ps_parser.specs.Places.{step_place}
use Rattle.ps_parser.specs.Tree.{SourceTree}
use Rattle.ps_demand.specs.declared.demand.TheConstants.{MOST_LEAVES}
use Rattle.ps_demand.specs.Demand.{demand}
use Rattle.ps_demand.specs.Lines.{IsSafeOutput, IsLarge, NoneIsLarge, IsFirstLarge}
use Rattle.ps_demand.specs.Requirement.{leaf_count}
use Rattle.ps_accepted.specs.Demanding.{IsPlaceOfOutput, BreaksDemand, IsDemandableAs}
use Rattle.ps_accepted.specs.Source.{Reading, IsAcceptedAs}
use Rattle.ps_accepted.specs.Source.Reading.{stands_for, is_refused}
use Rattle.ps_accepted.proofs.OneBreach.{one_acceptance}
use Rattle.ps_accepted.proofs.Keeping.{resolved_sound}
use Rattle.ps_accepted.proofs.OneReading.{one_program}
use Rattle.ps_accepted.proofs.Placing.{target_placed}
use Rattle.ps_accepted.proofs.Targets.{Assigning, assigning, one_target}

-- the application that breaks the rule M1 is accepted
breaker_accepted : (s : List ℕ) (r : Refusal) → (b : BreaksDemand s r) → IsAcceptedAs s (stands_for b.net)
breaker_accepted s r b = (record { tree = b.tree; program = b.program; stands = b.stands }, b.accepted)

-- only one output is the first
one_first : (net : Network) (s t : ℕ) → IsFirstLarge net s → IsFirstLarge net t → s ≡ t
one_first net s t a b =
    ⊎_elim
    (λ below. absurd (b.first s below a.output a.large))
    (λ past. ⊎_elim (λ below. absurd (a.first t below b.output b.large)) (λ other. let same : s ≡ t = omega (arith, past, other) in same) (cases_lt t s))
    (cases_lt s t)

same_app : {a b : Network} → stands_for a ≡ stands_for b → a ≡ b
same_app h = cc

-- one application, of one program, has one place for the rule M1
one_demand_refusal : (s : List ℕ) (r q : Refusal) → BreaksDemand s r → BreaksDemand s q → r ≡ q
one_demand_refusal s r q a b =
    let nets : b.net ≡ a.net = same_app (one_acceptance s (stands_for b.net) (stands_for a.net) (breaker_accepted s q b) (breaker_accepted s r a)) in
    let trees : b.tree ≡ a.tree = one_program s b.tree a.tree b.program a.program in
    let outputs : b.output ≡ a.output = one_first a.net b.output a.output (subst (λ (n : Network). IsFirstLarge n b.output) nets b.large) a.large in
    let there : IsPlaceOfOutput a.tree a.net a.output q.place =
    subst (λ (t : SourceTree). IsPlaceOfOutput t a.net a.output q.place) trees
    (subst (λ (n : Network). IsPlaceOfOutput b.tree n a.output q.place) nets
    (subst (λ (o : ℕ). IsPlaceOfOutput b.tree b.net o q.place) outputs b.place)) in
    let sound = resolved_sound s a.net (record { tree = a.tree; program = a.program; stands = a.stands }) in
    let steps : a.place.step ≡ there.step = one_target a.net sound a.output a.place.step there.step a.place.value there.value a.place.assigned there.assigned in
    let place = same_Some r.place q.place (sym a.place.place ∙ ap (λ (k : ℕ). step_place a.tree k None) steps ∙ there.place) in
    let rule = a.rule ∙ sym b.rule in
    λ i. record { rule = rule i; place = place i }

-- none is Large, or one is
unlarge : (s : List ℕ) (net : Network) (r : Refusal) → IsDemandableAs s (stands_for net) → BreaksDemand s r → ⊥
unlarge s net r a b =
    let nets : b.net ≡ net = same_app (one_acceptance s (stands_for b.net) (stands_for net) (breaker_accepted s r b) a.0) in
    let first = subst (λ (n : Network). IsFirstLarge n b.output) nets b.large in
    a.1 b.output first.output first.large

refused_accepted : {net : Network} {r : Refusal} → stands_for net ≡ is_refused r → ⊥
refused_accepted h = cc

pub one_demanding : (s : List ℕ) (r q : Reading) → IsDemandableAs s r → IsDemandableAs s q → r ≡ q
one_demanding s (stands_for a) (stands_for b) x y = one_acceptance s (stands_for a) (stands_for b) x.0 y.0
one_demanding s (stands_for a) (is_refused q) x (inl n) = one_acceptance s (stands_for a) (is_refused q) x.0 n
one_demanding s (stands_for a) (is_refused q) x (inr m) = absurd (unlarge s a q x m)
one_demanding s (is_refused r) (stands_for b) (inl n) y = one_acceptance s (is_refused r) (stands_for b) n y.0
one_demanding s (is_refused r) (stands_for b) (inr m) y = absurd (unlarge s b r y m)
one_demanding s (is_refused r) (is_refused q) (inl n) (inl m) = one_acceptance s (is_refused r) (is_refused q) n m
one_demanding s (is_refused r) (is_refused q) (inl n) (inr m) = absurd (refused_accepted (one_acceptance s (stands_for m.net) (is_refused r) (breaker_accepted s q m) n))
one_demanding s (is_refused r) (is_refused q) (inr n) (inl m) = absurd (refused_accepted (one_acceptance s (stands_for n.net) (is_refused q) (breaker_accepted s r n) m))
one_demanding s (is_refused r) (is_refused q) (inr n) (inr m) = ap is_refused (one_demand_refusal s r q n m)

-- ---- there is a reading

-- of the first n outputs none is Large, or there is a first
module _ (net : Network) where
  abbrev NoneUpto : ℕ → Type 0
  NoneUpto n = (t : ℕ) → t < input_count net + n → IsSafeOutput net t → ¬ IsLarge net t

  abbrev Looked : ℕ → Type 0
  Looked n = NoneUpto n ⊎ ((s : ℕ) × IsFirstLarge net s)

  same_output : (n t : ℕ) → t < input_count net + suc n → input_count net + n ≤ t → t ≡ input_count net + n
  same_output n t below past = omega (arith, below, past)

  one_more : (n : ℕ) → NoneUpto n → ¬ (IsSafeOutput net (input_count net + n) × IsLarge net (input_count net + n)) → NoneUpto (suc n)
  one_more n none here t below output large =
      ⊎_elim (λ before. none t before output large)
      (λ past. let same = same_output n t below past in here (subst (IsSafeOutput net) same output, subst (IsLarge net) same large))
      (cases_lt t (input_count net + n))

  look_at : (n : ℕ) → n < length net.outputs → NoneUpto n → Looked (suc n)
  look_at n inside none =
      let s = input_count net + n in
      ⊎_elim
      (λ safe. ⊎_elim
      (λ large. let output : IsSafeOutput net s = record { behind_inputs = omega arith; before_locals = omega (arith, inside); safe = safe } in
      inr (s, record { output = output; large = large; first = none }))
      (λ few. inl (one_more n none (λ both. omega (arith, both.1, few)))) (cases_lt MOST_LEAVES (leaf_count (demand net s))))
      (λ plain. inl (one_more n none (λ both. true≢false (sym both.0.safe ∙ plain))))
      (cases_Bool (is_safe_signal net s))

  look : (n : ℕ) → n ≤ length net.outputs → Looked n
  look zero h = inl (λ t below output large. omega (arith, below, output.behind_inputs))
  look (suc n) h = ⊎_elim (λ none. look_at n (omega (arith, h)) none) inr (look n (omega (arith, h)))

  large_or_none : NoneIsLarge net ⊎ ((s : ℕ) × IsFirstLarge net s)
  large_or_none =
      ⊎_elim (λ none. inl (λ s output large. none s output.before_locals output large)) inr
      (look (length net.outputs) (let e : length net.outputs ≤ length net.outputs = omega arith in e))

some_of : {X : Type 0} (o : Option X) → IsSome o → (x : X) × (o ≡ Some x)
some_of None is = cc
some_of (Some x) is = (x, refl)

breaker : (s : List ℕ) (net : Network) → IsAcceptedAs s (stands_for net) → (o : ℕ) → IsFirstLarge net o → (r : Refusal) × BreaksDemand s r
breaker s net h o large =
    let at : Assigning net o = assigning net (resolved_sound s net h.0) o large.output in
    let place = some_of (step_place h.0.tree at.step None) (target_placed h.0.tree net h.0.stands at.step (assigns o at.value) at.assigned) in
    let r : Refusal = record { rule = M1; place = place.0 } in (
      r,
      record {
        tree = h.0.tree;
        net = net;
        program = h.0.program;
        stands = h.0.stands;
        accepted = h.1;
        output = o;
        large = large;
        rule = refl;
        place = record { step = at.step; value = at.value; assigned = at.assigned; place = place.1 };
      },
    )

-- a source that has a reading by the rules before M1 has one by these and M1
pub some_demanding : (s : List ℕ) (r : Reading) → IsAcceptedAs s r → (q : Reading) × IsDemandableAs s q
some_demanding s (is_refused r) h = (is_refused r, inl h)
some_demanding s (stands_for net) h =
    ⊎_elim (λ none. (stands_for net, (h, none))) (λ some. let b = breaker s net h some.0 some.1 in (is_refused b.0, inr b.1)) (large_or_none net)
