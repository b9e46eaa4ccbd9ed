-- The last steps that want the demands of signals, when one more step is gone back.
use Rattle.std.proofs.Common.{◌≡◌, ℕ, zero, suc, ◌+◌, ◌≤◌, ◌<◌, Bool, true, false, List, [], ◌∷◌, length, drop, ◌||◌, Option, Some, None, sym, ap, ◌∙◌, refl, subst, inl, inr, ⊎_elim, arith}
use Rattle.std.specs.Prelude.{slice_get, slice_set, replicate, ◌==◌}
use Rattle.std.specs.List.{flat_map, list_any}
use Rattle.std.proofs.lemmas.Bool.{cases_Bool, false≢true, true≢false, cases_lt, leb-true, le-leb, eqb-true, eq-eqb}
use Rattle.std.proofs.lemmas.List.{get_or-set_same, get_or-set_other}
use Rattle.std.proofs.lemmas.Option.{slice_get_within}
use Rattle.std.proofs.lemmas.List.Folds.{list_any-append}
use Rattle.ps_model.specs.Formula.{Formula}
use Rattle.ps_model.specs.Action.{Actual, assigns, calls}
use Rattle.ps_model.specs.FirstSteps.{step_noted, with_step}
use Rattle.ps_model.specs.Network.{Network, signal_count}
use Rattle.ps_model.specs.Typing.{is_safe_signal}
use Rattle.ps_model.specs.Values.{reads, values_at_pin}
use Rattle.ps_model.proofs.Rest.{rest_found}
use Rattle.ps_demand.specs.Wanted.{is_from, is_wanted, IsLate, WantsReads, AreLast}

-- noted for a part, and then for the rest, is noted for the whole
pub with_either : (a b : Bool) (k : ℕ) (o : Option ℕ) → with_step b k (with_step a k o) ≡ with_step (a || b) k o
with_either true true k None = refl
with_either true true k (Some m) = refl
with_either true false k o = refl
with_either false b k o = refl

-- the arguments from a place on read a signal where the first does, or the others do
pub args_next : (args : List Actual) (j : ℕ) (a : Actual) (n : ℕ) → slice_get args j ≡ Some a →
    list_any (reads n) (flat_map values_at_pin (drop j args))
    ≡ (list_any (reads n) (values_at_pin a) || list_any (reads n) (flat_map values_at_pin (drop (j + 1) args)))
args_next args j a n at =
    ap (λ xs. list_any (reads n) (flat_map values_at_pin xs)) (rest_found args j a at)
    ∙ list_any-append (reads n) (values_at_pin a) (flat_map values_at_pin (drop (j + 1) args))

-- what an earlier step is noted for stays
keeps_noted : (has : Bool) (k j : ℕ) (o : Option ℕ) → is_from j o ≡ true → is_from j (with_step has k o) ≡ true
keeps_noted true k j None h = absurd (false≢true h)
keeps_noted true k j (Some m) h = h
keeps_noted false k j o h = h

-- a step is noted for no later one
later_noted : (has : Bool) (k j : ℕ) (o : Option ℕ) → k < j → is_from j (with_step has k o) ≡ true → is_from j o ≡ true
later_noted true k j None late h = absurd (let low : j ≤ k = leb-true j k h in omega arith)
later_noted true k j (Some m) late h = h
later_noted false k j o late h = h

-- what is noted by a step is wanted by it
now_noted : (k : ℕ) (o : Option ℕ) → IsLate (k + 1) o → is_from k (with_step true k o) ≡ true
now_noted k None late = le-leb k k (omega arith)
now_noted k (Some m) late = le-leb k m (omega arith)

late_noted : (has : Bool) (k : ℕ) (o : Option ℕ) → IsLate (k + 1) o → IsLate k (with_step has k o)
late_noted true k None late = omega arith
late_noted true k (Some m) late = omega arith
late_noted false k None late = tt
late_noted false k (Some m) late = omega arith

earlier_from : (k : ℕ) (o : Option ℕ) → is_from (k + 1) o ≡ true → is_from k o ≡ true
earlier_from k None h = h
earlier_from k (Some m) h = le-leb k m (let low : k + 1 ≤ m = leb-true (k + 1) m h in omega arith)

-- what a later step wants an earlier one does not let go
pub earlier_wanted : (last : List (Option ℕ)) (k s : ℕ) → is_wanted last (k + 1) s ≡ true → is_wanted last k s ≡ true
earlier_wanted last k s h = earlier_from k (step_noted last s) h

-- a signal that is wanted is within the list
inside_noted : (last : List (Option ℕ)) (k s : ℕ) → is_wanted last k s ≡ true → s < length last
inside_noted [] k s h = absurd (false≢true h)
inside_noted (o ∷ last) k zero h = omega arith
inside_noted (o ∷ last) k (suc s) h = let rest = inside_noted last k s h in omega arith

-- what a step that assigns wants
pub wants_assigned : (net : Network) (k t : ℕ) (e : Formula) (last : List (Option ℕ)) → slice_get net.steps k ≡ Some (assigns t e) →
    ((s : ℕ) → is_safe_signal net t ≡ true → is_wanted last (k + 1) t ≡ true → s < signal_count net → reads s e ≡ true → is_wanted last k s ≡ true) →
    WantsReads net k last
wants_assigned net k t e last at h = record {
  assigned = λ u s f here is wanted inside read.
      let target : u ≡ t = cc in
      let value : f ≡ e = cc in
      h s (subst (λ n. is_safe_signal net n ≡ true) target is) (subst (λ n. is_wanted last (k + 1) n ≡ true) target wanted) inside
      (subst (λ g. reads s g ≡ true) value read);
  called = λ i s args here inside read. cc;
}

-- what a call wants
pub wants_called : (net : Network) (k i : ℕ) (args : List Actual) (last : List (Option ℕ)) → slice_get net.steps k ≡ Some (calls i args) →
    ((s : ℕ) → s < signal_count net → list_any (reads s) (flat_map values_at_pin args) ≡ true → is_wanted last k s ≡ true) → WantsReads net k last
wants_called net k i args last at h = record {
  assigned = λ t s e here is wanted inside read. cc;
  called = λ j s others here inside read.
      let same : others ≡ args = cc in
      h s inside (subst (λ xs. list_any (reads s) (flat_map values_at_pin xs) ≡ true) same read);
}

-- One step is gone back: it is noted for the signals of which `has` says so.
module _ (net : Network) (k first end : ℕ) (old new : List (Option ℕ)) (has : ℕ → Bool) (are : AreLast net (k + 1) first end old)
    (long : length new ≡ length old)
    (noted : (n : ℕ) → n < length old → step_noted new n ≡ with_step (has n) k (step_noted old n)) where
  stays_wanted : (j s : ℕ) → is_wanted old j s ≡ true → is_wanted new j s ≡ true
  stays_wanted j s h =
      ap (is_from j) (noted s (inside_noted old j s h)) ∙ keeps_noted (has s) k j (step_noted old s) h

  -- what is wanted after the step was so before
  pub was_wanted : (j s : ℕ) → k < j → is_wanted new j s ≡ true → is_wanted old j s ≡ true
  was_wanted j s late h =
      later_noted (has s) k j (step_noted old s) late (ap (is_from j) (sym (noted s (let inside = inside_noted new j s h in omega arith))) ∙ h)

  -- what the step is noted for it wants
  pub is_noted : (s : ℕ) → s < signal_count net → has s ≡ true → is_wanted new k s ≡ true
  is_noted s inside h =
      ap (is_from k) (noted s (let same = are.long in omega arith) ∙ ap (λ b. with_step b k (step_noted old s)) h)
      ∙ now_noted k (step_noted old s) (are.late s inside)

  pub gone_back : WantsReads net k new → AreLast net k first end new
  gone_back here = record {
    long = long ∙ are.long;
    late = λ s inside.
        subst (IsLate k) (sym (noted s (let same = are.long in omega arith))) (late_noted (has s) k (step_noted old s) (are.late s inside));
    after_all = λ s low high. stays_wanted (length net.steps) s (are.after_all s low high);
    reading = λ j low.
        elim (cases_lt k j) [
          | inl later ↦
              let there = are.reading j (omega arith) in
              record {
                assigned = λ t s e at is wanted inside read.
                    stays_wanted j s (there.assigned t s e at is (was_wanted (j + 1) t (omega arith) wanted) inside read);
                called = λ i s args at inside read. stays_wanted j s (there.called i s args at inside read);
              }
          | inr past ↦ (let same : k ≡ j = omega arith in subst (λ n. WantsReads net n new) same here)
        ];
  }

-- where nothing is noted all stays
pub none_noted : (net : Network) (k first end : ℕ) (last : List (Option ℕ)) → AreLast net (k + 1) first end last → WantsReads net k last → AreLast net k first end last
none_noted net k first end last are here = gone_back net k first end last last (λ n. false) are refl (λ n inside. refl) here

-- ---- no step is gone back

pub none_yet : (count n s : ℕ) → IsLate n (step_noted (replicate count None) s)
none_yet zero n s = tt
none_yet (suc count) n zero = tt
none_yet (suc count) n (suc s) = none_yet count n s

module _ (last : List (Option ℕ)) (s n : ℕ) (inside : s < length last) where
  pub set_late : ((t : ℕ) → IsLate n (step_noted last t)) → (t : ℕ) → IsLate n (step_noted (slice_set last s (Some n)) t)
  set_late late t =
      ⊎_elim
      (λ here.
      subst (IsLate n) (sym (ap (step_noted (slice_set last s (Some n))) (sym (eqb-true s t here)) ∙ get_or-set_same last s (Some n) None inside))
      (let low : n ≤ n = omega arith in low))
      (λ other. subst (IsLate n) (sym (get_or-set_other last s t (Some n) None (λ same. true≢false (sym (eq-eqb s t (sym same)) ∙ other)))) (late t))
      (cases_Bool (s == t))

  pub set_wanted : (first : ℕ) → ((t : ℕ) → first ≤ t → t < s → is_wanted last n t ≡ true) →
      (t : ℕ) → first ≤ t → t < s + 1 → is_wanted (slice_set last s (Some n)) n t ≡ true
  set_wanted first wanted t low high =
      ⊎_elim
      (λ here.
      ap (is_wanted (slice_set last s (Some n)) n) (sym (eqb-true s t here)) ∙ ap (is_from n) (get_or-set_same last s (Some n) None inside)
      ∙ le-leb n n (omega arith))
      (λ other.
      let apart : (t ≡ s) → ⊥ = λ same. true≢false (sym (eq-eqb s t (sym same)) ∙ other) in
      ap (is_from n) (get_or-set_other last s t (Some n) None apart) ∙ wanted t low (not_last apart))
      (cases_Bool (s == t))
    where
      not_last : ((t ≡ s) → ⊥) → t < s
      not_last apart = elim (cases_lt t s) [
        | inl below ↦ below
        | inr past ↦ absurd (apart (let same : t ≡ s = omega arith in same))
      ]

pub after_all_steps : (net : Network) (first end : ℕ) (last : List (Option ℕ)) → length last ≡ signal_count net →
    ((s : ℕ) → IsLate (length net.steps) (step_noted last s)) → ((s : ℕ) → first ≤ s → s < end → is_wanted last (length net.steps) s ≡ true) →
    AreLast net (length net.steps) first end last
after_all_steps net first end last long late wanted = record {
  long = long;
  late = λ s inside. late s;
  after_all = wanted;
  reading = λ j past. record {
    assigned = λ t s e at is want inside read. absurd (let within = slice_get_within net.steps j (assigns t e) at in omega arith);
    called = λ i s args at inside read. absurd (let within = slice_get_within net.steps j (calls i args) at in omega arith);
  };
}
