-- One more name that is counted.
use Rattle.std.proofs.Common.{◌≡◌, ℕ, ◌+◌, Bool, true, false, List, [], ◌∷◌, ◌++◌, Option, None, Some, is_some, nat_lt, cond, refl, sym, ap, subst, ◌∙◌, arith, if◌then◌else◌}
use Rattle.std.specs.Prelude.{count_by}
use Rattle.std.specs.Option.{option_or}
use Rattle.std.specs.Str.{bytes_eq}
use Rattle.std.proofs.lemmas.Bool.Decides.{nat_tests}
use Rattle.std.proofs.lemmas.Grind.{fold-append}
use Rattle.std.proofs.lemmas.Slice.Eq.{bytes_eq-Decides}
use Rattle.indexmap.specs.IndexMap.{get_by}
use Rattle.ps_base.specs.LetterCase.{folded, is_same_name}
use Rattle.ps_parser.specs.declared.name.Name.{Name}
use Rattle.ps_names.specs.declared.table.Table.{Table}
use Rattle.ps_names.specs.NameTables.{place_in}
use Rattle.ps_offences.specs.declared.tally.Tally.{Tally}
use Rattle.ps_offences.specs.Tallies.{Counts}

-- an item more at the end
pub count_push : {X : Type 0} (p : X → Bool) (xs : List X) (x : X) → count_by p (xs ++ x ∷ []) ≡ count_by p xs + cond (p x) 1 0
count_push p xs x = fold-append (λ n y. n + cond (p y) 1 0) 0 xs (x ∷ [])

-- a table has one place for names that are the same
pub same_place : (t : Table) (q n : List ℕ) → is_same_name q n ≡ true → place_in t q ≡ place_in t n
same_place t q n h = ap (λ w. get_by (λ k. bytes_eq w k.items) t.places) ((bytes_eq-Decides (folded q) (folded n)).0 h)

or_entered : (o : Option ℕ) (b : Bool) (k : ℕ) → is_some (option_or o (if b then Some k else None)) ≡ cond b true (is_some o)
or_entered None true k = refl
or_entered None false k = refl
or_entered (Some x) true k = refl
or_entered (Some x) false k = refl

once_more : (s : Bool) (b : Bool) (m : ℕ) → s ≡ nat_lt 0 m → cond b true s ≡ nat_lt 0 (m + cond b 1 0)
once_more s true m h = grind (arith, nat_tests)
once_more s false m h = h ∙ ap (nat_lt 0) (omega arith)

again_more : (s was : Bool) (b : Bool) (m : ℕ) → s ≡ nat_lt 1 m → (b ≡ true → nat_lt 0 m ≡ true) → cond b true s ≡ nat_lt 1 (m + cond b 1 0)
again_more s was true m h some = let one = some refl in grind (arith, nat_tests)
again_more s was false m h some = h ∙ ap (nat_lt 1) (omega arith)

again_new : (s : Bool) (b : Bool) (m : ℕ) → s ≡ nat_lt 1 m → (b ≡ true → nat_lt 0 m ≡ false) → s ≡ nat_lt 1 (m + cond b 1 0)
again_new s true m h none = let zero_ = none refl in grind (arith, nat_tests)
again_new s false m h none = h ∙ ap (nat_lt 1) (omega arith)

module _ (old : Tally) (ns : List Name) (n : Name) (has : Counts old ns) where
  abbrev among : List ℕ → ℕ
  among q = count_by (λ m. is_same_name q m.text) ns

  was_there : (was : Bool) → was ≡ is_some (place_in old.once n.text) → (q : List ℕ) → is_same_name q n.text ≡ true → nat_lt 0 (among q) ≡ was
  was_there was is q same = sym (has.once q) ∙ ap is_some (same_place old.once q n.text same) ∙ sym is

  counted_once : (new : Table) (k : ℕ) → ((q : List ℕ) → place_in new q ≡ option_or (place_in old.once q) (if is_same_name q n.text then Some k else None)) →
      (q : List ℕ) → is_some (place_in new q) ≡ nat_lt 0 (count_by (λ m. is_same_name q m.text) (ns ++ n ∷ []))
  counted_once new k is q =
      ap is_some (is q) ∙ or_entered (place_in old.once q) (is_same_name q n.text) k ∙ once_more (is_some (place_in old.once q)) (is_same_name q n.text) (among q) (has.once q)
      ∙ ap (nat_lt 0) (sym (count_push (λ m. is_same_name q m.text) ns n))

  -- a name that was counted before
  pub counted_again : (once again : Table) (k j : ℕ) (was : Bool) → was ≡ is_some (place_in old.once n.text) → was ≡ true →
      ((q : List ℕ) → place_in once q ≡ option_or (place_in old.once q) (if is_same_name q n.text then Some k else None)) →
      ((q : List ℕ) → place_in again q ≡ option_or (place_in old.again q) (if is_same_name q n.text then Some j else None)) →
      Counts (record { once = once; again = again }) (ns ++ n ∷ [])
  counted_again once again k j was is there first second = record {
    once = counted_once once k first;
    again = λ q.
        ap is_some (second q) ∙ or_entered (place_in old.again q) (is_same_name q n.text) j
        ∙ again_more (is_some (place_in old.again q)) was (is_same_name q n.text) (among q) (has.again q) (λ same. was_there was is q same ∙ there)
        ∙ ap (nat_lt 1) (sym (count_push (λ m. is_same_name q m.text) ns n));
  }

  -- a name that is counted for the first time
  pub counted_new : (once : Table) (k : ℕ) (was : Bool) → was ≡ is_some (place_in old.once n.text) → was ≡ false →
      ((q : List ℕ) → place_in once q ≡ option_or (place_in old.once q) (if is_same_name q n.text then Some k else None)) →
      Counts (record { once = once; again = old.again }) (ns ++ n ∷ [])
  counted_new once k was is absent first = record {
    once = counted_once once k first;
    again = λ q.
        again_new (is_some (place_in old.again q)) (is_same_name q n.text) (among q) (has.again q) (λ same. was_there was is q same ∙ absent)
        ∙ ap (nat_lt 1) (sym (count_push (λ m. is_same_name q m.text) ns n));
  }

-- the same names
pub counts_same : (t : Tally) (as_ bs : List Name) → as_ ≡ bs → Counts t as_ → Counts t bs
counts_same t as_ bs e h = subst (Counts t) e h
