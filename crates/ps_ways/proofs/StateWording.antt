-- The table of words: by computation for each kind, and what follows for a code.
use Rattle.std.proofs.Common.{◌≡◌, ◌≤◌, ◌∙◌, ℕ, Bool, true, false, List, [], ◌∷◌, Some, refl, ap, sym, subst, arith}
use Rattle.std.specs.Prelude.{◌&&◌, ◌==◌, nat_le, not, is_some, length, map, option_map, Option, None, IfSome, IsTrue}
use Rattle.std.specs.List.{list_all, list_any}
use Rattle.std.specs.Str.{bytes_eq}
use Rattle.std.proofs.lemmas.Slice.Eq.{bytes_eq-Decides}
use Rattle.ps_model.specs.declared.kind.Kind.{Kind}
use Rattle.ps_model.specs.declared.kind.Kind.TheVariants.{Equivalent, Antivalent, EmergencyStop, Espe, ModeSelector}
use Rattle.ps_model.specs.declared.kind.Kind.TheVariants.{TwoHandTwo, TwoHandThree, GuardMonitoring, GuardLocking}
use Rattle.ps_model.specs.declared.kind.Kind.TheVariants.{EnableSwitch, SafetyRequest, OutControl, Edm}
use Rattle.ps_model.specs.Blocks.{block}
use Rattle.ps_model.specs.Stored.{is_state, states}
use Rattle.ps_ways.specs.Words.{Called}
use Rattle.ps_ways.specs.States.{are_plain, called_of, state_words, words_in}

-- ---- by computation

-- the codes that have words are the states of the kind
codes_are : (kind : Kind) → map (λ (r : Called). r.0) (called_of kind) ≡ states kind
unfolding block
codes_are Equivalent = refl
codes_are Antivalent = refl
codes_are EmergencyStop = refl
codes_are Espe = refl
codes_are ModeSelector = refl
codes_are TwoHandTwo = refl
codes_are TwoHandThree = refl
codes_are GuardMonitoring = refl
codes_are GuardLocking = refl
codes_are EnableSwitch = refl
codes_are SafetyRequest = refl
codes_are OutControl = refl
codes_are Edm = refl

-- words are plain, and at most 60 bytes
abbrev pub is_fit : List ℕ → Bool
is_fit words = are_plain words && nat_le (length words) 60

-- all words of a kind are
are_fit : (kind : Kind) → list_all (λ (r : Called). is_fit r.1) (called_of kind) ≡ true
are_fit Equivalent = refl
are_fit Antivalent = refl
are_fit EmergencyStop = refl
are_fit Espe = refl
are_fit ModeSelector = refl
are_fit TwoHandTwo = refl
are_fit TwoHandThree = refl
are_fit GuardMonitoring = refl
are_fit GuardLocking = refl
are_fit EnableSwitch = refl
are_fit SafetyRequest = refl
are_fit OutControl = refl
are_fit Edm = refl

-- no state of these has the words
abbrev unlike : List ℕ → List Called → Bool
unlike words rows = list_all (λ (r : Called). not (bytes_eq words r.1)) rows

-- no two have the same
abbrev all_unlike : List Called → Bool
all_unlike [] = true
all_unlike (r ∷ rows) = unlike r.1 rows && all_unlike rows

-- no two states of a kind do
are_unlike : (kind : Kind) → all_unlike (called_of kind) ≡ true
are_unlike Equivalent = refl
are_unlike Antivalent = refl
are_unlike EmergencyStop = refl
are_unlike Espe = refl
are_unlike ModeSelector = refl
are_unlike TwoHandTwo = refl
are_unlike TwoHandThree = refl
are_unlike GuardMonitoring = refl
are_unlike GuardLocking = refl
are_unlike EnableSwitch = refl
are_unlike SafetyRequest = refl
are_unlike OutControl = refl
are_unlike Edm = refl

-- ---- what follows

is_some-words : (rows : List Called) (code : ℕ) →
    is_some (words_in rows code) ≡ list_any (λ x. x == code) (map (λ (r : Called). r.0) rows)
is_some-words [] code = refl
is_some-words (r ∷ rows) code = go (r.0 == code) refl (is_some-words rows code)
  where
    go : (b : Bool) → (r.0 == code) ≡ b →
        is_some (words_in rows code) ≡ list_any (λ x. x == code) (map (λ (r : Called). r.0) rows) →
        is_some (words_in (r ∷ rows) code) ≡ list_any (λ x. x == code) (map (λ (r : Called). r.0) (r ∷ rows))
    go true e rest = rw e refl
    go false e rest = rw e rest

-- there are words exactly for the states of the kind
pub is_state-words : (kind : Kind) (code : ℕ) → is_some (state_words kind code) ≡ is_state kind code
is_state-words kind code = is_some-words (called_of kind) code ∙ ap (list_any (λ x. x == code)) (codes_are kind)

-- what all words pass, those of a code do
passed : (test : List ℕ → Bool) (rows : List Called) (code : ℕ) (words : List ℕ) →
    list_all (λ (r : Called). test r.1) rows ≡ true → words_in rows code ≡ Some words → test words ≡ true
passed test [] code words all at = absurd (let none = at in cc)
passed test (r ∷ rows) code words all at =
    go (r.0 == code) refl (test r.1) refl all at (passed test rows code words)
  where
    go : (b : Bool) → (r.0 == code) ≡ b → (t : Bool) → test r.1 ≡ t →
        list_all (λ (r : Called). test r.1) (r ∷ rows) ≡ true → words_in (r ∷ rows) code ≡ Some words →
        (list_all (λ (r : Called). test r.1) rows ≡ true → words_in rows code ≡ Some words → test words ≡ true) →
        test words ≡ true
    go b e false h all at rest = absurd (let off = (rw h at all) in cc)
    go true e true h all at rest =
        let here : Some r.1 ≡ Some words = rw e at at in
        let same : r.1 ≡ words = cc in
        ap test (sym same) ∙ h
    go false e true h all at rest = rest (rw h at all) (rw e at at)

-- the words of a code are plain and short
pub fit-words : (kind : Kind) (code : ℕ) (words : List ℕ) → state_words kind code ≡ Some words → is_fit words ≡ true
fit-words kind code words at = passed is_fit (called_of kind) code words (are_fit kind) at

-- ---- of words that are told as the table has them

module _ {X : Type 0} (bytes_of : X → List ℕ) (kind : Kind) (code : ℕ) where
  -- they are told exactly for the states of the kind
  pub told_exactly : (told : Option X) → option_map bytes_of told ≡ state_words kind code → is_some told ≡ is_state kind code
  told_exactly None is = ap is_some is ∙ is_state-words kind code
  told_exactly (Some x) is = ap is_some is ∙ is_state-words kind code

  pub told_plain : (told : Option X) → option_map bytes_of told ≡ state_words kind code →
      IfSome told (λ x. IsTrue (are_plain (bytes_of x)))
  told_plain None is = tt
  told_plain (Some x) is = let fit = fit-words kind code (bytes_of x) (sym is) in grind arith

  pub told_short : (told : Option X) → option_map bytes_of told ≡ state_words kind code →
      IfSome told (λ x. length (bytes_of x) ≤ 60)
  told_short None is = tt
  told_short (Some x) is = let fit = fit-words kind code (bytes_of x) (sym is) in grind arith

-- ---- no two have the same

-- words are the same as themselves
eq_self : (words : List ℕ) → bytes_eq words words ≡ true
eq_self words = (bytes_eq-Decides words words).1 refl

-- words are not unlike themselves
not_unlike : (words : List ℕ) → not (bytes_eq words words) ≡ true → ⊥
not_unlike words h =
    let off = (rw (eq_self words) at h) in
    cc

-- where no two have the same words, codes that have the same are the same
own : (rows : List Called) (code other : ℕ) (words : List ℕ) → all_unlike rows ≡ true →
    words_in rows code ≡ Some words → words_in rows other ≡ Some words → code ≡ other
own [] code other words all at at' = absurd (let none = at in cc)
own (r ∷ rows) code other words all at at' =
    go (r.0 == code) refl (r.0 == other) refl (unlike r.1 rows) refl (all_unlike rows) refl all at at'
    (own rows code other words)
  where
    go : (b : Bool) → (r.0 == code) ≡ b → (b' : Bool) → (r.0 == other) ≡ b' →
        (u : Bool) → unlike r.1 rows ≡ u → (v : Bool) → all_unlike rows ≡ v → all_unlike (r ∷ rows) ≡ true →
        words_in (r ∷ rows) code ≡ Some words → words_in (r ∷ rows) other ≡ Some words →
        (all_unlike rows ≡ true → words_in rows code ≡ Some words → words_in rows other ≡ Some words → code ≡ other) →
        code ≡ other
    go b e b' e' false h v k all at at' rest = absurd (let off = (rw h at all) in cc)
    go b e b' e' true h false k all at at' rest = absurd (let off = (rw (h, k) at all) in cc)
    go true e true e' true h true k all at at' rest = grind arith
    go true e false e' true h true k all at at' rest =
        let here : Some r.1 ≡ Some words = rw e at at in
        let same : r.1 ≡ words = cc in
        let there : words_in rows other ≡ Some words = rw e' at at' in
        let other_words : not (bytes_eq r.1 words) ≡ true =
        passed (λ w. not (bytes_eq r.1 w)) rows other words h there in
        absurd (not_unlike words (subst (λ (w : List ℕ). not (bytes_eq w words) ≡ true) same other_words))
    go false e true e' true h true k all at at' rest =
        let here : Some r.1 ≡ Some words = rw e' at at' in
        let same : r.1 ≡ words = cc in
        let there : words_in rows code ≡ Some words = rw e at at in
        let other_words : not (bytes_eq r.1 words) ≡ true =
        passed (λ w. not (bytes_eq r.1 w)) rows code words h there in
        absurd (not_unlike words (subst (λ (w : List ℕ). not (bytes_eq w words) ≡ true) same other_words))
    go false e false e' true h true k all at at' rest = rest k (rw e at at) (rw e' at at')

-- a code that is a state has words
has_words : (kind : Kind) (code : ℕ) → is_state kind code ≡ true → (words : List ℕ) × (state_words kind code ≡ Some words)
has_words kind code is = go (state_words kind code) refl
  where
    go : (o : Option (List ℕ)) → state_words kind code ≡ o → (words : List ℕ) × (state_words kind code ≡ Some words)
    go (Some words) e = (words, e)
    go None e = absurd (let some = sym (is_state-words kind code) in let none = ap is_some e in cc)

pub own_words : (kind : Kind) (code other : ℕ) → is_state kind code ≡ true → is_state kind other ≡ true →
    state_words kind code ≡ state_words kind other → code ≡ other
own_words kind code other is is' same =
    let words = has_words kind code is in
    own (called_of kind) code other words.0 (are_unlike kind) words.1 (sym same ∙ words.1)
