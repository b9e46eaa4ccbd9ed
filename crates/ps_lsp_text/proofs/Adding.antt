-- Items that are added to a list that is being made.
use Rattle.std.proofs.Common.{◌≡◌, ◌∙◌, ◌++◌, ◌∷◌, ◌+◌, ◌<◌, ◌≤◌, [], ℕ, List, Bool, Bor, MatchOption, Option, Some, None, false, Result, Ok, Err, IfOk, OnErr, IsTrue, ap, subst, sym, refl, map, take, length, get_or, append_assoc}
use Rattle.std.proofs.lemmas.Bool.{true≢false}
use Rattle.std.proofs.lemmas.List.{append-nil, map-append, take_more}
use Rattle.std.proofs.lemmas.Option.{slice_get-get_or, slice_get_past}
use Rattle.ps_lexer.specs.declared.token.Token.{Token}
use Rattle.ps_base.specs.declared.failing.Refusal.{Refusal}
use Rattle.std.specs.Prelude.{◌-◌, option_map, slice_get}
use Rattle.ps_lsp_text.specs.declared.finding_all.TheConstants.{MOST_FINDINGS}
use Rattle.ps_lsp_text.specs.Findings.{TellEach, TellMost, Tells, refusal_out, rest_out}
use Rattle.ps_lsp_text.specs.Made.{Adds}
use Rattle.ps_lsp_text.specs.Telling.{AddsTold}
use Rattle.ps_lsp_text.specs.declared.finding.Finding.{Finding}
use Rattle.ps_lsp_text.proofs.Telling.{tell_more}

-- one more item of a list
pub item_more : {X : Type 0} (xs : List X) (i : ℕ) (x : X) → i < length xs → x ≡ get_or xs i x → take (i + 1) xs ≡ take i xs ++ x ∷ []
item_more {X} xs i x below is = take_more xs i x below ∙ ap (λ (y : X). take i xs ++ y ∷ []) (sym is)

-- nothing was added
pub adds_none : {A : Type 0} (is : Bool) (items : List A) → Adds is is items items []
adds_none is items = λ whole. (whole, sym (append-nil items))

-- what was added, and then more
pub adds_both : {A : Type 0} (was mid is : Bool) (before between after first second : List A) →
    Adds was mid before between first → Adds mid is between after second → Adds was is before after (first ++ second)
adds_both {A} was mid is before between after first second one two = λ whole.
    let step = two whole in
    let old = one step.0 in
    (old.0, step.1 ∙ ap (λ (xs : List A). xs ++ second) old.1 ∙ append_assoc before first second)

-- one more item, if there was memory for it
pub adds_item : {A E : Type 0} (mid is : Bool) (between after : List A) (x : A) (item : Result A E) →
    IfOk item (λ y. Adds mid is between after (y ∷ [])) → OnErr item (is ≡ false) → IfOk item (λ y. y ≡ x) →
    Adds mid is between after (x ∷ [])
adds_item {A} mid is between after x (Ok y) adds spoilt same = λ whole.
    let step = adds whole in
    (step.0, step.1 ∙ ap (λ (z : A). between ++ z ∷ []) same)
adds_item mid is between after x (Err e) adds spoilt same = λ whole. absurd (true≢false (sym whole ∙ spoilt))

-- one more item, as it is seen, if there was memory for it
pub adds_seen : {A B E : Type 0} (see : A → B) (mid is : Bool) (between after : List A) (x : B) (item : Result A E) →
    IfOk item (λ y. Adds mid is between after (y ∷ [])) → OnErr item (is ≡ false) → IfOk item (λ y. see y ≡ x) →
    Adds mid is (map see between) (map see after) (x ∷ [])
adds_seen {A} {B} see mid is between after x (Ok y) adds spoilt same = λ whole.
    let step = adds whole in
    (step.0, ap (map see) step.1 ∙ map-append see between (y ∷ []) ∙ ap (λ (z : B). map see between ++ z ∷ []) same)
adds_seen see mid is between after x (Err e) adds spoilt same = λ whole. absurd (true≢false (sym whole ∙ spoilt))

-- what a slice gives at a place
pub got : {X : Type 0} (xs : List X) (i : ℕ) (given : Option (Bor X)) →
    MatchOption given (length xs ≤ i) (λ x. (i < length xs) × ((d : X) → x.now ≡ get_or xs i d)) → option_map (λ x. x.now) given ≡ slice_get xs i
got {X} xs i None past = sym (slice_get_past xs i past)
got {X} xs i (Some x) found = ap (λ (y : X). Some y) (found.1 x.now) ∙ sym (slice_get-get_or xs i x.now found.0)

-- the items of a list up to one, as they are made, and then that one
pub adds_at : {X A : Type 0} (make : X → A) (was mid is : Bool) (before between after : List A) (xs : List X) (i : ℕ) (d : X) →
    Adds was mid before between (map make (take i xs)) → Adds mid is between after (make (get_or xs i d) ∷ []) → i < length xs →
    Adds was is before after (map make (take (i + 1) xs))
adds_at {X} {A} make was mid is before between after xs i d one two below = λ whole.
    let all = adds_both was mid is before between after (map make (take i xs)) (make (get_or xs i d) ∷ []) one two whole in (
      all.0,
      all.1
          ∙ ap (λ (added : List A). before ++ added)
          (sym (map-append make (take i xs) (get_or xs i d ∷ [])) ∙ ap (map make) (sym (take_more xs i d below))),
    )

-- the items of a list up to one, as they are made, and then that one
pub adds_next : {X A : Type 0} (make : X → A) (was mid is : Bool) (before between after : List A) (xs : List X) (i : ℕ) (x : X) →
    Adds was mid before between (map make (take i xs)) → Adds mid is between after (make x ∷ []) → i < length xs → x ≡ get_or xs i x →
    Adds was is before after (map make (take (i + 1) xs))
adds_next {X} {A} make was mid is before between after xs i x one two below same = λ whole.
    let all = adds_both was mid is before between after (map make (take i xs)) (make x ∷ []) one two whole in (
      all.0,
      all.1
          ∙ ap (λ (added : List A). before ++ added)
          (sym (map-append make (take i xs) (x ∷ [])) ∙ ap (map make) (sym (item_more xs i x below same))),
    )

-- ---- findings that tell of refusals

-- no refusal was told
pub told_none : (text : List ℕ) (shown : List Token) (is : Bool) (items : List Finding) → AddsTold text shown [] is is items items
told_none text shown is items = λ whole. (whole, [], sym (append-nil items), refl)

-- one more refusal is told, if there was memory for it
pub told_next : {E : Type 0} (text : List ℕ) (shown : List Token) (was mid is : Bool) (before between after : List Finding)
    (refusals : List Refusal) (i : ℕ) (d : Refusal) (item : Result Finding E) →
    AddsTold text shown (take i refusals) was mid before between →
    IfOk item (λ y. Adds mid is between after (y ∷ [])) → OnErr item (is ≡ false) → IfOk item (Tells text shown (get_or refusals i d)) →
    i < length refusals →
    AddsTold text shown (take (i + 1) refusals) was is before after
told_next text shown was mid is before between after refusals i d (Ok y) told adds spoilt tells below = λ whole.
    let step = adds whole in
    let old = told step.0 in
    let more : TellEach text shown (take i refusals ++ get_or refusals i d ∷ []) (old.1 ++ y ∷ []) =
    tell_more text shown (take i refusals) (get_or refusals i d) old.1 y old.3 tells in (
      old.0,
      old.1 ++ y ∷ [],
      step.1 ∙ ap (λ (xs : List Finding). xs ++ y ∷ []) old.2 ∙ append_assoc before old.1 (y ∷ []),
      subst (λ (rs : List Refusal). TellEach text shown rs (old.1 ++ y ∷ [])) (sym (take_more refusals i d below)) more,
    )
told_next text shown was mid is before between after refusals i d (Err e) told adds spoilt tells below = λ whole.
    absurd (true≢false (sym whole ∙ spoilt))

-- what was added, and then more, by other names
pub adds_found : {A : Type 0} (was mid is : Bool) (before between after one two first second : List A) →
    Adds was mid before between one → Adds mid is between after two → one ≡ first → two ≡ second →
    Adds was is before after (first ++ second)
adds_found {A} was mid is before between after one two first second a b same same2 =
    subst (λ (xs : List A). Adds was is before after (xs ++ second)) same
    (subst (λ (xs : List A). Adds was is before after (one ++ xs)) same2 (adds_both was mid is before between after one two a b))

-- all that a list has was added to one that had nothing
pub adds_all : {A : Type 0} (was is : Bool) (before after more : List A) → before ≡ [] → Adds was is before after more → IsTrue is → after ≡ more
adds_all {A} was is before after more none adds whole = (adds whole).1 ∙ ap (λ (xs : List A). xs ++ more) none

-- what holds of a whole list holds of one that is given
pub of_whole : {A V E : Type 0} (items : V → List A) (P : List A → Type 0) (is : Bool) (made : List A) (result : Result V E) →
    IfOk result (λ v. IsTrue is × (items v ≡ made)) → (IsTrue is → P made) → IfOk result (λ v. P (items v))
of_whole items P is made (Ok v) given holds = subst P (sym given.1) (holds given.0)
of_whole items P is made (Err e) given holds = tt

-- the first of some refusals were told to a list that had nothing, and then how many are left
pub told_most : (text : List ℕ) (shown : List Token) (refusals told : List Refusal) (was mid is : Bool) (before between after rest : List Finding) →
    before ≡ [] → told ≡ take MOST_FINDINGS refusals → AddsTold text shown told was mid before between → Adds mid is between after rest →
    rest ≡ rest_out text (option_map refusal_out (slice_get refusals MOST_FINDINGS)) (length refusals - MOST_FINDINGS) → IsTrue is →
    TellMost text shown refusals after
told_most text shown refusals told was mid is before between after rest none first adds more same whole =
    let step = more whole in
    let old = adds step.0 in
    record {
      told = old.1;
      tell = subst (λ (rs : List Refusal). TellEach text shown rs old.1) first old.3;
      is = step.1 ∙ ap (λ (xs : List Finding). xs ++ rest) (old.2 ∙ ap (λ (xs : List Finding). xs ++ old.1) none)
          ∙ ap (λ (xs : List Finding). old.1 ++ xs) same;
    }
