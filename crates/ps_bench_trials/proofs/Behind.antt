-- Files that are read, and added one after another.
use Rattle.std.proofs.Common.{◌≡◌, ◌∙◌, ◌<◌, ◌≤◌, ◌+◌, ◌++◌, ◌∷◌, [], inl, inr, ℕ, suc, zero, List, Bor, Any, Option, Some, None, IsSome, Result, Ok, Err, length, map, take, get_or, refl, sym, ap, subst, arith}
use Rattle.std.proofs.lemmas.List.{get_or-map, length-map, map-append, take_more}
use Rattle.std.specs.Prelude.{IfErr, IfOk}
use Rattle.ps_outside.specs.Outside.{Rose}
use Rattle.ps_bench_trials.specs.Files.{AddsFile, AddsFiles, IsOther, IsOtherFile, Tells}
use Rattle.ps_bench_trials.specs.Sums.{IsFlaw, IsOfForm, IsTold, IsWholly}
use Rattle.ps_bench_trials.specs.declared.adding.SumStop.{SumStop}
use Rattle.ps_bench_trials.specs.declared.adding.SumStop.TheVariants.{Refused, Unread, NoMemory}
use Rattle.ps_bench_trials.specs.declared.refusal.SumRefusal.{SumRefusal}
use Rattle.ps_bench_trials.specs.declared.refusal.SumRule.{SumRule}
use Rattle.ps_bench_trials.specs.declared.refusal.SumRule.TheVariants.{U1, U2, U3}
use Rattle.ps_bench_trials.specs.declared.summing.TheConstants.{LARGEST_SUM}
use Rattle.ps_bench_trials.specs.declared.summing.Totals.{Totals}

-- the bytes of names
abbrev pub names_in : List (Bor (List ℕ)) → List (List ℕ)
names_in = map (λ name. name.now)

-- one file more
one_behind : (held : List ℕ → Option (List ℕ)) (names : List (List ℕ)) (name : List ℕ) (a b c : Totals) →
    AddsFiles held names a b → AddsFile (held name) b c → AddsFiles held (names ++ name ∷ []) a c
one_behind held [] name a b c none more = (c, subst (λ t. AddsFile (held name) t c) none more, refl)
one_behind held (first ∷ names) name a b c adds more =
    (adds.0, adds.1, one_behind held names name adds.0 b c adds.2 more)

-- the same of names in a list that is gone through
pub one_more : (held : List ℕ → Option (List ℕ)) (names : List (Bor (List ℕ))) (i : ℕ) (none : Bor (List ℕ)) (a b c : Totals) →
    i < length names → AddsFiles held (names_in (take i names)) a b → AddsFile (held (get_or names i none).now) b c →
    AddsFiles held (names_in (take (i + 1) names)) a c
one_more held names i none a b c within adds more =
    subst (λ ns. AddsFiles held ns a c)
    (sym (ap names_in (take_more names i none within) ∙ map-append (λ (name : Bor (List ℕ)). name.now) (take i names) (get_or names i none ∷ [])))
    (one_behind held (names_in (take i names)) (get_or names i none).now a b c adds more)

-- what was read of a text that is held, to its end
short_of : (n : ℕ) (text : List ℕ) → length (take (n + 1) text) ≤ n → take (n + 1) text ≡ text
short_of n [] few =
    let none : List ℕ = [] in
    let e : n + 1 ≡ suc n = omega arith in
    ap (λ m. take m none) e
short_of zero (x ∷ text) few = let no : ⊥ = omega (arith, few) in absurd no
short_of (suc n) (x ∷ text) few =
    let e : suc n + 1 ≡ suc (n + 1) = omega arith in
    let less : length (take (n + 1) text) ≤ n = omega (arith, subst (λ m. length (take m (x ∷ text)) ≤ suc n) e few) in
    ap (λ m. take m (x ∷ text)) e ∙ ap (λ xs. x ∷ xs) (short_of n text less)

pub tells_held : (held : Option (List ℕ)) (bytes : List ℕ) (totals : Totals) → IsSome held →
    ((text : List ℕ) → held ≡ Some text → bytes ≡ take (LARGEST_SUM + 1) text) → IsWholly bytes totals → Tells held totals
tells_held (Some text) bytes totals some read told =
    let all : bytes ≡ text =
    read text refl ∙ short_of LARGEST_SUM text (subst (λ (bs : List ℕ). length bs ≤ LARGEST_SUM) (read text refl) told.0) in
    (text, refl, subst (λ (bs : List ℕ). IsTold bs totals) all told.1)
tells_held None bytes totals some read told = let no : ⊥ = cc in absurd no

pub file_tells : (held : Option (List ℕ)) (bytes : List ℕ) (ended : Result Totals SumStop) → IsSome held →
    ((text : List ℕ) → held ≡ Some text → bytes ≡ take (LARGEST_SUM + 1) text) → IfOk ended (IsWholly bytes) → IfOk ended (Tells held)
file_tells held bytes (Ok totals) some read told = tells_held held bytes totals some read told
file_tells held bytes (Err stop) some read told = tt

-- a stop for the form is at no read, and its refusal is by U1
pub no_read : {P : Type 0} (ended : Result Totals SumStop) (n : ℕ) → IfErr ended IsOfForm → ended ≡ Err (Unread n) → P
no_read (Ok totals) n form is = cc
no_read (Err (Unread place)) n form is = absurd form
no_read (Err (Refused refusal)) n form is = cc
no_read (Err NoMemory) n form is = cc

pub by_form : (ended : Result Totals SumStop) (refusal : SumRefusal) → IfErr ended IsOfForm → ended ≡ Err (Refused refusal) → refusal.rule ≡ U1
by_form (Ok totals) refusal form is = cc
by_form (Err (Unread place)) refusal form is = absurd form
by_form (Err (Refused other)) refusal form is = let same : other ≡ refusal = cc in subst (λ (r : SumRefusal). r.rule ≡ U1) same form
by_form (Err NoMemory) refusal form is = cc

-- ---- one of several files

-- a count that rose since later rose since before
pub rose_since : (before mid after : ℕ) → before ≤ mid → Rose mid after → Rose before after
rose_since before mid after on (inl more) = inl (omega (arith, on, more))
rose_since before mid after on (inr last) = inr last

-- counts that are added have the head of those before them
same_head : (held : List ℕ → Option (List ℕ)) (names : List (List ℕ)) (a b : Totals) → AddsFiles held names a b →
    (b.app ≡ a.app) × (b.trace ≡ a.trace)
same_head held [] a b same = (ap (λ (t : Totals). t.app) same, ap (λ (t : Totals). t.trace) same)
same_head held (name ∷ names) a b (mid, (more, tells, adds), rest) =
    let behind = same_head held names mid b rest in (behind.0 ∙ adds.app.1, behind.1 ∙ adds.trace.1)

-- what is another head beside one is another beside the same one
flaw_kept : (rule : SumRule) (a b more : Totals) → b.app ≡ a.app → b.trace ≡ a.trace → IsFlaw rule b more → IsFlaw rule a more
flaw_kept U1 a b more app trace flaw = flaw
flaw_kept U2 a b more app trace flaw = λ is. flaw (is ∙ sym app)
flaw_kept U3 a b more app trace flaw = (flaw.0 ∙ app, λ is. flaw.1 (is ∙ sym trace))

other_kept : (held : Option (List ℕ)) (a b : Totals) (refusal : SumRefusal) → b.app ≡ a.app → b.trace ≡ a.trace →
    IsOtherFile held b refusal → IsOtherFile held a refusal
other_kept held a b refusal app trace (inl form) = inl form
other_kept held a b refusal app trace (inr (more, tells, flaw, line)) =
    inr (more, tells, flaw_kept refusal.rule a b more app trace flaw, line)

-- what is so of the name at a place is so of one of them
pub name_any : (P : List ℕ → Type 0) (names : List (Bor (List ℕ))) (i : ℕ) (none : Bor (List ℕ)) → i < length names →
    P (get_or names i none).now → Any P (names_in names)
name_any P names i none within holds =
    let name = (get_or names i none).now in
    (i, name, omega (arith, within, length-map names (λ (n : Bor (List ℕ)). n.now)), get_or-map (λ (n : Bor (List ℕ)). n.now) names i none name within, holds)

pub other_any : (held : List ℕ → Option (List ℕ)) (names : List (Bor (List ℕ))) (i : ℕ) (none : Bor (List ℕ)) (a b : Totals) (refusal : SumRefusal) →
    i < length names → AddsFiles held (names_in (take i names)) a b → IsOtherFile (held (get_or names i none).now) b refusal →
    IsOther held (names_in names) a refusal
other_any held names i none a b refusal within adds other =
    let head = same_head held (names_in (take i names)) a b adds in
    name_any (λ name. IsOtherFile (held name) a refusal) names i none within
    (other_kept (held (get_or names i none).now) a b refusal head.0 head.1 other)

-- a first file, and those after it
pub rose_first : (reads reads' : List ℕ → ℕ) (first : List ℕ) (others : List (List ℕ)) → Rose (reads first) (reads' first) →
    Any (λ (name : List ℕ). Rose (reads name) (reads' name)) (first ∷ others)
rose_first reads reads' first others rose = (0, first, omega arith, refl, rose)

pub rose_behind : (reads mid reads' : List ℕ → ℕ) (first : List ℕ) (others : List (List ℕ)) → ((name : List ℕ) → reads name ≤ mid name) →
    Any (λ (name : List ℕ). Rose (mid name) (reads' name)) others → Any (λ (name : List ℕ). Rose (reads name) (reads' name)) (first ∷ others)
rose_behind reads mid reads' first others on some =
    (suc some.0, some.1, omega (arith, some.2), some.3, rose_since (reads some.1) (mid some.1) (reads' some.1) (on some.1) some.4)
