-- Where the fields of a report stand, and where two reports first differ.
use Rattle.std.proofs.Common.{◌≡◌, ◌≢◌, ℕ, zero, suc, ◌+◌, ◌*◌, ◌<◌, Bool, true, false, List, [], ◌∷◌, ◌++◌, take, drop, length, map, Some, None, sym, ap, ◌∙◌, refl, ⊎_elim, arith, append_assoc, length-append, zero-add}
use Rattle.std.specs.Prelude.{slice_get, nat_eq, ◌==◌, not}
use mathlib.Core.Bool.{beq}
use Rattle.std.specs.List.{common_prefix_len, flat_map}
use Rattle.std.proofs.lemmas.Bool.{cases_Bool, cond-true, cond-false, eqb-true, eq-eqb, ne_eqb, false≢true, true≢false}
use Rattle.std.proofs.lemmas.List.{map-append, length-map, length-take-le, length-replicate}
use Rattle.std.proofs.lemmas.List.Sums.{common_prefix_len-le}
use Rattle.std.proofs.lemmas.List.FromFn.{length-map-range_with_len}
use Rattle.std.proofs.lemmas.List.Concat.{flat_map-cons}
use Rattle.std.proofs.lemmas.Grind.{flat_map-append}
use Rattle.ps_model.specs.declared.report.Diag.{Diag}
use Rattle.ps_model.specs.declared.report.Report.{Report}
use Rattle.ps_model.specs.Stored.{bit}
use Rattle.ps_model.specs.Blank.{no_diag}
use Rattle.ps_model.specs.Blocks.{Block_state}
use Rattle.ps_model.specs.Network.{Network, input_count, instance_count}
use Rattle.ps_model.specs.Scanning.{State, signal_in}
use Rattle.ps_model.specs.Meaning.{report, diag_in}
use Rattle.ps_model.specs.Fields.{diag_fields, fields, first_unequal, first_difference, blank_report}
use Rattle.ps_model.proofs.Once.{split_at}

abbrev shared : List ℕ → List ℕ → ℕ
shared xs ys = common_prefix_len nat_eq xs ys

-- ---- Where two lists first differ.

-- a front that both lists have
shared_front : (front xs ys : List ℕ) → shared (front ++ xs) (front ++ ys) ≡ length front + shared xs ys
shared_front [] xs ys = sym (zero-add (shared xs ys))
shared_front (x ∷ front) xs ys =
    cond-true {A = ℕ} (nat_eq x x) (1 + shared (front ++ xs) (front ++ ys)) 0 (eq-eqb x x refl)
    ∙ let e : shared (front ++ xs) (front ++ ys) ≡ length front + shared xs ys = shared_front front xs ys in omega arith

unequal_at : (xs ys : List ℕ) (n : ℕ) → shared xs ys ≡ n → n < length xs → first_unequal xs ys ≡ Some n
unequal_at xs ys n e h =
    cond-false (shared xs ys == length xs) None (Some (shared xs ys)) (ne_eqb (shared xs ys) (length xs) (λ all. omega arith)) ∙ ap Some e

unequal_is : (xs ys : List ℕ) (n : ℕ) → first_unequal xs ys ≡ Some n → (shared xs ys ≡ n) × (n < length xs)
unequal_is xs ys n h =
    ⊎_elim
    (λ all. let none : None ≡ Some n = sym (cond-true (shared xs ys == length xs) None (Some (shared xs ys)) all) ∙ h in cc)
    (λ some.
    let is : Some (shared xs ys) ≡ Some n = sym (cond-false (shared xs ys == length xs) None (Some (shared xs ys)) some) ∙ h in
    let e : shared xs ys ≡ n = cc in
    let most = (common_prefix_len-le nat_eq xs ys).0 in
    let other : shared xs ys ≢ length xs = λ all. true≢false (sym (eq-eqb (shared xs ys) (length xs) all) ∙ some) in
    (e, omega arith))
    (cases_Bool (shared xs ys == length xs))

-- further elements don't move a first difference
shared_further : (xs ys : List ℕ) (n : ℕ) → length xs ≡ length ys → shared xs ys ≡ n → n < length xs → (xs' ys' : List ℕ) → shared (xs ++ xs') (ys ++ ys') ≡ n
shared_further [] ys n size e h xs' ys' = absurd (omega arith)
shared_further (x ∷ xs) [] n size e h xs' ys' = absurd (omega arith)
shared_further (x ∷ xs) (y ∷ ys) zero size e h xs' ys' =
    ⊎_elim
    (λ same. absurd (let more : 1 + shared xs ys ≡ 0 = sym (cond-true {A = ℕ} (nat_eq x y) (1 + shared xs ys) 0 same) ∙ e in omega arith))
    (λ other. cond-false {A = ℕ} (nat_eq x y) (1 + shared (xs ++ xs') (ys ++ ys')) 0 other)
    (cases_Bool (nat_eq x y))
shared_further (x ∷ xs) (y ∷ ys) (suc n) size e h xs' ys' =
    ⊎_elim
    (λ same.
    let more : 1 + shared xs ys ≡ suc n = sym (cond-true {A = ℕ} (nat_eq x y) (1 + shared xs ys) 0 same) ∙ e in
    let rest : shared (xs ++ xs') (ys ++ ys') ≡ n = shared_further xs ys n (omega arith) (omega arith) (omega arith) xs' ys' in
    cond-true {A = ℕ} (nat_eq x y) (1 + shared (xs ++ xs') (ys ++ ys')) 0 same ∙ omega arith)
    (λ other. absurd (let none : 0 ≡ suc n = sym (cond-false {A = ℕ} (nat_eq x y) (1 + shared xs ys) 0 other) ∙ e in omega arith))
    (cases_Bool (nat_eq x y))

-- a first difference inside two lists, between a front that both have and further elements
pub unequal_inside : (front xs ys xs' ys' : List ℕ) (n : ℕ) → length xs ≡ length ys → first_unequal xs ys ≡ Some n →
    first_unequal (front ++ (xs ++ xs')) (front ++ (ys ++ ys')) ≡ Some (length front + n)
unequal_inside front xs ys xs' ys' n size h =
    let is = unequal_is xs ys n h in
    let further : shared (xs ++ xs') (ys ++ ys') ≡ n = shared_further xs ys n size is.0 is.1 xs' ys' in
    unequal_at (front ++ (xs ++ xs')) (front ++ (ys ++ ys')) (length front + n)
    (shared_front front (xs ++ xs') (ys ++ ys') ∙ ap (λ k. length front + k) further)
    (omega (arith, length-append front (xs ++ xs'), length-append xs xs'))

shared_all : (xs ys : List ℕ) → length xs ≡ length ys → shared xs ys ≡ length xs → xs ≡ ys
shared_all [] [] size e = refl
shared_all [] (y ∷ ys) size e = absurd (omega arith)
shared_all (x ∷ xs) [] size e = absurd (omega arith)
shared_all (x ∷ xs) (y ∷ ys) size e =
    ⊎_elim
    (λ same.
    let more : 1 + shared xs ys ≡ length (x ∷ xs) = sym (cond-true {A = ℕ} (nat_eq x y) (1 + shared xs ys) 0 same) ∙ e in
    let first : x ≡ y = eqb-true x y same in
    let rest : xs ≡ ys = shared_all xs ys (omega arith) (omega arith) in
    cc)
    (λ other. absurd (let none : 0 ≡ length (x ∷ xs) = sym (cond-false {A = ℕ} (nat_eq x y) (1 + shared xs ys) 0 other) ∙ e in omega arith))
    (cases_Bool (nat_eq x y))

-- lists of one length have no first difference exactly where they are equal
pub none_unequal : (xs ys : List ℕ) → length xs ≡ length ys → first_unequal xs ys ≡ None → xs ≡ ys
none_unequal xs ys size h =
    ⊎_elim
    (λ all. shared_all xs ys size (eqb-true (shared xs ys) (length xs) all))
    (λ some. let is : Some (shared xs ys) ≡ None = sym (cond-false (shared xs ys == length xs) None (Some (shared xs ys)) some) ∙ h in cc)
    (cases_Bool (shared xs ys == length xs))

pub none_unequal_to_itself : (xs : List ℕ) → first_unequal xs xs ≡ None
none_unequal_to_itself xs =
    let all : shared xs xs ≡ length xs = shared_itself xs in
    cond-true (shared xs xs == length xs) None (Some (shared xs xs)) (eq-eqb (shared xs xs) (length xs) all)
  where
    shared_itself : (zs : List ℕ) → shared zs zs ≡ length zs
    shared_itself [] = refl
    shared_itself (z ∷ zs) = cond-true {A = ℕ} (nat_eq z z) (1 + shared zs zs) 0 (eq-eqb z z refl) ∙ let e : shared zs zs ≡ length zs = shared_itself zs in omega arith

-- ---- Where the fields stand.

pub length-flat_map-diag_fields : (ds : List Diag) → length (flat_map diag_fields ds) ≡ 3 * length ds
length-flat_map-diag_fields [] = refl
length-flat_map-diag_fields (d ∷ ds) =
    ap length (flat_map-cons diag_fields d ds) ∙ omega (arith, length-append (diag_fields d) (flat_map diag_fields ds), length-flat_map-diag_fields ds)

-- how many fields a report has
pub length-fields : (r : Report) → length (fields r) ≡ length r.outs + 3 * length r.diags
length-fields r = omega (arith, length-append (map bit r.outs) (flat_map diag_fields r.diags), length-map r.outs bit, length-flat_map-diag_fields r.diags)

outs_at : (r : Report) (j : ℕ) (x : Bool) → slice_get r.outs j ≡ Some x →
    fields r ≡ map bit (take j r.outs) ++ ((bit x ∷ []) ++ (map bit (drop (suc j) r.outs) ++ flat_map diag_fields r.diags))
outs_at r j x at =
    ap (λ l. map bit l ++ flat_map diag_fields r.diags) (split_at r.outs j x at)
    ∙ ap (λ l. l ++ flat_map diag_fields r.diags) (map-append bit (take j r.outs) (x ∷ drop (suc j) r.outs))
    ∙ append_assoc (map bit (take j r.outs)) (bit x ∷ map bit (drop (suc j) r.outs)) (flat_map diag_fields r.diags)

diags_at : (r : Report) (i : ℕ) (x : Diag) → slice_get r.diags i ≡ Some x →
    fields r ≡ (map bit r.outs ++ flat_map diag_fields (take i r.diags)) ++ (diag_fields x ++ flat_map diag_fields (drop (suc i) r.diags))
diags_at r i x at =
    ap (λ l. map bit r.outs ++ flat_map diag_fields l) (split_at r.diags i x at)
    ∙ ap (λ l. map bit r.outs ++ l) (flat_map-append diag_fields (take i r.diags) (x ∷ drop (suc i) r.diags) ∙ ap (λ l. flat_map diag_fields (take i r.diags) ++ l) (flat_map-cons diag_fields x (drop (suc i) r.diags)))
    ∙ sym (append_assoc (map bit r.outs) (flat_map diag_fields (take i r.diags)) (diag_fields x ++ flat_map diag_fields (drop (suc i) r.diags)))

-- what the test of two Booleans means
pub bits_differ : (x y : Bool) → not (beq x y) ≡ true → x ≢ y
bits_differ true true other same = false≢true other
bits_differ true false other same = true≢false same
bits_differ false true other same = false≢true same
bits_differ false false other same = false≢true other

pub bits_same : (x y : Bool) → not (beq x y) ≡ false → x ≡ y
bits_same true true same = refl
bits_same true false same = absurd (true≢false same)
bits_same false true same = absurd (true≢false same)
bits_same false false same = refl

output_differs : (x y : Bool) → x ≢ y → first_unequal (bit x ∷ []) (bit y ∷ []) ≡ Some 0
output_differs true true other = absurd (other refl)
output_differs true false other = refl
output_differs false true other = refl
output_differs false false other = absurd (other refl)

-- the first difference is output j
pub outs_differ : (a b : Report) (j : ℕ) (x y : Bool) → j < length a.outs → slice_get a.outs j ≡ Some x → slice_get b.outs j ≡ Some y → x ≢ y →
    take j a.outs ≡ take j b.outs → first_difference a b ≡ Some j
outs_differ a b j x y inside at at' other same =
    let front = map bit (take j a.outs) in
    let rest = map bit (drop (suc j) a.outs) ++ flat_map diag_fields a.diags in
    let rest' = map bit (drop (suc j) b.outs) ++ flat_map diag_fields b.diags in
    let size : length front + 0 ≡ j = omega (arith, length-map (take j a.outs) bit, length-take-le j a.outs (omega arith)) in
    ap (λ l. first_unequal l (fields b)) (outs_at a j x at)
    ∙ ap (λ l. first_unequal (front ++ ((bit x ∷ []) ++ rest)) l) (outs_at b j y at' ∙ ap (λ l. map bit l ++ ((bit y ∷ []) ++ rest')) (sym same))
    ∙ unequal_inside front (bit x ∷ []) (bit y ∷ []) rest rest' 0 refl (output_differs x y other)
    ∙ ap Some size

-- the first difference is a field of instance i
pub diags_differ : (a b : Report) (i n : ℕ) (x y : Diag) → i < length a.diags → slice_get a.diags i ≡ Some x → slice_get b.diags i ≡ Some y →
    first_unequal (diag_fields x) (diag_fields y) ≡ Some n → a.outs ≡ b.outs → take i a.diags ≡ take i b.diags →
    first_difference a b ≡ Some (length a.outs + 3 * i + n)
diags_differ a b i n x y inside at at' other outs same =
    let front = map bit a.outs ++ flat_map diag_fields (take i a.diags) in
    let rest = flat_map diag_fields (drop (suc i) a.diags) in
    let rest' = flat_map diag_fields (drop (suc i) b.diags) in
    let size : length front + n ≡ length a.outs + 3 * i + n =
    omega (arith, length-append (map bit a.outs) (flat_map diag_fields (take i a.diags)), length-map a.outs bit, length-flat_map-diag_fields (take i a.diags), length-take-le i a.diags (omega arith)) in
    ap (λ l. first_unequal l (fields b)) (diags_at a i x at)
    ∙ ap (λ l. first_unequal (front ++ (diag_fields x ++ rest)) l)
    (diags_at b i y at'
    ∙ ap (λ l. (map bit l ++ flat_map diag_fields (take i b.diags)) ++ (diag_fields y ++ rest')) (sym outs)
    ∙ ap (λ l. (map bit a.outs ++ flat_map diag_fields l) ++ (diag_fields y ++ rest')) (sym same))
    ∙ unequal_inside front (diag_fields x) (diag_fields y) rest rest' n refl other
    ∙ ap Some size

-- ---- Reports with the same fields are equal.

same_bit : (x y : Bool) → bit x ≡ bit y → x ≡ y
same_bit true true e = refl
same_bit true false e = cc
same_bit false true e = cc
same_bit false false e = refl

same_diag : (x y : Diag) → bit x.ready ≡ bit y.ready → bit x.error ≡ bit y.error → x.code ≡ y.code → x ≡ y
same_diag x y r e c = λ i. record { ready = same_bit x.ready y.ready r i; error = same_bit x.error y.error e i; code = c i }

pub diag_from_no_difference : (x y : Diag) → first_unequal (diag_fields x) (diag_fields y) ≡ None → x ≡ y
diag_from_no_difference x y h =
    let all : diag_fields x ≡ diag_fields y = none_unequal (diag_fields x) (diag_fields y) refl h in
    same_diag x y (cc) (cc) (cc)

same_diags : (xs ys : List Diag) → length xs ≡ length ys → flat_map diag_fields xs ≡ flat_map diag_fields ys → xs ≡ ys
same_diags [] [] size e = refl
same_diags [] (y ∷ ys) size e = absurd (omega arith)
same_diags (x ∷ xs) [] size e = absurd (omega arith)
same_diags (x ∷ xs) (y ∷ ys) size e =
    let all : diag_fields x ++ flat_map diag_fields xs ≡ diag_fields y ++ flat_map diag_fields ys =
    sym (flat_map-cons diag_fields x xs) ∙ e ∙ flat_map-cons diag_fields y ys in
    let ready : bit x.ready ≡ bit y.ready = cc in
    let error : bit x.error ≡ bit y.error = cc in
    let code : x.code ≡ y.code = cc in
    let rest : flat_map diag_fields xs ≡ flat_map diag_fields ys = cc in
    let first : x ≡ y = same_diag x y ready error code in
    let others : xs ≡ ys = same_diags xs ys (omega arith) rest in
    cc

same_fields : (xs ys : List Bool) (ds es : List Diag) → length xs ≡ length ys → length ds ≡ length es →
    map bit xs ++ flat_map diag_fields ds ≡ map bit ys ++ flat_map diag_fields es → (xs ≡ ys) × (ds ≡ es)
same_fields [] [] ds es size size' e = (refl, same_diags ds es size' e)
same_fields [] (y ∷ ys) ds es size size' e = absurd (omega arith)
same_fields (x ∷ xs) [] ds es size size' e = absurd (omega arith)
same_fields (x ∷ xs) (y ∷ ys) ds es size size' e =
    let head : bit x ≡ bit y = cc in
    let tail : map bit xs ++ flat_map diag_fields ds ≡ map bit ys ++ flat_map diag_fields es = cc in
    let first : x ≡ y = same_bit x y head in
    let rest = same_fields xs ys ds es (omega arith) size' tail in
    let others : xs ≡ ys = rest.0 in
    (cc, rest.1)

pub equal_reports : (a b : Report) → a.outs ≡ b.outs → a.diags ≡ b.diags → a ≡ b
equal_reports a b o d = λ i. record { outs = o i; diags = d i }

-- two reports of the same sizes have no first difference exactly where they are equal
pub equal_from_no_difference : (a b : Report) → length a.outs ≡ length b.outs → length a.diags ≡ length b.diags → first_difference a b ≡ None → a ≡ b
equal_from_no_difference a b outs diags h =
    let sizes : length (fields a) ≡ length (fields b) = omega (arith, length-fields a, length-fields b) in
    let same = same_fields a.outs b.outs a.diags b.diags outs diags (none_unequal (fields a) (fields b) sizes h) in
    equal_reports a b same.0 same.1

pub no_difference_from_equal : (a b : Report) → a ≡ b → first_difference a b ≡ None
no_difference_from_equal a b same = ap (first_difference a) (sym same) ∙ none_unequal_to_itself (fields a)

-- ---- Sizes.

-- the report of an application has its sizes
pub report_outs : (net : Network) (w : State) → length (report net w).outs ≡ length net.outputs
report_outs net w = length-map-range_with_len (signal_in w) (input_count net) (length net.outputs)

pub report_diags : (net : Network) (w : State) → length w.blocks ≡ instance_count net → length (report net w).diags ≡ instance_count net
report_diags net w each = length-map w.blocks (λ (b : Block_state). diag_in b.code) ∙ each

-- and so has the blank one of these sizes
pub blank_outs : (outputs instances : ℕ) → length (blank_report outputs instances).outs ≡ outputs
blank_outs outputs instances = length-replicate outputs false

pub blank_diags : (outputs instances : ℕ) → length (blank_report outputs instances).diags ≡ instances
blank_diags outputs instances = length-replicate instances no_diag
