-- The numbers of declared names, one after another.
use Rattle.std.proofs.Common.{◌≡◌, ℕ, zero, suc, ◌+◌, ◌<◌, ◌≤◌, ◌⊎◌, inl, inr, List, [], ◌∷◌, ◌++◌, Option, None, Some, length, take, get_or, slice_get, refl, sym, ap, ◌∙◌, arith}
use Rattle.std.specs.Prelude.{sum_by}
use Rattle.std.specs.Option.{option_map}
use Rattle.std.proofs.lemmas.Bool.{cases_lt}
use Rattle.std.proofs.lemmas.List.{take_more}
use Rattle.std.proofs.lemmas.List.Sums.{sum_by-cons, sum_by-append}
use Rattle.std.proofs.lemmas.Option.{slice_get-get_or, get_or_from_slice_get}
use Rattle.ps_names.specs.declared.entry.Entry.{Entry}
use Rattle.ps_names.specs.declared.entry.Sort.{Sort}
use Rattle.ps_names.specs.declared.entry.Sort.TheVariants.{InputSignal, OutputSignal, LocalSignal, Instance, Nothing}
use Rattle.ps_parser.specs.declared.name.Name.{Name}
use Rattle.ps_names.specs.Limits.{inputs, outputs, locals, instances, signals, outputs_of}
use Rattle.ps_names.specs.Stands.{number_as, outputs_before, output_at, pin_number_as}
use Rattle.ps_resolve.specs.declared.limits.Counts.{Counts}
use Rattle.ps_resolve.specs.declared.numbers.Numbered.{Numbered}
use Rattle.ps_resolve.specs.Numbering.{number_in, numbers_at, AreNumbers}

pub sum_more : {X : Type 0} (f : X → ℕ) (xs : List X) (i : ℕ) (d : X) → i < length xs → sum_by f (take (i + 1) xs) ≡ sum_by f (take i xs) + f (get_or xs i d)
sum_more f xs i d h =
    ap (sum_by f) (take_more xs i d h) ∙ sum_by-append f (take i xs) (get_or xs i d ∷ []) ∙ (let one = sum_by-cons f (get_or xs i d) [] in omega arith)

pub number_in_is : (es : List Entry) (i : ℕ) (s : Sort) (all before : Counts) →
    all.inputs ≡ inputs es → all.outputs ≡ outputs es → before.inputs ≡ inputs (take i es) → before.outputs ≡ outputs (take i es) → before.locals ≡ locals (take i es) → before.instances ≡ instances (take i es) →
    number_in s all before ≡ number_as es s i
number_in_is es i (InputSignal t) all before a b c d e f = c
number_in_is es i (OutputSignal t) all before a b c d e f = omega arith
number_in_is es i (LocalSignal t) all before a b c d e f = omega arith
number_in_is es i (Instance kind) all before a b c d e f = f
number_in_is es i Nothing all before a b c d e f = refl

pub both_numbers : (n f : ℕ) (es : List Entry) (i : ℕ) (s : Sort) → n ≡ number_as es s i → f ≡ outputs_before es i →
    let it : Numbered = record { number = n; first = f } in it ≡ numbers_at es i s
both_numbers n f es i s a b =
    let to : ℕ → ℕ → Numbered = λ x y. record { number = x; first = y } in
    ap (λ x. to x f) a ∙ ap (λ y. to (number_as es s i) y) b

slice_push_left : {X : Type 0} (xs : List X) (x y : X) (k : ℕ) → slice_get xs k ≡ Some y → slice_get (xs ++ x ∷ []) k ≡ Some y
slice_push_left [] x y k h = cc
slice_push_left (z ∷ xs) x y zero h = h
slice_push_left (z ∷ xs) x y (suc k) h = slice_push_left xs x y k h

slice_push_end : {X : Type 0} (xs : List X) (x : X) → slice_get (xs ++ x ∷ []) (length xs) ≡ Some x
slice_push_end [] x = refl
slice_push_end (z ∷ xs) x = slice_push_end xs x

-- one more number
pub more_numbers : (es : List Entry) (old new : List Numbered) (x : Numbered) (i : ℕ) (d : Entry) → i < length es → length old ≡ i → new ≡ old ++ x ∷ [] → d ≡ get_or es i d → x ≡ numbers_at es i d.sort →
    ((k : ℕ) (e : Entry) → k < i → slice_get es k ≡ Some e → slice_get old k ≡ Some (numbers_at es k e.sort)) →
    (k : ℕ) (e : Entry) → k < i + 1 → slice_get es k ≡ Some e → slice_get new k ≡ Some (numbers_at es k e.sort)
more_numbers es old new x i d within long is at_i one each k e lt at = by (cases_lt k i)
  where
    by : (k < i) ⊎ (i ≤ k) → slice_get new k ≡ Some (numbers_at es k e.sort)
    by (inl below) = ap (λ l. slice_get l k) is ∙ slice_push_left old x (numbers_at es k e.sort) k (each k e below at)
    by (inr above) =
        let here : k ≡ i = omega arith in
        let same : Some e ≡ Some d = sym at ∙ ap (slice_get es) here ∙ slice_get-get_or es i d within ∙ ap Some (sym at_i) in
        let entry : e ≡ d = cc in
        ap (λ l. slice_get l k) is ∙ ap (slice_get (old ++ x ∷ [])) (here ∙ sym long) ∙ slice_push_end old x
        ∙ ap Some (one ∙ ap (λ z. numbers_at es i z.sort) (sym entry) ∙ ap (λ n. numbers_at es n e.sort) (sym here))

-- what stands within
at_within : {X : Type 0} (xs : List X) (k : ℕ) → k < length xs → (x : X) × (slice_get xs k ≡ Some x)
at_within [] k h = absurd (omega arith)
at_within (x ∷ xs) zero h = (x, refl)
at_within (x ∷ xs) (suc k) h = at_within xs k (omega arith)

first_upto : (es : List Entry) (k : ℕ) → sum_by (λ e. outputs_of e.sort) (take k es) ≤ sum_by (λ e. outputs_of e.sort) es
first_upto [] zero = omega arith
first_upto [] (suc k) = omega arith
first_upto (e ∷ es) zero = omega arith
first_upto (e ∷ es) (suc k) = omega (arith, sum_by-cons (λ x. outputs_of x.sort) e es, sum_by-cons (λ x. outputs_of x.sort) e (take k es), first_upto es k)

pub before_below : (es : List Entry) (k : ℕ) → outputs_before es k ≤ signals es
before_below es k = let h = first_upto es k in omega arith

pub first_is : (es : List Entry) (ns : List Numbered) (k : ℕ) (d : Numbered) → AreNumbers es ns → k < length ns → (get_or ns k d).first ≡ outputs_before es k
first_is es ns k d are within =
    let long = are.long in
    let e = at_within es k (omega arith) in
    ap (λ n. n.first) (get_or_from_slice_get ns k (numbers_at es k e.0.sort) d (are.each k e.0 e.1))

pub pin_as : (es : List Entry) (k : ℕ) (first out : ℕ) (o : Option Entry) (kind : _) (q : Name) → slice_get es k ≡ o → Some (Instance kind) ≡ option_map (λ e. e.sort) o →
    ((e : Entry) → slice_get es k ≡ Some e → first ≡ outputs_before es k) → out ≡ output_at kind q →
    first + out ≡ pin_number_as es (option_map (λ e. e.sort) o) k q
pin_as es k first out None kind q at is starts ends = cc
pin_as es k first out (Some e) kind q at is starts ends =
    let a = starts e at in
    (let sum : first + out ≡ outputs_before es k + output_at kind q = omega arith in sum) ∙ ap (λ s. pin_number_as es s k q) is
