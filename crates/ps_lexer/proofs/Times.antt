-- The parts of a TIME literal have one reading.
use Rattle.std.proofs.Common.{Option, Some, None, ◌≡◌, ℕ, zero, suc, ◌+◌, ◌-◌, ◌*◌, ◌<◌, ◌≤◌, ◌⊎◌, inl, inr, Bool, true, false, cond, ⊎_elim, List, [], ◌∷◌, ◌++◌, length, take, drop, slice_index, refl, sym, ap, ◌∙◌, subst, arith, length-append}
use Rattle.std.proofs.lemmas.List.{append-nil}
use Rattle.std.proofs.lemmas.Bool.Decides.{nat_tests, eqb_tells}
use Rattle.std.specs.Option.{SomeIff, IfSome, IfNone}
use Rattle.std.proofs.Math.Nat.{mul-le-mul_left}
use Rattle.std.proofs.Math.Seq.{drop-cons}
use Rattle.std.specs.List.{AllByRecursion}
use Rattle.std.specs.Char.{is_ascii_digit, is_ascii_alphabetic, to_ascii_lowercase}
use Rattle.ps_lexer.specs.declared.time.TimeUnit.{TimeUnit}
use Rattle.ps_lexer.specs.declared.time.TimeUnit.TheVariants.{Day, Hour, Minute, Second, Millisecond}
use Rattle.ps_lexer.specs.Spelling.{folded}
use Rattle.ps_lexer.specs.TimeLiterals.{unit_spelling, milliseconds, rank, number_from, number_of, IsPart, PartsGive, last, more}
use Rattle.ps_lexer.specs.Scanning.{Stops, IsSplit, gap_rest}

pub number_from-grows : (n : ℕ) (ds : List ℕ) → n ≤ number_from n ds
number_from-grows n [] = omega arith
number_from-grows n (d ∷ ds) = omega (arith, number_from-grows (10 * n + (d - 48)) ds)

pub too_big : (ds : List ℕ) (i n : ℕ) → i < length ds → number_from n (drop i ds) ≡ number_of ds → 4294967296 ≤ 10 * n + (slice_index ds i - 48) → 4294967296 ≤ number_of ds
too_big ds i n h same big =
    let e : drop i ds ≡ slice_index ds i ∷ drop (suc i) ds = drop-cons ds i 0 h in
    let f = sym (ap (number_from n) e) ∙ same in
    omega (arith, f, number_from-grows (10 * n + (slice_index ds i - 48)) (drop (suc i) ds))

-- a run that stops has one length
run_one : (p : ℕ → Bool) (xs ys r q : List ℕ) → AllByRecursion (λ b. p b ≡ true) xs → AllByRecursion (λ b. p b ≡ true) ys → Stops p r → Stops p q → xs ++ r ≡ ys ++ q → (xs ≡ ys) × (r ≡ q)
run_one p [] [] r q hx hy sr sq e = (refl, e)
run_one p [] (y ∷ ys) r q hx hy sr sq e = absurd (let s : p y ≡ false = subst (Stops p) e sr in let t = hy.0 in cc)
run_one p (x ∷ xs) [] r q hx hy sr sq e = absurd (let s : p x ≡ false = subst (Stops p) (sym e) sq in let t = hx.0 in cc)
run_one p (x ∷ xs) (y ∷ ys) r q hx hy sr sq e =
    let h : x ≡ y = cc in let t : xs ++ r ≡ ys ++ q = cc in
    let others = run_one p xs ys r q hx.1 hy.1 sr sq t in
    ((λ i. h i ∷ others.0 i), others.1)

-- the letters of a unit are letters
letter_of : (b c : ℕ) → is_ascii_alphabetic c ≡ true → to_ascii_lowercase b ≡ c → is_ascii_alphabetic b ≡ true
letter_of b c h e = grind (arith, nat_tests)

letter_no_digit : (b : ℕ) → is_ascii_alphabetic b ≡ true → is_ascii_digit b ≡ false
letter_no_digit b h = grind (arith, nat_tests)

digit_no_letter : (b : ℕ) → is_ascii_digit b ≡ true → is_ascii_alphabetic b ≡ false
digit_no_letter b h = grind (arith, nat_tests)

digit_no_line : (b : ℕ) → is_ascii_digit b ≡ true → b ≡ 95 → ⊥
digit_no_line b h e = let f : is_ascii_digit 95 ≡ true = subst (λ c. is_ascii_digit c ≡ true) e h in cc

one_letter : (w : List ℕ) (c : ℕ) → is_ascii_alphabetic c ≡ true → folded w ≡ c ∷ [] → (0 < length w) × AllByRecursion (λ b. is_ascii_alphabetic b ≡ true) w
one_letter [] c h e = cc
one_letter (b ∷ []) c h e = (omega arith, (letter_of b c h cc, tt))
one_letter (b ∷ d ∷ w) c h e = cc

two_letters : (w : List ℕ) (c f : ℕ) → is_ascii_alphabetic c ≡ true → is_ascii_alphabetic f ≡ true → folded w ≡ c ∷ f ∷ [] → (0 < length w) × AllByRecursion (λ b. is_ascii_alphabetic b ≡ true) w
two_letters [] c f h k e = cc
two_letters (b ∷ []) c f h k e = cc
two_letters (b ∷ d ∷ []) c f h k e = (omega arith, (letter_of b c h cc, (letter_of d f k cc, tt)))
two_letters (b ∷ d ∷ g ∷ w) c f h k e = cc

unit_letters : (w : List ℕ) (u : TimeUnit) → folded w ≡ unit_spelling u → (0 < length w) × AllByRecursion (λ b. is_ascii_alphabetic b ≡ true) w
unit_letters w Day e = one_letter w 100 refl e
unit_letters w Hour e = one_letter w 104 refl e
unit_letters w Minute e = one_letter w 109 refl e
unit_letters w Second e = one_letter w 115 refl e
unit_letters w Millisecond e = two_letters w 109 115 refl refl e

-- a unit can be told by its letters
mark_of : List ℕ → ℕ
mark_of [] = 0
mark_of (b ∷ []) = b
mark_of (b ∷ c ∷ w) = 1

one_unit : (u q : TimeUnit) → mark_of (unit_spelling u) ≡ mark_of (unit_spelling q) → u ≡ q
unfolding mark_of
one_unit Day Day e = refl
one_unit Hour Hour e = refl
one_unit Minute Minute e = refl
one_unit Second Second e = refl
one_unit Millisecond Millisecond e = refl
one_unit u q e = absurd (omega (arith, e))

same_unit : (w : List ℕ) (u q : TimeUnit) → folded w ≡ unit_spelling u → folded w ≡ unit_spelling q → u ≡ q
same_unit w u q e f = one_unit u q (ap mark_of (sym e ∙ f))

no_digit_first : (w x : List ℕ) → 0 < length w → AllByRecursion (λ b. is_ascii_alphabetic b ≡ true) w → Stops is_ascii_digit (w ++ x)
no_digit_first [] x some h = absurd (omega arith)
no_digit_first (b ∷ w) x some h = letter_no_digit b h.0

digits_first : (ds x : List ℕ) → 0 < length ds → AllByRecursion (λ b. is_ascii_digit b ≡ true) ds → Stops is_ascii_alphabetic (ds ++ x) × ((y : List ℕ) → ds ++ x ≡ 95 ∷ y → ⊥)
digits_first [] x some h = absurd (omega arith)
digits_first (d ∷ ds) x some h = (digit_no_letter d h.0, λ y e. digit_no_line d h.0 cc)

-- a literal begins with a digit
begins : {least v : ℕ} {bytes : List ℕ} → PartsGive least bytes v → Stops is_ascii_alphabetic bytes × ((y : List ℕ) → bytes ≡ 95 ∷ y → ⊥)
begins (last ds ls u part le e v) = let f = digits_first ds ls part.some part.only_digits in (subst (Stops is_ascii_alphabetic) (sym e) f.0, λ y h. f.1 y (sym e ∙ h))
begins (more ds ls rest u part le (inl e) t v) = let f = digits_first ds (ls ++ rest) part.some part.only_digits in (subst (Stops is_ascii_alphabetic) (sym e) f.0, λ y h. f.1 y (sym e ∙ h))
begins (more ds ls rest u part le (inr e) t v) = let f = digits_first ds (ls ++ 95 ∷ rest) part.some part.only_digits in (subst (Stops is_ascii_alphabetic) (sym e) f.0, λ y h. f.1 y (sym e ∙ h))

-- What a literal is, by its first part.
pub data FirstPart (least v : ℕ) (ds ls tail : List ℕ) : Type 0 where
  end : (u : TimeUnit) → IsPart ds ls u → least ≤ rank u → tail ≡ [] → v ≡ number_of ds * milliseconds u → FirstPart least v ds ls tail
  goes : (u : TimeUnit) (rest : List ℕ) (w : ℕ) → IsPart ds ls u → least ≤ rank u → (tail ≡ rest) ⊎ (tail ≡ 95 ∷ rest) → PartsGive (suc (rank u)) rest w → v ≡ number_of ds * milliseconds u + w → FirstPart least v ds ls tail

module _ {bytes ds ls tail : List ℕ} (split : IsSplit bytes ds ls tail) where
  runs : (ds' ls' x : List ℕ) (u : TimeUnit) → IsPart ds' ls' u → Stops is_ascii_alphabetic x → bytes ≡ ds' ++ (ls' ++ x) → (ds' ≡ ds) × (ls' ≡ ls) × (x ≡ tail)
  runs ds' ls' x u part stops e =
      let letters = unit_letters ls' u part.spells in
      let first = run_one is_ascii_digit ds' ds (ls' ++ x) (ls ++ tail) part.only_digits split.only_digits (no_digit_first ls' x letters.0 letters.1) split.no_digit (sym e ∙ split.is) in
      let second = run_one is_ascii_alphabetic ls' ls x tail letters.1 split.only_letters stops split.no_letter first.1 in
      (first.0, second.0, second.1)

  part_is : (ds' ls' : List ℕ) (u : TimeUnit) → ds' ≡ ds → ls' ≡ ls → IsPart ds' ls' u → IsPart ds ls u
  part_is ds' ls' u e f part = record { some = subst (λ l. 0 < length l) e part.some; only_digits = subst (AllByRecursion (λ b. is_ascii_digit b ≡ true)) e part.only_digits; spells = subst (λ l. folded l ≡ unit_spelling u) f part.spells }

  pub first_part : {least v : ℕ} → PartsGive least bytes v → FirstPart least v ds ls tail
  first_part (last ds' ls' u part le e v) =
      let r = runs ds' ls' [] u part tt (e ∙ ap (λ l. ds' ++ l) (sym (append-nil ls'))) in
      end u (part_is ds' ls' u r.0 r.1 part) le (sym r.2) (v ∙ ap (λ l. number_of l * milliseconds u) r.0)
  first_part (more {w = w} ds' ls' rest u part le (inl e) t v) =
      let r = runs ds' ls' rest u part (begins t).0 e in
      goes u rest w (part_is ds' ls' u r.0 r.1 part) le (inl (sym r.2)) t (v ∙ ap (λ l. number_of l * milliseconds u + w) r.0)
  first_part (more {w = w} ds' ls' rest u part le (inr e) t v) =
      let r = runs ds' ls' (95 ∷ rest) u part refl e in
      goes u rest w (part_is ds' ls' u r.0 r.1 part) le (inr (sym r.2)) t (v ∙ ap (λ l. number_of l * milliseconds u + w) r.0)

some_ms : (u : TimeUnit) → 1 ≤ milliseconds u
some_ms Day = omega arith
some_ms Hour = omega arith
some_ms Minute = omega arith
some_ms Second = omega arith
some_ms Millisecond = omega arith

grows_ms : (n : ℕ) (u : TimeUnit) → n ≤ n * milliseconds u
grows_ms n u = omega (arith, mul-le-mul_left n (some_ms u))

gap_ways : (tail rest : List ℕ) → ((y : List ℕ) → rest ≡ 95 ∷ y → ⊥) → (tail ≡ rest) ⊎ (tail ≡ 95 ∷ rest) → rest ≡ gap_rest tail
gap_ways tail rest no_line (inl e) = no_gap rest no_line ∙ ap gap_rest (sym e)
  where
    no_gap : (xs : List ℕ) → ((y : List ℕ) → xs ≡ 95 ∷ y → ⊥) → xs ≡ gap_rest xs
    no_gap [] h = refl
    no_gap (b ∷ bs) h = ⊎_elim (λ s. absurd (h bs (ap (λ c. c ∷ bs) s.1))) (λ d. sym (ap (λ t. cond t bs (b ∷ bs)) d.0)) (eqb_tells b 95)
gap_ways tail rest no_line (inr e) = sym (ap gap_rest e)

module _ {bytes ds ls tail : List ℕ} (split : IsSplit bytes ds ls tail) where
  pub not_empty : {least v : ℕ} → length ds ≡ 0 → PartsGive least bytes v → ⊥
  not_empty none t = elim (first_part split t) [ end u part le e v ↦ let s = part.some in omega arith | goes u rest w part le e k v ↦ let s = part.some in omega arith ]

  pub not_big : {least v : ℕ} → 4294967296 ≤ number_of ds → v < 4294967296 → PartsGive least bytes v → ⊥
  not_big big small t = elim (first_part split t) [ end u part le e v ↦ omega (arith, grows_ms (number_of ds) u) | goes u rest w part le e k v ↦ omega (arith, grows_ms (number_of ds) u) ]

  pub not_unit : {least v : ℕ} → ((u : TimeUnit) → folded ls ≡ unit_spelling u → ⊥) → PartsGive least bytes v → ⊥
  not_unit none t = elim (first_part split t) [ end u part le e v ↦ none u part.spells | goes u rest w part le e k v ↦ none u part.spells ]

  module _ (u : TimeUnit) (unit : folded ls ≡ unit_spelling u) where
    pub not_early : {least v : ℕ} → rank u < least → PartsGive least bytes v → ⊥
    not_early early t = elim (first_part split t) [ end q part le e v ↦ omega (arith, ap rank (same_unit ls q u part.spells unit)) | goes q rest w part le e k v ↦ omega (arith, ap rank (same_unit ls q u part.spells unit)) ]

    pub not_much : {least v : ℕ} → 4294967295 < number_of ds * milliseconds u → v < 4294967296 → PartsGive least bytes v → ⊥
    not_much much small t = elim (first_part split t) [ end q part le e v ↦ omega (arith, ap (λ z. number_of ds * milliseconds z) (same_unit ls q u part.spells unit)) | goes q rest w part le e k v ↦ omega (arith, ap (λ z. number_of ds * milliseconds z) (same_unit ls q u part.spells unit)) ]

    the_part : (length ds ≡ 0 → ⊥) → IsPart ds ls u
    the_part some = record { some = omega arith; only_digits = split.only_digits; spells = unit }

    pub at_end : {least : ℕ} → (length ds ≡ 0 → ⊥) → least ≤ rank u → tail ≡ [] → PartsGive least bytes (number_of ds * milliseconds u)
    at_end some le e = last ds ls u (the_part some) le (split.is ∙ ap (λ l. ds ++ (ls ++ l)) e ∙ ap (λ l. ds ++ l) (append-nil ls)) refl

    pub going : {least w : ℕ} → (length ds ≡ 0 → ⊥) → least ≤ rank u → PartsGive (suc (rank u)) (gap_rest tail) w → PartsGive least bytes (number_of ds * milliseconds u + w)
    going some le t = more ds ls (gap_rest tail) u (the_part some) le (ways tail split.is) t refl
      where
        ways : (tail : List ℕ) → bytes ≡ ds ++ (ls ++ tail) → (bytes ≡ ds ++ (ls ++ gap_rest tail)) ⊎ (bytes ≡ ds ++ (ls ++ 95 ∷ gap_rest tail))
        ways [] e = inl e
        ways (b ∷ bs) e = ⊎_elim
            (λ s. inr (e ∙ ap (λ c. ds ++ (ls ++ c ∷ bs)) s.1 ∙ ap (λ l. ds ++ (ls ++ 95 ∷ l)) (sym (ap (λ t. cond t bs (b ∷ bs)) s.0))))
            (λ d. inl (e ∙ ap (λ l. ds ++ (ls ++ l)) (sym (ap (λ t. cond t bs (b ∷ bs)) d.0))))
            (eqb_tells b 95)

    pub goes_on : {least v : ℕ} → (tail ≡ [] → ⊥) → PartsGive least bytes v → (w : ℕ) × PartsGive (suc (rank u)) (gap_rest tail) w × (v ≡ number_of ds * milliseconds u + w)
    goes_on {v = v} some t = elim (first_part split t) [
      | end q part le e k ↦ absurd (some e)
      | goes q rest w part le e k s ↦
          let same = same_unit ls q u part.spells unit in
          (w, subst (λ l. PartsGive (suc (rank u)) l w) (gap_ways tail rest (begins k).1 e) (subst (λ z. PartsGive (suc (rank z)) rest w) same k), s ∙ ap (λ z. number_of ds * milliseconds z + w) same)
    ]

all_take : (p : ℕ → Bool) (xs : List ℕ) (n : ℕ) → n ≤ length xs → ((k : ℕ) → k < n → p (slice_index xs k) ≡ true) → AllByRecursion (λ b. p b ≡ true) (take n xs)
all_take p xs zero le h = tt
all_take p [] (suc n) le h = absurd (omega arith)
all_take p (x ∷ xs) (suc n) le h = (h 0 (omega arith), all_take p xs n (omega arith) (λ k lt. h (suc k) (omega arith)))

stops_drop : (p : ℕ → Bool) (xs : List ℕ) (n : ℕ) → (n < length xs → p (slice_index xs n) ≡ false) → Stops p (drop n xs)
stops_drop p [] zero h = tt
stops_drop p [] (suc n) h = tt
stops_drop p (x ∷ xs) zero h = h (omega arith)
stops_drop p (x ∷ xs) (suc n) h = stops_drop p xs n (λ lt. h (omega arith))

pub split_of : (bytes ds after ls tail : List ℕ) (n m : ℕ) → n ≤ length bytes → m ≤ length after → ds ≡ take n bytes → after ≡ drop n bytes → ls ≡ take m after → tail ≡ drop m after
    → ((k : ℕ) → k < n → is_ascii_digit (slice_index bytes k) ≡ true) → (n < length bytes → is_ascii_digit (slice_index bytes n) ≡ false)
    → ((k : ℕ) → k < m → is_ascii_alphabetic (slice_index after k) ≡ true) → (m < length after → is_ascii_alphabetic (slice_index after m) ≡ false)
    → bytes ≡ ds ++ after → after ≡ ls ++ tail → IsSplit bytes ds ls tail
split_of bytes ds after ls tail n m wn wm e f g h digits no_digit letters no_letter b a = record {
  is = b ∙ ap (λ l. ds ++ l) a;
  only_digits = subst (AllByRecursion (λ c. is_ascii_digit c ≡ true)) (sym e) (all_take is_ascii_digit bytes n wn digits);
  no_digit = subst (Stops is_ascii_digit) (sym f ∙ a) (stops_drop is_ascii_digit bytes n no_digit);
  only_letters = subst (AllByRecursion (λ c. is_ascii_alphabetic c ≡ true)) (sym g) (all_take is_ascii_alphabetic after m wm letters);
  no_letter = subst (Stops is_ascii_alphabetic) (sym h) (stops_drop is_ascii_alphabetic after m no_letter);
}

pub none_left : (xs : List ℕ) → length xs ≡ 0 → xs ≡ []
none_left [] e = refl
none_left (x ∷ xs) e = cc

pub parts_at : (least least' v v' : ℕ) (bytes bytes' : List ℕ) → least ≡ least' → bytes ≡ bytes' → v ≡ v' → PartsGive least bytes v → PartsGive least' bytes' v'
parts_at least least' v v' bytes bytes' a b c t = subst (λ m. PartsGive m bytes' v') a (subst (λ l. PartsGive least l v') b (subst (λ w. PartsGive least bytes w) c t))

no_empty : {least v : ℕ} {bytes : List ℕ} → bytes ≡ [] → PartsGive least bytes v → ⊥
no_empty none (last ds ls u part le e v) = let s = part.some in omega (arith, length-append ds ls, ap length (sym e ∙ none))
no_empty none (more ds ls rest u part le (inl e) t v) = let s = part.some in omega (arith, length-append ds (ls ++ rest), ap length (sym e ∙ none))
no_empty none (more ds ls rest u part le (inr e) t v) = let s = part.some in omega (arith, length-append ds (ls ++ 95 ∷ rest), ap length (sym e ∙ none))

split_by : (bytes ds ls tail : List ℕ) (u : TimeUnit) → IsPart ds ls u → Stops is_ascii_alphabetic tail → bytes ≡ ds ++ (ls ++ tail) → IsSplit bytes ds ls tail
split_by bytes ds ls tail u part stops e =
    let letters = unit_letters ls u part.spells in
    record { is = e; only_digits = part.only_digits; no_digit = no_digit_first ls tail letters.0 letters.1; only_letters = letters.1; no_letter = stops }

-- a literal has one value
pub one_value : {least other v w : ℕ} {bytes : List ℕ} → PartsGive least bytes v → PartsGive other bytes w → v ≡ w
one_value {bytes = bytes} (last ds ls u part le e v) k =
    elim (first_part (split_by bytes ds ls [] u part tt (e ∙ ap (λ l. ds ++ l) (sym (append-nil ls)))) k) [
      | end q part' le' e' v' ↦ v ∙ ap (λ z. number_of ds * milliseconds z) (same_unit ls u q part.spells part'.spells) ∙ sym v'
      | goes q rest w part' le' (inl e') t v' ↦ absurd (no_empty (sym e') t)
      | goes q rest w part' le' (inr e') t v' ↦ absurd (let bad : [] ≡ 95 ∷ rest = e' in cc)
    ]
one_value {bytes = bytes} (more {w = x} ds ls rest u part le (inl e) t v) k =
    elim (first_part (split_by bytes ds ls rest u part (begins t).0 e) k) [
      | end q part' le' e' v' ↦ absurd (no_empty e' t)
      | goes q rest' w part' le' (inl e') t' v' ↦ v ∙ (λ i. number_of ds * milliseconds (same_unit ls u q part.spells part'.spells i) + one_value t (subst (λ l. PartsGive (suc (rank q)) l w) (sym e') t') i) ∙ sym v'
      | goes q rest' w part' le' (inr e') t' v' ↦ absurd ((begins t).1 rest' e')
    ]
one_value {bytes = bytes} (more {w = x} ds ls rest u part le (inr e) t v) k =
    elim (first_part (split_by bytes ds ls (95 ∷ rest) u part refl e) k) [
      | end q part' le' e' v' ↦ absurd (let bad : 95 ∷ rest ≡ [] = e' in cc)
      | goes q rest' w part' le' (inl e') t' v' ↦ absurd ((begins t').1 rest (sym e'))
      | goes q rest' w part' le' (inr e') t' v' ↦ v ∙ (λ i. number_of ds * milliseconds (same_unit ls u q part.spells part'.spells i) + one_value t (subst (λ l. PartsGive (suc (rank q)) l w) (sym (tail_of rest rest' e')) t') i) ∙ sym v'
    ]
  where
    tail_of : (xs ys : List ℕ) → 95 ∷ xs ≡ 95 ∷ ys → xs ≡ ys
    tail_of xs ys e = cc

-- what a checked sum answers
pub sum_some : (o : Option ℕ) (x : ℕ) (P : ℕ → Type 0) → SomeIff o (x < 4294967296) x → P x → IfSome o P
sum_some None x P s p = tt
sum_some (Some y) x P s p = subst P (sym s.1) p

pub sum_none : (o : Option ℕ) (x : ℕ) (Q : Type 0) → SomeIff o (x < 4294967296) x → ((x < 4294967296 → ⊥) → Q) → IfNone o Q
sum_none None x Q s q = q s
sum_none (Some y) x Q s q = tt
