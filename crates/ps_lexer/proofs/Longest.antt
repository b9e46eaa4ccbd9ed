-- How far a token goes.
use Rattle.std.proofs.Common.{◌≡◌, ℕ, zero, suc, ◌+◌, ◌<◌, ◌≤◌, ◌⊎◌, inl, inr, true, false, ◌||◌, List, [], ◌∷◌, ◌++◌, length, take, None, IsSome, is_some, slice_index, refl, sym, ap, ◌∙◌, subst, ⊎_elim, arith, codes, length-append}
use Rattle.std.proofs.lemmas.Bool.Decides.{nat_tests}
use Rattle.std.proofs.lemmas.List.{get_or-map, length-map}
use Rattle.std.proofs.Math.ListN.{get_or-append}
use Rattle.std.specs.Char.{is_ascii_alphabetic, to_ascii_lowercase}
use Rattle.std.specs.List.{slice_range}
use Rattle.ps_lexer.specs.declared.token.Form.{Form}
use Rattle.ps_lexer.specs.declared.token.Form.TheVariants as form
use Rattle.ps_lexer.specs.declared.token.Word.TheVariants as word
use Rattle.ps_lexer.specs.Spelling.{folded, begins_name, continues_name, IsIdentifier}
use Rattle.ps_lexer.specs.TimeLiterals.{IsTimeHead, IsTimeText}
use Rattle.ps_lexer.specs.Shapes.{SpellsSign, OpensComment, IsShape, identifier, time, sign, opening}
use Rattle.ps_lexer.specs.Scanning.{one_byte, two_bytes, opens_block, opens_line}
use Rattle.ps_lexer.proofs.Slices.{slice_first, one_long, two_long}

-- the lower case of a letter is a letter, and that of no other byte
pub letter_of : (b c : ℕ) → is_ascii_alphabetic c ≡ true → to_ascii_lowercase b ≡ c → begins_name b ≡ true
letter_of b c h e = grind (arith, nat_tests)

hash_of : (b : ℕ) → to_ascii_lowercase b ≡ 35 → b ≡ 35
hash_of b e = grind (arith, nat_tests)

pub slice_index-folded : (bytes : List ℕ) (k : ℕ) → k < length bytes → slice_index (folded bytes) k ≡ to_ascii_lowercase (slice_index bytes k)
slice_index-folded bytes k h = get_or-map to_ascii_lowercase bytes k 0 0 h

-- bytes that fold to a text that begins with a letter begin with a letter
pub first_letter : (bytes rest : List ℕ) (c : ℕ) → folded bytes ≡ c ∷ rest → is_ascii_alphabetic c ≡ true → begins_name (slice_index bytes 0) ≡ true
first_letter [] rest c e h = cc
first_letter (b ∷ bytes) rest c e h = letter_of b c h cc

-- a head of a TIME literal has two bytes or five, and its last is `#`
pub head_len : (head : List ℕ) → IsTimeHead head → (length head ≡ 2) ⊎ (length head ≡ 5)
head_len head (inl e) = inl (sym (length-map head to_ascii_lowercase) ∙ ap length e)
head_len head (inr e) = inr (sym (length-map head to_ascii_lowercase) ∙ ap length e)

take_len : (n m : ℕ) (xs : List ℕ) → length (take n xs) ≡ m → take n xs ≡ take m xs
take_len zero zero xs e = refl
take_len zero (suc m) xs e = cc
take_len (suc n) zero [] e = refl
take_len (suc n) (suc m) [] e = cc
take_len (suc n) zero (x ∷ xs) e = cc
take_len (suc n) (suc m) (x ∷ xs) e = ap (λ l. x ∷ l) (take_len n m xs (omega arith))

-- bytes that begin with neither head
pub no_head : (bytes : List ℕ) → (folded (take 2 bytes) ≡ codes "t#" → false ≡ true) → (folded (take 5 bytes) ≡ codes "time#" → false ≡ true) → (n : ℕ) → IsTimeHead (take n bytes) → ⊥
no_head bytes short long n (inl e) = let m = sym (length-map (take n bytes) to_ascii_lowercase) ∙ ap length e in let h = short (ap folded (sym (take_len n 2 bytes m)) ∙ e) in cc
no_head bytes short long n (inr e) = let m = sym (length-map (take n bytes) to_ascii_lowercase) ∙ ap length e in let h = long (ap folded (sym (take_len n 5 bytes m)) ∙ e) in cc

pub head_begins : (head : List ℕ) → IsTimeHead head → begins_name (slice_index head 0) ≡ true
head_begins head (inl e) = first_letter head _ 116 e refl
head_begins head (inr e) = first_letter head _ 116 e refl

pub head_hash : (head : List ℕ) → IsTimeHead head → (p : ℕ) × (p < length head) × (slice_index head p ≡ 35)
head_hash head (inl e) =
    let n : length head ≡ 2 = sym (length-map head to_ascii_lowercase) ∙ ap length e in
    (1, omega arith, hash_of _ (sym (slice_index-folded head 1 (omega arith)) ∙ ap (λ l. slice_index l 1) e))
head_hash head (inr e) =
    let n : length head ≡ 5 = sym (length-map head to_ascii_lowercase) ∙ ap length e in
    (4, omega arith, hash_of _ (sym (slice_index-folded head 4 (omega arith)) ∙ ap (λ l. slice_index l 4) e))

pub same_fronts : (xs ys rs qs : List ℕ) → length xs ≡ length ys → xs ++ rs ≡ ys ++ qs → (xs ≡ ys) × (rs ≡ qs)
same_fronts [] [] rs qs n e = (refl, e)
same_fronts [] (y ∷ ys) rs qs n e = cc
same_fronts (x ∷ xs) [] rs qs n e = cc
same_fronts (x ∷ xs) (y ∷ ys) rs qs n e =
    let h : x ≡ y = cc in let others = same_fronts xs ys rs qs (omega arith) cc in
    ((λ i. h i ∷ others.0 i), others.1)

-- the second byte tells the two heads apart
second : (head run : List ℕ) (c : ℕ) → 1 < length head → slice_index (folded head) 1 ≡ c → to_ascii_lowercase (slice_index (head ++ run) 1) ≡ c
second head run c room e = ap to_ascii_lowercase (get_or-append head run 0 1 room) ∙ sym (slice_index-folded head 1 room) ∙ e

pub one_head : (head other run rest : List ℕ) → IsTimeHead head → IsTimeHead other → head ++ run ≡ other ++ rest → (head ≡ other) × (run ≡ rest)
one_head head other run rest h o e = by_len (head_len head h) (head_len other o)
  where
    clash : (xs ys rs qs : List ℕ) → folded xs ≡ codes "t#" → folded ys ≡ codes "time#" → xs ++ rs ≡ ys ++ qs → ⊥
    clash xs ys rs qs p q same =
        let n : length xs ≡ 2 = sym (length-map xs to_ascii_lowercase) ∙ ap length p in
        let m : length ys ≡ 5 = sym (length-map ys to_ascii_lowercase) ∙ ap length q in
        let a = second xs rs 35 (omega arith) (ap (λ l. slice_index l 1) p) in
        let b = second ys qs 105 (omega arith) (ap (λ l. slice_index l 1) q) in
        let s = ap (λ l. to_ascii_lowercase (slice_index l 1)) same in
        cc

    mixed : IsTimeHead head → IsTimeHead other → (length head ≡ length other → ⊥) → ⊥
    mixed (inl p) (inl q) apart = apart (sym (length-map head to_ascii_lowercase) ∙ ap length (p ∙ sym q) ∙ length-map other to_ascii_lowercase)
    mixed (inl p) (inr q) apart = clash head other run rest p q e
    mixed (inr p) (inl q) apart = clash other head rest run q p (sym e)
    mixed (inr p) (inr q) apart = apart (sym (length-map head to_ascii_lowercase) ∙ ap length (p ∙ sym q) ∙ length-map other to_ascii_lowercase)

    by_len : (length head ≡ 2) ⊎ (length head ≡ 5) → (length other ≡ 2) ⊎ (length other ≡ 5) → (head ≡ other) × (run ≡ rest)
    by_len (inl a) (inl b) = same_fronts head other run rest (a ∙ sym b) e
    by_len (inl a) (inr b) = absurd (mixed h o (λ s. let x : 2 ≡ 5 = sym a ∙ s ∙ b in omega arith))
    by_len (inr a) (inl b) = absurd (mixed h o (λ s. let x : 5 ≡ 2 = sym a ∙ s ∙ b in omega arith))
    by_len (inr a) (inr b) = same_fronts head other run rest (a ∙ sym b) e

-- a `#` is among the bytes
abbrev pub HasHash : List ℕ → Type 0
HasHash bytes = (p : ℕ) × (p < length bytes) × (slice_index bytes p ≡ 35)

-- what a TIME literal's head stands before begins with a letter, and has a `#`
pub front_begins : (bytes head run : List ℕ) → bytes ≡ head ++ run → IsTimeHead head → begins_name (slice_index bytes 0) ≡ true
front_begins bytes head run whole begins =
    let room : 0 < length head = ⊎_elim (λ a. omega arith) (λ b. omega arith) (head_len head begins) in
    ap (λ l. begins_name (slice_index l 0)) whole ∙ ap begins_name (get_or-append head run 0 0 room) ∙ head_begins head begins

pub front_hash : (bytes head run : List ℕ) → bytes ≡ head ++ run → IsTimeHead head → HasHash bytes
front_hash bytes head run whole begins =
    let h = head_hash head begins in
    let room = h.1 in
    (h.0, omega (arith, ap length whole, length-append head run), ap (λ l. slice_index l h.0) whole ∙ get_or-append head run 0 h.0 h.1 ∙ h.2)

pub time_begins : (bytes : List ℕ) → IsTimeText bytes → begins_name (slice_index bytes 0) ≡ true
time_begins bytes t = front_begins bytes t.head t.run t.whole t.begins

pub time_hash : (bytes : List ℕ) → IsTimeText bytes → HasHash bytes
time_hash bytes t = front_hash bytes t.head t.run t.whole t.begins

-- an identifier has none
pub identifier_no_hash : (bytes : List ℕ) → IsIdentifier bytes → HasHash bytes → ⊥
identifier_no_hash bytes id h = let c = id.continues h.0 h.1 in let d = ap continues_name h.2 in cc

-- what a shape is, where no name begins
pub data IsBrief (text : List ℕ) (i j : ℕ) : Type 0 where
  one : j ≡ i + 1 → IsSome (one_byte (slice_index text i)) → IsBrief text i j
  two : j ≡ i + 2 → IsSome (two_bytes (slice_index text i) (slice_index text (i + 1))) → IsBrief text i j
  opener : j ≡ i + 2 → opens_block (slice_index text i) (slice_index text (i + 1)) || opens_line (slice_index text i) (slice_index text (i + 1)) ≡ true → IsBrief text i j

module _ (text : List ℕ) (i j : ℕ) (ahead : i < j) (within : j ≤ length text) where
  brief_one : (b : ℕ) → IsSome (one_byte b) → slice_range text i j ≡ b ∷ [] → IsBrief text i j
  brief_one b h e = let s = one_long text i j b ahead within e in one s.0 (subst (λ x. IsSome (one_byte x)) (sym s.1) h)

  brief_opener : (b c : ℕ) → opens_block b c || opens_line b c ≡ true → slice_range text i j ≡ b ∷ c ∷ [] → IsBrief text i j
  brief_opener b c h e = let s = two_long text i j b c ahead within e in opener s.0 ((λ t. opens_block (s.1 t) (s.2 t) || opens_line (s.1 t) (s.2 t)) ∙ h)

  pub brief_sign : (f : Form) → SpellsSign f (slice_range text i j) → IsBrief text i j
  brief_sign form.Assign e = let s = two_long text i j 58 61 ahead within e in two s.0 (ap is_some (λ t. two_bytes (s.1 t) (s.2 t)))
  brief_sign form.Colon e = brief_one 58 refl e
  brief_sign form.Semicolon e = brief_one 59 refl e
  brief_sign form.Comma e = brief_one 44 refl e
  brief_sign form.LeftBracket e = brief_one 40 refl e
  brief_sign form.RightBracket e = brief_one 41 refl e
  brief_sign form.Dot e = brief_one 46 refl e
  brief_sign (form.Word word.And) e = brief_one 38 refl e
  brief_sign f e = absurd e

  pub brief_opening : OpensComment (slice_range text i j) → IsBrief text i j
  brief_opening (inl e) = brief_opener 40 42 refl e
  brief_opening (inr e) = brief_opener 47 47 refl e

  -- where no name begins, a shape is one byte or two
  pub shape_cases : begins_name (slice_index text i) ≡ false → IsShape (slice_range text i j) → IsBrief text i j
  shape_cases no_name (identifier id) = absurd (let e = ap begins_name (slice_first text i j ahead) in let b = id.begins in cc)
  shape_cases no_name (time t) = absurd (let e = ap begins_name (slice_first text i j ahead) in let b = time_begins (slice_range text i j) t in cc)
  shape_cases no_name (sign f s) = brief_sign f s
  shape_cases no_name (opening o) = brief_opening o

-- no sign and no comment begins with a letter
pub letter_no_sign : (b : ℕ) → begins_name b ≡ true → one_byte b ≡ None
letter_no_sign b h = grind (arith, nat_tests)

pub letter_no_pair : (b c : ℕ) → begins_name b ≡ true → (two_bytes b c ≡ None) × (opens_block b c || opens_line b c ≡ false)
letter_no_pair b c h = grind (arith, nat_tests)

pub name_no_brief : (text : List ℕ) (i k : ℕ) → begins_name (slice_index text i) ≡ true → IsBrief text i k → ⊥
name_no_brief text i k begins brief =
    let none = letter_no_sign (slice_index text i) begins in
    let pair = letter_no_pair (slice_index text i) (slice_index text (i + 1)) begins in
    elim brief [ one e f ↦ cc | two e f ↦ cc | opener e f ↦ cc ]
