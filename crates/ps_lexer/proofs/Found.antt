-- What the scanner finds at a place.
use Rattle.std.proofs.Common.{◌≡◌, ◌==◌, ℕ, ◌+◌, ◌-◌, ◌<◌, ◌≤◌, ◌⊎◌, inl, inr, Bool, true, false, ◌||◌, ◌&&◌, List, [], ◌∷◌, ◌++◌, length, take, drop, Option, Some, None, unwrap_or, cond, slice_index, refl, sym, ap, ◌∙◌, subst, ⊎_elim, arith, length-append, length-take, length-take-le}
use Rattle.std.proofs.lemmas.Bool.{cases_lt}
use Rattle.std.proofs.lemmas.Bool.Decides.{nat_tests}
use Rattle.std.proofs.lemmas.List.{get_or_past}
use Rattle.std.proofs.Math.Seq.{take-add}
use Rattle.std.specs.Char.{is_ascii_digit}
use Rattle.std.specs.List.{slice_range}
use Rattle.ps_base.specs.declared.limits.TheConstants.{LONGEST_NAME}
use Rattle.ps_base.specs.declared.failing.Rule.TheVariants.{L1, L3, L4}
use Rattle.ps_lexer.specs.declared.token.Form.{Form}
use Rattle.ps_lexer.specs.declared.token.Form.TheVariants as form
use Rattle.ps_lexer.specs.declared.token.Word.{Word}
use Rattle.ps_lexer.specs.declared.token.Word.TheVariants as word
use Rattle.ps_lexer.specs.Spelling.{folded, spelling, begins_name, continues_name, IsIdentifier}
use Rattle.ps_lexer.specs.TimeLiterals.{IsTimeHead, IsTimeText, IsTimeValue, continues_time}
use Rattle.ps_lexer.specs.Gaps.{is_blank}
use Rattle.ps_lexer.specs.Shapes.{SpellsSign, Spells, IsShape, identifier, time, sign, opening, IsLongest}
use Rattle.ps_lexer.specs.Reading.{Breaks}
use Rattle.ps_lexer.specs.Scanning.{one_byte, two_bytes, with_len, sign_at, opens_block, opens_line}
use Rattle.ps_lexer.proofs.Slices.{slice_index-slice_range, length-slice_range, slice_first, slice_one, slice_two, slice_join}
use Rattle.ps_lexer.proofs.Longest.{head_hash, same_fronts, one_head, time_begins, brief_sign, brief_opening, shape_cases, one, two, opener, name_no_brief}

-- letters, digits and underscores from a place on, of which the first is no digit
module _ (text : List ℕ) (i j : ℕ) (ahead : i < j) (within : j ≤ length text) (begins : begins_name (slice_index text i) ≡ true) (continues : (k : ℕ) → i + 1 ≤ k → k < j → continues_name (slice_index text k) ≡ true) (stops : continues_name (slice_index text j) ≡ false) (no_time : (n : ℕ) → IsTimeHead (take n (drop i text)) → ⊥) where
  start_part : (b : ℕ) → begins_name b ≡ true → continues_name b ≡ true
  start_part b e = ap (λ t. t || is_ascii_digit b) e

  pub identifier_at : IsIdentifier (slice_range text i j)
  identifier_at =
      let len = length-slice_range text i j (omega arith) within in
      record {
        some = omega arith;
        begins = ap begins_name (slice_first text i j ahead) ∙ begins;
        continues = λ k below. ⊎_elim
            (λ first. let e : k ≡ 0 = omega arith in ap (λ m. continues_name (slice_index (slice_range text i j) m)) e ∙ ap continues_name (slice_first text i j ahead) ∙ start_part (slice_index text i) begins)
            (λ later. ap continues_name (slice_index-slice_range text i j k (omega arith)) ∙ continues (i + k) (omega arith) (omega arith))
            (cases_lt k 1);
      }

  longer : (k : ℕ) → j < k → k ≤ length text → IsShape (slice_range text i k) → ⊥
  longer k more inside (identifier id) =
      let len = length-slice_range text i k (omega arith) inside in
      let e : slice_index (slice_range text i k) (j - i) ≡ slice_index text j = slice_index-slice_range text i k (j - i) (omega arith) ∙ ap (slice_index text) (omega arith) in
      let p = id.continues (j - i) (omega arith) in let q = ap continues_name e in cc
  longer k more inside (time t) =
      let len = length-slice_range text i k (omega arith) inside in
      let room : length t.head ≤ k - i = omega (arith, ap length t.whole, length-append t.head t.run) in
      let front : take (length t.head) (drop i text) ≡ t.head = front_of (drop i text) (k - i) t.head t.run room t.whole in
      no_time (length t.head) (subst IsTimeHead (sym front) t.begins)
    where
      front_of : (xs : List ℕ) (m : ℕ) (head run : List ℕ) → length head ≤ m → take m xs ≡ head ++ run → take (length head) xs ≡ head
      front_of xs m head run h e =
          let n : m ≡ length head + (m - length head) = omega arith in
          let s : take m xs ≡ take (length head) xs ++ take (m - length head) (drop (length head) xs) = ap (λ x. take x xs) n ∙ take-add (length head) (m - length head) xs in
          let room : length head ≤ length xs = omega (arith, ap length e, length-append head run, length-take m xs) in
          (same_fronts (take (length head) xs) head (take (m - length head) (drop (length head) xs)) run (length-take-le (length head) xs room) (sym s ∙ e)).0
  longer k more inside (sign f s) = name_no_brief text i k begins (brief_sign text i k (omega arith) inside f s)
  longer k more inside (opening o) = name_no_brief text i k begins (brief_opening text i k (omega arith) inside o)

  pub longest_identifier : IsLongest text i j
  longest_identifier = record { ahead = ahead; within = within; shape = identifier identifier_at; none_longer = longer }

  pub too_long : i + LONGEST_NAME < j → Breaks L4 text i
  too_long long = (j, longest_identifier, identifier_at, long)

  pub a_keyword : (k : Word) → folded (slice_range text i j) ≡ spelling k → IsLongest text i j × Spells (form.Word k) (slice_range text i j)
  a_keyword k spells = (longest_identifier, inr spells)

  pub a_name : (name : List ℕ) → name ≡ slice_range text i j → j ≤ i + LONGEST_NAME → ((k : Word) → folded (slice_range text i j) ≡ spelling k → ⊥) → IsLongest text i j × Spells (form.Name name) (slice_range text i j)
  a_name name same short no_keyword =
      (longest_identifier, inr (same, record { identifier = identifier_at; short = omega (arith, length-slice_range text i j (omega arith) within); no_keyword = no_keyword }))

-- `T#` or `TIME#` at a place, and all that belongs to it
module _ (text : List ℕ) (i n j : ℕ) (head : IsTimeHead (take n (drop i text))) (from : i + n ≤ j) (within : j ≤ length text) (continues : (k : ℕ) → i + n ≤ k → k < j → continues_time (slice_index text k) ≡ true) (stops : continues_time (slice_index text j) ≡ false) where
  head_at : IsTimeHead (slice_range text i (i + n))
  head_at = let m : n ≡ i + n - i = omega arith in subst (λ x. IsTimeHead (take x (drop i text))) m head

  time_text : IsTimeText (slice_range text i j)
  time_text = record {
    head = slice_range text i (i + n);
    run = slice_range text (i + n) j;
    whole = slice_join text i (i + n) j (omega arith) from;
    begins = head_at;
    continues = λ k below. let len = length-slice_range text (i + n) j from within in ap continues_time (slice_index-slice_range text (i + n) j k (omega arith)) ∙ continues (i + n + k) (omega arith) (omega arith);
  }

  some : i < j
  some = let h = head_hash (slice_range text i (i + n)) head_at in let room = h.1 in let len = length-slice_range text i (i + n) (omega arith) (omega arith) in omega arith

  begins : begins_name (slice_index text i) ≡ true
  begins = ap begins_name (sym (slice_first text i j some)) ∙ time_begins (slice_range text i j) time_text

  longer_time : (k : ℕ) → j < k → k ≤ length text → IsShape (slice_range text i k) → ⊥
  longer_time k more inside (identifier id) =
      let h = head_hash (slice_range text i (i + n)) head_at in
      let room = h.1 in
      let short = length-slice_range text i (i + n) (omega arith) (omega arith) in
      let len = length-slice_range text i k (omega arith) inside in
      let a = slice_index-slice_range text i (i + n) h.0 (omega arith) in
      let b = slice_index-slice_range text i k h.0 (omega arith) in
      let c = id.continues h.0 (omega arith) in
      let d = ap continues_name (b ∙ sym a ∙ h.2) in
      cc
  longer_time k more inside (time t) =
      let same = one_head t.head (slice_range text i (i + n)) t.run (slice_range text (i + n) k) t.begins head_at (sym t.whole ∙ slice_join text i (i + n) k (omega arith) (omega arith)) in
      let len = length-slice_range text (i + n) k (omega arith) inside in
      let e : slice_index (slice_range text (i + n) k) (j - (i + n)) ≡ slice_index text j = slice_index-slice_range text (i + n) k (j - (i + n)) (omega arith) ∙ ap (slice_index text) (omega arith) in
      let p = t.continues (j - (i + n)) (omega (arith, ap length same.1)) in
      let q = ap continues_time (ap (λ l. slice_index l (j - (i + n))) same.1 ∙ e) in
      cc
  longer_time k more inside (sign f s) = name_no_brief text i k begins (brief_sign text i k (omega arith) inside f s)
  longer_time k more inside (opening o) = name_no_brief text i k begins (brief_opening text i k (omega arith) inside o)

  longest_time : IsLongest text i j
  longest_time = record { ahead = some; within = within; shape = time time_text; none_longer = longer_time }

  pub a_time : (v : ℕ) → IsTimeValue (slice_range text (i + n) j) v → IsLongest text i j × Spells (form.Time v) (slice_range text i j)
  a_time v value =
      (longest_time, inr (record { head = slice_range text i (i + n); parts = slice_range text (i + n) j; whole = slice_join text i (i + n) j (omega arith) from; begins = head_at; value = value }))

  pub no_time_value : ((v : ℕ) → IsTimeValue (slice_range text (i + n) j) v → ⊥) → Breaks L3 text i
  no_time_value none = (
    j,
    longest_time,
    time_text,
    λ v t.
        let same = one_head t.head (slice_range text i (i + n)) t.parts (slice_range text (i + n) j) t.begins head_at (sym t.whole ∙ slice_join text i (i + n) j (omega arith) from) in
        none v (subst (λ l. IsTimeValue l v) same.1 t.value),
  )

-- the spelling of the signs by their bytes
sign_of_one : (b : ℕ) (f : Form) → one_byte b ≡ Some f → SpellsSign f (b ∷ [])
sign_of_one b form.Assign e = absurd (grind (arith, nat_tests))
sign_of_one b form.Colon e = let h : b ≡ 58 = grind (arith, nat_tests) in ap (λ x. x ∷ []) h
sign_of_one b form.Semicolon e = let h : b ≡ 59 = grind (arith, nat_tests) in ap (λ x. x ∷ []) h
sign_of_one b form.Comma e = let h : b ≡ 44 = grind (arith, nat_tests) in ap (λ x. x ∷ []) h
sign_of_one b form.LeftBracket e = let h : b ≡ 40 = grind (arith, nat_tests) in ap (λ x. x ∷ []) h
sign_of_one b form.RightBracket e = let h : b ≡ 41 = grind (arith, nat_tests) in ap (λ x. x ∷ []) h
sign_of_one b form.Dot e = let h : b ≡ 46 = grind (arith, nat_tests) in ap (λ x. x ∷ []) h
sign_of_one b (form.Word word.And) e = let h : b ≡ 38 = grind (arith, nat_tests) in ap (λ x. x ∷ []) h
sign_of_one b f e = absurd (grind (arith, nat_tests))

two_is : (b c : ℕ) (f : Form) → two_bytes b c ≡ Some f → (b ≡ 58) × (c ≡ 61) × (f ≡ form.Assign)
two_is b c f e = (grind (arith, nat_tests), grind (arith, nat_tests), grind (arith, nat_tests))

sign_of_two : (b c : ℕ) (f : Form) → two_bytes b c ≡ Some f → SpellsSign f (b ∷ c ∷ [])
sign_of_two b c f e =
    let is = two_is b c f e in
    subst (λ g. SpellsSign g (b ∷ c ∷ [])) (sym is.2) (λ t. is.0 t ∷ is.1 t ∷ [])

module _ (text : List ℕ) (i : ℕ) (no_name : begins_name (slice_index text i) ≡ false) where
  longest_two : (f : Form) → i + 1 < length text → two_bytes (slice_index text i) (slice_index text (i + 1)) ≡ Some f → IsLongest text i (i + 2) × SpellsSign f (slice_range text i (i + 2))
  longest_two f room found =
      let spelt : SpellsSign f (slice_range text i (i + 2)) = subst (SpellsSign f) (sym (slice_two text i (i + 2) refl (omega arith))) (sign_of_two _ _ f found) in (
        record {
          ahead = omega arith;
          within = omega arith;
          shape = sign f spelt;
          none_longer = λ k more inside s. elim (shape_cases text i k (omega arith) inside no_name s) [ one e h ↦ absurd (omega arith) | two e h ↦ absurd (omega arith) | opener e h ↦ absurd (omega arith) ];
        },
        spelt,
      )

  longest_one : (f : Form) → i < length text → one_byte (slice_index text i) ≡ Some f → two_bytes (slice_index text i) (slice_index text (i + 1)) ≡ None → opens_block (slice_index text i) (slice_index text (i + 1)) || opens_line (slice_index text i) (slice_index text (i + 1)) ≡ false → IsLongest text i (i + 1) × SpellsSign f (slice_range text i (i + 1))
  longest_one f room found no_two no_comment =
      let spelt : SpellsSign f (slice_range text i (i + 1)) = subst (SpellsSign f) (sym (slice_one text i (i + 1) refl (omega arith))) (sign_of_one _ f found) in (
        record {
          ahead = omega arith;
          within = omega arith;
          shape = sign f spelt;
          none_longer = λ k more inside s. elim (shape_cases text i k (omega arith) inside no_name s) [ one e h ↦ absurd (omega arith) | two e h ↦ cc | opener e h ↦ cc ];
        },
        spelt,
      )

  no_shape : one_byte (slice_index text i) ≡ None → two_bytes (slice_index text i) (slice_index text (i + 1)) ≡ None → opens_block (slice_index text i) (slice_index text (i + 1)) || opens_line (slice_index text i) (slice_index text (i + 1)) ≡ false → (j : ℕ) → i < j → j ≤ length text → IsShape (slice_range text i j) → ⊥
  no_shape no_one no_two no_comment j h w s = elim (shape_cases text i j h w no_name s) [ one e k ↦ cc | two e k ↦ cc | opener e k ↦ cc ]

-- how a sign is found
pub sign_ways : (b c n : ℕ) (f : Form) → sign_at b c ≡ Some (f, n) → ((n ≡ 2) × (two_bytes b c ≡ Some f)) ⊎ ((n ≡ 1) × (one_byte b ≡ Some f) × (two_bytes b c ≡ None))
sign_ways b c n f e = ways (b == 58 && c == 61) refl e
  where
    single : (o : Option Form) → with_len 1 o ≡ Some (f, n) → (n ≡ 1) × (o ≡ Some f)
    single None e = cc
    single (Some g) e = let p = ap (λ o. unwrap_or o (f, n)) e in (sym (ap (λ q. q.1) p), ap (λ q. Some q.0) p)

    ways : (t : Bool) → b == 58 && c == 61 ≡ t → cond t (Some (form.Assign, 2)) (with_len 1 (one_byte b)) ≡ Some (f, n) → ((n ≡ 2) × (two_bytes b c ≡ Some f)) ⊎ ((n ≡ 1) × (one_byte b ≡ Some f) × (two_bytes b c ≡ None))
    ways true h e = let p = ap (λ o. unwrap_or o (f, n)) e in inl (sym (ap (λ q. q.1) p), ap (λ t. cond t (Some form.Assign) None) h ∙ ap (λ q. Some q.0) p)
    ways false h e = let s = single (one_byte b) e in inr (s.0, s.1, ap (λ t. cond t (Some form.Assign) None) h)

pub no_sign : (b c : ℕ) → sign_at b c ≡ None → (one_byte b ≡ None) × (two_bytes b c ≡ None)
no_sign b c e = ways (b == 58 && c == 61) refl e
  where
    single : (o : Option Form) → with_len 1 o ≡ None → o ≡ None
    single None e = refl
    single (Some g) e = cc

    ways : (t : Bool) → b == 58 && c == 61 ≡ t → cond t (Some (form.Assign, 2)) (with_len 1 (one_byte b)) ≡ None → (one_byte b ≡ None) × (two_bytes b c ≡ None)
    ways true h e = cc
    ways false h e = (single (one_byte b) e, ap (λ t. cond t (Some form.Assign) None) h)

second_byte : (text : List ℕ) (i : ℕ) (f : Form) → two_bytes (slice_index text i) (slice_index text (i + 1)) ≡ Some f → i + 1 < length text
second_byte text i f e = ways (cases_lt (i + 1) (length text))
  where
    past : slice_index text (i + 1) ≡ 0 → two_bytes (slice_index text i) (slice_index text (i + 1)) ≡ None
    past z = grind (arith, nat_tests)

    ways : (i + 1 < length text) ⊎ (length text ≤ i + 1) → i + 1 < length text
    ways (inl h) = h
    ways (inr h) = let p = past (get_or_past text (i + 1) 0 h) in cc

neither : (b c : ℕ) → opens_block b c ≡ false → opens_line b c ≡ false → opens_block b c || opens_line b c ≡ false
neither b c p q = ap (λ t. t || opens_line b c) p ∙ q

pub a_sign : (text : List ℕ) (i n : ℕ) (f : Form) → begins_name (slice_index text i) ≡ false → i < length text → opens_block (slice_index text i) (slice_index text (i + 1)) ≡ false → opens_line (slice_index text i) (slice_index text (i + 1)) ≡ false → sign_at (slice_index text i) (slice_index text (i + 1)) ≡ Some (f, n) → IsLongest text i (i + n) × Spells f (slice_range text i (i + n))
a_sign text i n f no_name room no_block no_line e = ways (sign_ways (slice_index text i) (slice_index text (i + 1)) n f e)
  where
    ways : ((n ≡ 2) × (two_bytes (slice_index text i) (slice_index text (i + 1)) ≡ Some f)) ⊎ ((n ≡ 1) × (one_byte (slice_index text i) ≡ Some f) × (two_bytes (slice_index text i) (slice_index text (i + 1)) ≡ None)) → IsLongest text i (i + n) × Spells f (slice_range text i (i + n))
    ways (inl h) = let l = longest_two text i no_name f (second_byte text i f h.1) h.1 in subst (λ m. IsLongest text i (i + m) × Spells f (slice_range text i (i + m))) (sym h.0) (l.0, inl l.1)
    ways (inr h) = let l = longest_one text i no_name f room h.1 h.2 (neither (slice_index text i) (slice_index text (i + 1)) no_block no_line) in subst (λ m. IsLongest text i (i + m) × Spells f (slice_range text i (i + m))) (sym h.0) (l.0, inl l.1)

pub no_token : (text : List ℕ) (i : ℕ) → is_blank (slice_index text i) ≡ false → begins_name (slice_index text i) ≡ false → i < length text → opens_block (slice_index text i) (slice_index text (i + 1)) ≡ false → opens_line (slice_index text i) (slice_index text (i + 1)) ≡ false → sign_at (slice_index text i) (slice_index text (i + 1)) ≡ None → Breaks L1 text i
no_token text i no_blank no_name room no_block no_line e =
    let n = no_sign (slice_index text i) (slice_index text (i + 1)) e in
    (room, no_blank, no_shape text i no_name n.0 n.1 (neither (slice_index text i) (slice_index text (i + 1)) no_block no_line))

-- the same, where the two bytes have been read
module _ (text : List ℕ) (i b c : ℕ) (room : i < length text) (first : b ≡ slice_index text i) (second : c ≡ slice_index text (i + 1)) where
  pub read_sign : (n : ℕ) (f : Form) → false ≡ begins_name b → false ≡ opens_block b c → false ≡ opens_line b c → Some (f, n) ≡ sign_at b c → IsLongest text i (i + n) × Spells f (slice_range text i (i + n))
  read_sign n f no_name no_block no_line e =
      a_sign text i n f (ap begins_name (sym first) ∙ sym no_name) room ((λ t. opens_block (sym first t) (sym second t)) ∙ sym no_block) ((λ t. opens_line (sym first t) (sym second t)) ∙ sym no_line) ((λ t. sign_at (sym first t) (sym second t)) ∙ sym e)

  pub read_none : false ≡ is_blank b → false ≡ begins_name b → false ≡ opens_block b c → false ≡ opens_line b c → None ≡ sign_at b c → Breaks L1 text i
  read_none no_blank no_name no_block no_line e =
      no_token text i (ap is_blank (sym first) ∙ sym no_blank) (ap begins_name (sym first) ∙ sym no_name) room ((λ t. opens_block (sym first t) (sym second t)) ∙ sym no_block) ((λ t. opens_line (sym first t) (sym second t)) ∙ sym no_line) ((λ t. sign_at (sym first t) (sym second t)) ∙ sym e)
