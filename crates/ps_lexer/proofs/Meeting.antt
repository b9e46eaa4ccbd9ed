-- Two readings of a text go the same way, and a broken rule ends each.
use Rattle.std.proofs.Common.{◌≡◌, ℕ, ◌+◌, ◌-◌, ◌<◌, ◌≤◌, inl, inr, true, false, List, [], ◌∷◌, ◌++◌, length, take, slice_index, refl, sym, ap, ◌∙◌, subst, ⊎_elim, arith, codes}
use Rattle.std.proofs.lemmas.Bool.{cases_lt}
use Rattle.std.proofs.lemmas.Bool.Decides.{nat_tests}
use Rattle.std.proofs.lemmas.List.{append-nil, get_or_past, length-map}
use Rattle.std.specs.List.{slice_range}
use Rattle.std.specs.Char.{to_ascii_lowercase}
use Rattle.ps_base.specs.declared.limits.TheConstants.{LARGEST_SOURCE, LONGEST_NAME}
use Rattle.ps_base.specs.declared.failing.Refusal.{Refusal}
use Rattle.ps_base.specs.declared.failing.Rule.{Rule}
use Rattle.ps_base.specs.declared.failing.Rule.TheVariants.{L1, L2, L3, L4}
use Rattle.ps_lexer.specs.declared.token.Form.{Form}
use Rattle.ps_lexer.specs.declared.token.Token.{Token}
use Rattle.ps_lexer.specs.Spelling.{begins_name, IsIdentifier}
use Rattle.ps_lexer.specs.TimeLiterals.{IsTimeText, IsTimeLiteral}
use Rattle.ps_lexer.specs.Gaps.{HasBytesAt, is_blank, IsBlockComment, IsLineComment, IsOpenComment, place_after}
use Rattle.ps_lexer.specs.Shapes.{Spells, IsShape, opening, IsLongest}
use Rattle.ps_lexer.specs.Reading.{IsToken, Reads, nothing, blank, block, line, token, Breaks, BreaksFirst, IsRefused}
use Rattle.ps_lexer.proofs.Slices.{length-slice_range, slice_first, at_pair}
use Rattle.ps_lexer.proofs.Longest.{time_begins, time_hash, identifier_no_hash}
use Rattle.ps_lexer.proofs.Pieces.{block_within}
use Rattle.ps_lexer.proofs.Apart.{keyword_way, name_way, time_way, WordWay, word_way, keyword_short, keyword_no_hash, literal_hash, sign_begins, one_end, one_token, blank_no_token, opening_no_token}

-- where two readings of a text end: one of them goes on where the other ended
pub data Meets (text : List ℕ) (ts us : List Token) (j k : ℕ) : Type 0 where
  further : (rest : List Token) → us ≡ ts ++ rest → Reads text j rest k → Meets text ts us j k
  behind : (rest : List Token) → ts ≡ us ++ rest → Reads text k rest j → Meets text ts us j k

same_end : (j k : ℕ) → (j < k → ⊥) → (k < j → ⊥) → j ≡ k
same_end j k a b = ⊎_elim (λ l. absurd (a l)) (λ le. ⊎_elim (λ l. absurd (b l)) (λ ge. omega arith) (cases_lt k j)) (cases_lt j k)

block_not_before : (text : List ℕ) (i j k : ℕ) → IsBlockComment text i j → IsBlockComment text i k → j < k → ⊥
block_not_before text i j k p q less =
    let room = p.room in
    q.first (j - 2) (omega arith) (omega arith) p.closes

line_not_before : (text : List ℕ) (i j k : ℕ) → IsLineComment text i j → IsLineComment text i k → j < k → ⊥
line_not_before text i j k p q less = let within = q.within in q.one_line j p.ahead less (p.ends (omega arith))

module _ {text : List ℕ} where
  at_end : {i j : ℕ} {ts : List Token} → i ≡ length text → Reads text i ts j → (j ≡ i) × (ts ≡ [])
  at_end e nothing = (refl, refl)
  at_end {i} e (blank b r) = absurd (let z : slice_index text i ≡ 0 = get_or_past text i 0 (omega arith) in let c : is_blank (slice_index text i) ≡ false = ap is_blank z in cc)
  at_end {i} e (block {k = m} c r) = absurd (let room = c.room in omega (arith, block_within text i m c))
  at_end e (line c r) = absurd (let ahead = c.ahead in let within = c.within in omega arith)
  at_end e (token t f p r) = absurd (let ahead = p.longest.ahead in let within = p.longest.within in omega arith)

  blank_no_block : {i j : ℕ} → is_blank (slice_index text i) ≡ true → IsBlockComment text i j → ⊥
  blank_no_block {i} b c = let f = ap is_blank (at_pair text i 40 42 c.opens).1 in cc

  blank_no_line : {i j : ℕ} → is_blank (slice_index text i) ≡ true → IsLineComment text i j → ⊥
  blank_no_line {i} b c = let f = ap is_blank (at_pair text i 47 47 c.opens).1 in cc

  block_no_line : {i k : ℕ} → HasBytesAt text i (codes "(*") → IsLineComment text i k → ⊥
  block_no_line {i} c d = let p = (at_pair text i 40 42 c).1 in let q = (at_pair text i 47 47 d.opens).1 in omega arith

  token_no_block : {i : ℕ} (t : Token) → t.from ≡ i → HasBytesAt text i (codes "(*") → IsToken text t → ⊥
  token_no_block {i} t e c p = opening_no_token text i 40 42 t refl refl (inl refl) e c p

  token_no_line : {i : ℕ} (t : Token) → t.from ≡ i → HasBytesAt text i (codes "//") → IsToken text t → ⊥
  token_no_line {i} t e c p = opening_no_token text i 47 47 t refl refl (inr refl) e c p

  reads_from_same : {i j k : ℕ} {ts : List Token} → i ≡ j → Reads text i ts k → Reads text j ts k
  reads_from_same {k = k} {ts = ts} e r = subst (λ x. Reads text x ts k) e r

  more : {t u : Token} {ts us : List Token} {j k : ℕ} → t ≡ u → Meets text ts us j k → Meets text (t ∷ ts) (u ∷ us) j k
  more same (further rest e r) = further rest (λ x. sym same x ∷ e x) r
  more same (behind rest e r) = behind rest (λ x. same x ∷ e x) r

  pub meets : {i j k : ℕ} {ts us : List Token} → Reads text i ts j → Reads text i us k → Meets text ts us j k
  meets {us = us} nothing q = further us refl q
  meets {ts = ts} (blank b r) nothing = behind ts refl (blank b r)
  meets {ts = ts} (block c r) nothing = behind ts refl (block c r)
  meets {ts = ts} (line c r) nothing = behind ts refl (line c r)
  meets {ts = ts} (token t e p r) nothing = behind ts refl (token t e p r)
  meets (blank b r) (blank b' q) = meets r q
  meets (blank b r) (block c q) = absurd (blank_no_block b c)
  meets (blank b r) (line c q) = absurd (blank_no_line b c)
  meets {i} (blank b r) (token t e p q) = absurd (blank_no_token text i t e b p)
  meets (block c r) (blank b q) = absurd (blank_no_block b c)
  meets {i} (block {k = m} c r) (block {k = n} d q) = meets r (reads_from_same (sym (same_end m n (block_not_before text i m n c d) (block_not_before text i n m d c))) q)
  meets {i} (block c r) (line d q) = absurd (block_no_line {i = i} c.opens d)
  meets {i} (block c r) (token t e p q) = absurd (token_no_block {i = i} t e c.opens p)
  meets (line c r) (blank b q) = absurd (blank_no_line b c)
  meets {i} (line c r) (block d q) = absurd (block_no_line {i = i} d.opens c)
  meets {i} (line {k = m} c r) (line {k = n} d q) = meets r (reads_from_same (sym (same_end m n (line_not_before text i m n c d) (line_not_before text i n m d c))) q)
  meets {i} (line c r) (token t e p q) = absurd (token_no_line {i = i} t e c.opens p)
  meets {i} (token t e p r) (blank b q) = absurd (blank_no_token text i t e b p)
  meets {i} (token t e p r) (block c q) = absurd (token_no_block {i = i} t e c.opens p)
  meets {i} (token t e p r) (line c q) = absurd (token_no_line {i = i} t e c.opens p)
  meets (token t e p r) (token u f o q) =
      let same = one_token text t u (e ∙ sym f) p o in
      more same (meets r (reads_from_same (sym (ap (λ z. z.upto) same)) q))

-- a text has one list of tokens
pub one_list : (text : List ℕ) (ts us : List Token) → Reads text 0 ts (length text) → Reads text 0 us (length text) → ts ≡ us
one_list text ts us r q = elim (meets r q) [
  | further rest e o ↦ sym (e ∙ ap (λ l. ts ++ l) (at_end refl o).1 ∙ append-nil ts)
  | behind rest e o ↦ e ∙ ap (λ l. us ++ l) (at_end refl o).1 ∙ append-nil us
]

letter_no_blank : (b : ℕ) → begins_name b ≡ true → is_blank b ≡ false
letter_no_blank b h = grind (arith, nat_tests)

-- nothing that a text is read by stands at i
pub record IsStuck (text : List ℕ) (i : ℕ) : Type 0 where
  pub room : i < length text
  pub no_blank : is_blank (slice_index text i) ≡ false
  pub no_block : (k : ℕ) → IsBlockComment text i k → ⊥
  pub no_line : (k : ℕ) → IsLineComment text i k → ⊥
  pub no_token : (t : Token) → t.from ≡ i → IsToken text t → ⊥

-- a shape with no form stands at i
module _ (text : List ℕ) (i j : ℕ) (longest : IsLongest text i j) (begins : begins_name (slice_index text i) ≡ true) (no_word : (f : Form) → WordWay f (slice_range text i j) → ⊥) where
  no_opening : (b c : ℕ) → begins_name b ≡ false → HasBytesAt text i (b ∷ c ∷ []) → ⊥
  no_opening b c no_name stands = let e = ap begins_name (at_pair text i b c stands).1 in cc

  no_form : (f : Form) → Spells f (slice_range text i j) → ⊥
  no_form f (inl s) = let e = ap begins_name (slice_first text i j longest.ahead) in let n = sign_begins f (slice_range text i j) s in cc
  no_form f (inr s) = no_word f (word_way f (slice_range text i j) s)

  formless : IsStuck text i
  formless = let ahead = longest.ahead in let within = longest.within in record {
    room = omega arith;
    no_blank = letter_no_blank (slice_index text i) begins;
    no_block = λ k c. no_opening 40 42 refl c.opens;
    no_line = λ k c. no_opening 47 47 refl c.opens;
    no_token = λ t e p.
        let same = one_end text i t.upto j (subst (λ k. IsLongest text k t.upto) e p.longest) longest in
        no_form t.form (subst (Spells t.form) (λ x. slice_range text (e x) (same x)) p.spells);
  }

-- what spells a long identifier, or the text of a TIME literal, that has no form
long_no_word : (bytes : List ℕ) → IsIdentifier bytes → LONGEST_NAME < length bytes → (f : Form) → WordWay f bytes → ⊥
long_no_word bytes id long f w = elim w [
  | keyword_way k e p ↦ omega (arith, keyword_short k, ap length p, length-map bytes to_ascii_lowercase)
  | name_way e n ↦ let short = n.short in omega arith
  | time_way v e t ↦ identifier_no_hash bytes id (literal_hash bytes v t)
]

wrong_time_no_word : (bytes : List ℕ) → IsTimeText bytes → ((v : ℕ) → IsTimeLiteral bytes v → ⊥) → (f : Form) → WordWay f bytes → ⊥
wrong_time_no_word bytes t none f w = elim w [
  | keyword_way k e p ↦ keyword_no_hash k bytes p (time_hash bytes t)
  | name_way e n ↦ identifier_no_hash bytes n.identifier (time_hash bytes t)
  | time_way v e l ↦ none v l
]

-- which rule is broken
pub data BreakWay (text : List ℕ) (i : ℕ) (rule : Rule) : Type 0 where
  no_beginning : rule ≡ L1 → Breaks L1 text i → BreakWay text i rule
  not_closed : rule ≡ L2 → Breaks L2 text i → BreakWay text i rule
  no_time : rule ≡ L3 → Breaks L3 text i → BreakWay text i rule
  too_long : rule ≡ L4 → Breaks L4 text i → BreakWay text i rule

pub break_way : (text : List ℕ) (i : ℕ) (rule : Rule) → Breaks rule text i → BreakWay text i rule
break_way text i L1 b = no_beginning refl b
break_way text i L2 b = not_closed refl b
break_way text i L3 b = no_time refl b
break_way text i L4 b = too_long refl b
break_way text i rule b = absurd b

module _ (text : List ℕ) (i : ℕ) where
  stuck_open : IsOpenComment text i → IsStuck text i
  stuck_open o = let pair = at_pair text i 40 42 o.opens in let room = pair.0 in record {
    room = omega arith;
    no_blank = ap is_blank pair.1;
    no_block = λ k c. let ahead = c.room in o.never (k - 2) (omega arith) c.closes;
    no_line = λ k c. block_no_line {i = i} o.opens c;
    no_token = λ t e p. token_no_block {i = i} t e o.opens p;
  }

  stuck_byte : Breaks L1 text i → IsStuck text i
  stuck_byte b = record {
    room = b.0;
    no_blank = b.1;
    no_block = λ k c. let room = (at_pair text i 40 42 c.opens).0 in b.2 (i + 2) (omega arith) room (opening (inl c.opens));
    no_line = λ k c. let room = (at_pair text i 47 47 c.opens).0 in b.2 (i + 2) (omega arith) room (opening (inr c.opens));
    no_token = λ t e p. let ahead = p.longest.ahead in b.2 t.upto (omega arith) p.longest.within (subst (λ k. IsShape (slice_range text k t.upto)) e p.longest.shape);
  }

  begins_at : (j : ℕ) → IsLongest text i j → begins_name (slice_index (slice_range text i j) 0) ≡ true → begins_name (slice_index text i) ≡ true
  begins_at j l b = ap begins_name (sym (slice_first text i j l.ahead)) ∙ b

  stuck_time : Breaks L3 text i → IsStuck text i
  stuck_time b = formless text i b.0 b.1 (begins_at b.0 b.1 (time_begins (slice_range text i b.0) b.2)) (wrong_time_no_word (slice_range text i b.0) b.2 b.3)

  stuck_name : Breaks L4 text i → IsStuck text i
  stuck_name b =
      let long = b.3 in
      let ahead = b.1.ahead in
      formless text i b.0 b.1 (begins_at b.0 b.1 b.2.begins) (long_no_word (slice_range text i b.0) b.2 (omega (arith, length-slice_range text i b.0 (omega arith) b.1.within)))

  stuck_where_broken : (rule : Rule) → Breaks rule text i → IsStuck text i
  stuck_where_broken rule b = elim (break_way text i rule b) [ no_beginning e w ↦ stuck_byte w | not_closed e w ↦ stuck_open w | no_time e w ↦ stuck_time w | too_long e w ↦ stuck_name w ]

module _ {text : List ℕ} where
  stays : {i j : ℕ} {ts : List Token} → IsStuck text i → Reads text i ts j → i ≡ j
  stays s nothing = refl
  stays s (blank b r) = absurd (let n = s.no_blank in cc)
  stays s (block c r) = absurd (s.no_block _ c)
  stays s (line c r) = absurd (s.no_line _ c)
  stays s (token t e p r) = absurd (s.no_token t e p)

-- a text that breaks a rule is not read whole
broken_not_read : (text : List ℕ) (r : Refusal) (ts : List Token) → BreaksFirst text r → Reads text 0 ts (length text) → ⊥
broken_not_read text r ts b q =
    let s = stuck_where_broken text b.at r.rule b.breaks in
    let room = s.room in
    elim (meets b.read q) [
      | further rest e o ↦ let same = stays s o in omega arith
      | behind rest e o ↦ let same = (at_end refl o).0 in omega arith
    ]

pub refused_not_read : (text : List ℕ) (r : Refusal) (ts : List Token) → IsRefused text r → length text ≤ LARGEST_SOURCE → Reads text 0 ts (length text) → ⊥
refused_not_read text r ts (inl large) size q = let more = large.0 in omega arith
refused_not_read text r ts (inr first) size q = broken_not_read text r ts first.1 q

-- one rule alone is broken at a place
module _ (text : List ℕ) (i : ℕ) where
  begins_time : Breaks L3 text i → begins_name (slice_index text i) ≡ true
  begins_time b = begins_at text i b.0 b.1 (time_begins (slice_range text i b.0) b.2)

  begins_long : Breaks L4 text i → begins_name (slice_index text i) ≡ true
  begins_long b = begins_at text i b.0 b.1 b.2.begins

  open_no_letter : Breaks L2 text i → begins_name (slice_index text i) ≡ true → ⊥
  open_no_letter o b = let e = ap begins_name (at_pair text i 40 42 o.opens).1 in cc

  byte_no_shape : Breaks L1 text i → (j : ℕ) → IsLongest text i j → ⊥
  byte_no_shape b j l = b.2 j l.ahead l.within l.shape

  byte_no_open : Breaks L1 text i → Breaks L2 text i → ⊥
  byte_no_open b o = let room = (at_pair text i 40 42 o.opens).0 in b.2 (i + 2) (omega arith) room (opening (inl o.opens))

  time_no_name : Breaks L3 text i → Breaks L4 text i → ⊥
  time_no_name t n =
      let same = one_end text i t.0 n.0 t.1 n.1 in
      identifier_no_hash (slice_range text i n.0) n.2 (time_hash (slice_range text i n.0) (subst (λ j. IsTimeText (slice_range text i j)) same t.2))

  one_way : (r q : Rule) → BreakWay text i r → BreakWay text i q → r ≡ q
  one_way r q (no_beginning e a) (no_beginning f b) = e ∙ sym f
  one_way r q (no_beginning e a) (not_closed f b) = absurd (byte_no_open a b)
  one_way r q (no_beginning e a) (no_time f b) = absurd (byte_no_shape a b.0 b.1)
  one_way r q (no_beginning e a) (too_long f b) = absurd (byte_no_shape a b.0 b.1)
  one_way r q (not_closed e a) (no_beginning f b) = absurd (byte_no_open b a)
  one_way r q (not_closed e a) (not_closed f b) = e ∙ sym f
  one_way r q (not_closed e a) (no_time f b) = absurd (open_no_letter a (begins_time b))
  one_way r q (not_closed e a) (too_long f b) = absurd (open_no_letter a (begins_long b))
  one_way r q (no_time e a) (no_beginning f b) = absurd (byte_no_shape b a.0 a.1)
  one_way r q (no_time e a) (not_closed f b) = absurd (open_no_letter b (begins_time a))
  one_way r q (no_time e a) (no_time f b) = e ∙ sym f
  one_way r q (no_time e a) (too_long f b) = absurd (time_no_name a b)
  one_way r q (too_long e a) (no_beginning f b) = absurd (byte_no_shape b a.0 a.1)
  one_way r q (too_long e a) (not_closed f b) = absurd (open_no_letter b (begins_long a))
  one_way r q (too_long e a) (no_time f b) = absurd (time_no_name b a)
  one_way r q (too_long e a) (too_long f b) = e ∙ sym f

  one_rule : (r q : Rule) → Breaks r text i → Breaks q text i → r ≡ q
  one_rule r q a b = one_way r q (break_way text i r a) (break_way text i q b)

-- a text breaks a rule first at one place
one_place : (text : List ℕ) (r q : Refusal) (a : BreaksFirst text r) (b : BreaksFirst text q) → a.at ≡ b.at
one_place text r q a b = elim (meets a.read b.read) [
  | further rest e o ↦ stays (stuck_where_broken text a.at r.rule a.breaks) o
  | behind rest e o ↦ sym (stays (stuck_where_broken text b.at q.rule b.breaks) o)
]

one_break : (text : List ℕ) (r q : Refusal) → BreaksFirst text r → BreaksFirst text q → r ≡ q
one_break text r q a b =
    let at = one_place text r q a b in
    let rule = one_rule text b.at r.rule q.rule (subst (Breaks r.rule text) at a.breaks) b.breaks in
    let place = a.place ∙ ap (λ i. place_after (take i text)) at ∙ sym b.place in
    (λ x. record { rule = rule x; place = place x })

-- a text has one refusal
pub one_refusal : (text : List ℕ) (r q : Refusal) → IsRefused text r → IsRefused text q → r ≡ q
one_refusal text r q (inl a) (inl b) = a.1 ∙ sym b.1
one_refusal text r q (inl a) (inr b) = let large = a.0 in let small = b.0 in absurd (omega arith)
one_refusal text r q (inr a) (inl b) = let large = b.0 in let small = a.0 in absurd (omega arith)
one_refusal text r q (inr a) (inr b) = one_break text r q a.1 b.1
