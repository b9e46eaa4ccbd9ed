-- What stands at a place is one thing alone.
use Rattle.std.proofs.Common.{◌≡◌, ◌==◌, ℕ, zero, suc, ◌+◌, ◌*◌, ◌≤◌, inl, inr, Bool, true, false, ◌||◌, List, [], ◌∷◌, length, take, Option, Some, None, slice_index, refl, sym, ap, ◌∙◌, subst, ⊎_elim, arith}
use Rattle.std.proofs.lemmas.Bool.{cases_lt}
use Rattle.std.proofs.lemmas.Bool.Decides.{nat_tests}
use Rattle.std.proofs.lemmas.List.{get_or_past}
use Rattle.std.specs.List.{slice_range}
use Rattle.std.specs.Char.{to_ascii_lowercase}
use Rattle.ps_lexer.specs.declared.token.Form.{Form}
use Rattle.ps_lexer.specs.declared.token.Form.TheVariants as form
use Rattle.ps_lexer.specs.declared.token.Word.{Word}
use Rattle.ps_lexer.specs.declared.token.Word.TheVariants as word
use Rattle.ps_lexer.specs.declared.token.Token.{Token}
use Rattle.ps_lexer.specs.Spelling.{folded, spelling, begins_name, IsName}
use Rattle.ps_lexer.specs.TimeLiterals.{IsTimeLiteral, PartsGive}
use Rattle.ps_lexer.specs.Gaps.{HasBytesAt, is_blank, place_after}
use Rattle.ps_lexer.specs.Shapes.{SpellsSign, SpellsWord, Spells, OpensComment, IsShape, opening, IsLongest}
use Rattle.ps_lexer.specs.Reading.{IsToken}
use Rattle.ps_lexer.specs.Scanning.{one_byte, two_bytes, opens_block, opens_line}
use Rattle.ps_lexer.proofs.Slices.{at_pair}
use Rattle.ps_lexer.proofs.Times.{one_value}
use Rattle.ps_lexer.proofs.Longest.{HasHash, first_letter, slice_index-folded, one_head, front_begins, front_hash, identifier_no_hash, shape_cases, one, two, opener}

-- the sign that bytes spell, as a function of them
sign_of : List ℕ → Option Form
sign_of [] = None
sign_of (b ∷ []) = one_byte b
sign_of (b ∷ c ∷ []) = two_bytes b c
sign_of (b ∷ c ∷ d ∷ bytes) = None

sign_tells : (f : Form) (bytes : List ℕ) → SpellsSign f bytes → sign_of bytes ≡ Some f
unfolding sign_of
sign_tells form.Assign bytes e = ap sign_of e
sign_tells form.Colon bytes e = ap sign_of e
sign_tells form.Semicolon bytes e = ap sign_of e
sign_tells form.Comma bytes e = ap sign_of e
sign_tells form.LeftBracket bytes e = ap sign_of e
sign_tells form.RightBracket bytes e = ap sign_of e
sign_tells form.Dot bytes e = ap sign_of e
sign_tells (form.Word word.And) bytes e = ap sign_of e
sign_tells f bytes e = absurd e

pair_tells : (b c : ℕ) (f : Form) → SpellsSign f (b ∷ c ∷ []) → two_bytes b c ≡ Some f
unfolding sign_of
pair_tells b c f e = sign_tells f (b ∷ c ∷ []) e

one_sign : (f g : Form) (bytes : List ℕ) → SpellsSign f bytes → SpellsSign g bytes → f ≡ g
one_sign f g bytes p q = let a = sign_tells f bytes p in let b = sign_tells g bytes q in cc

-- no sign begins with a letter
pub sign_begins : (f : Form) (bytes : List ℕ) → SpellsSign f bytes → begins_name (slice_index bytes 0) ≡ false
sign_begins form.Assign bytes e = ap (λ l. begins_name (slice_index l 0)) e
sign_begins form.Colon bytes e = ap (λ l. begins_name (slice_index l 0)) e
sign_begins form.Semicolon bytes e = ap (λ l. begins_name (slice_index l 0)) e
sign_begins form.Comma bytes e = ap (λ l. begins_name (slice_index l 0)) e
sign_begins form.LeftBracket bytes e = ap (λ l. begins_name (slice_index l 0)) e
sign_begins form.RightBracket bytes e = ap (λ l. begins_name (slice_index l 0)) e
sign_begins form.Dot bytes e = ap (λ l. begins_name (slice_index l 0)) e
sign_begins (form.Word word.And) bytes e = ap (λ l. begins_name (slice_index l 0)) e
sign_begins f bytes e = absurd e

-- keywords are told apart by a number
number_of_word : List ℕ → ℕ
number_of_word [] = 0
number_of_word (b ∷ bytes) = b + 300 * number_of_word bytes

one_keyword : (k l : Word) → number_of_word (spelling k) ≡ number_of_word (spelling l) → k ≡ l
unfolding number_of_word
one_keyword word.Program word.Program e = refl
one_keyword word.EndProgram word.EndProgram e = refl
one_keyword word.VarInput word.VarInput e = refl
one_keyword word.VarOutput word.VarOutput e = refl
one_keyword word.Var word.Var e = refl
one_keyword word.EndVar word.EndVar e = refl
one_keyword word.And word.And e = refl
one_keyword word.Or word.Or e = refl
one_keyword word.True word.True e = refl
one_keyword word.False word.False e = refl
one_keyword k l e = absurd (omega (arith, e))

keyword_begins : (k : Word) (bytes : List ℕ) → folded bytes ≡ spelling k → begins_name (slice_index bytes 0) ≡ true
keyword_begins word.Program bytes e = first_letter bytes _ 112 e refl
keyword_begins word.EndProgram bytes e = first_letter bytes _ 101 e refl
keyword_begins word.VarInput bytes e = first_letter bytes _ 118 e refl
keyword_begins word.VarOutput bytes e = first_letter bytes _ 118 e refl
keyword_begins word.Var bytes e = first_letter bytes _ 118 e refl
keyword_begins word.EndVar bytes e = first_letter bytes _ 101 e refl
keyword_begins word.And bytes e = first_letter bytes _ 97 e refl
keyword_begins word.Or bytes e = first_letter bytes _ 111 e refl
keyword_begins word.True bytes e = first_letter bytes _ 116 e refl
keyword_begins word.False bytes e = first_letter bytes _ 102 e refl

-- no keyword has a `#`
has_hash : List ℕ → Bool
has_hash [] = false
has_hash (b ∷ bytes) = b == 35 || has_hash bytes

no_hash : (bytes : List ℕ) → has_hash bytes ≡ false → (p : ℕ) → slice_index bytes p ≡ 35 → ⊥
unfolding has_hash
no_hash [] e p h = let z : slice_index [] p ≡ 0 = get_or_past [] p 0 (omega arith) in omega arith
no_hash (b ∷ bytes) e zero h = grind (arith, nat_tests)
no_hash (b ∷ bytes) e (suc p) h = no_hash bytes (or_right (b == 35) (has_hash bytes) e) p h
  where
    or_right : (x y : Bool) → x || y ≡ false → y ≡ false
    or_right true y k = cc
    or_right false y k = k

keyword_hash : (k : Word) → has_hash (spelling k) ≡ false
unfolding has_hash
keyword_hash word.Program = refl
keyword_hash word.EndProgram = refl
keyword_hash word.VarInput = refl
keyword_hash word.VarOutput = refl
keyword_hash word.Var = refl
keyword_hash word.EndVar = refl
keyword_hash word.And = refl
keyword_hash word.Or = refl
keyword_hash word.True = refl
keyword_hash word.False = refl

-- no keyword is longer than eleven bytes
pub keyword_short : (k : Word) → length (spelling k) ≤ 11
keyword_short word.Program = omega arith
keyword_short word.EndProgram = omega arith
keyword_short word.VarInput = omega arith
keyword_short word.VarOutput = omega arith
keyword_short word.Var = omega arith
keyword_short word.EndVar = omega arith
keyword_short word.And = omega arith
keyword_short word.Or = omega arith
keyword_short word.True = omega arith
keyword_short word.False = omega arith

pub keyword_no_hash : (k : Word) (bytes : List ℕ) → folded bytes ≡ spelling k → HasHash bytes → ⊥
keyword_no_hash k bytes e h =
    let f : to_ascii_lowercase (slice_index bytes h.0) ≡ 35 = ap to_ascii_lowercase h.2 in
    no_hash (spelling k) (keyword_hash k) h.0 (ap (λ l. slice_index l h.0) (sym e) ∙ slice_index-folded bytes h.0 h.1 ∙ f)

pub literal_hash : (bytes : List ℕ) (v : ℕ) → IsTimeLiteral bytes v → HasHash bytes
literal_hash bytes v t = front_hash bytes t.head t.parts t.whole t.begins

-- what spells a keyword, a name or a TIME literal begins with a letter
word_begins : (f : Form) (bytes : List ℕ) → SpellsWord f bytes → begins_name (slice_index bytes 0) ≡ true
word_begins (form.Word k) bytes e = keyword_begins k bytes e
word_begins (form.Name name) bytes e = let id = e.1.identifier in id.begins
word_begins (form.Time v) bytes t = front_begins bytes t.head t.parts t.whole t.begins
word_begins f bytes e = absurd e

-- how bytes spell a form that is no sign
pub data WordWay (f : Form) (bytes : List ℕ) : Type 0 where
  keyword_way : (k : Word) → f ≡ form.Word k → folded bytes ≡ spelling k → WordWay f bytes
  name_way : f ≡ form.Name bytes → IsName bytes → WordWay f bytes
  time_way : (v : ℕ) → f ≡ form.Time v → IsTimeLiteral bytes v → WordWay f bytes

pub word_way : (f : Form) (bytes : List ℕ) → SpellsWord f bytes → WordWay f bytes
word_way (form.Word k) bytes e = keyword_way k refl e
word_way (form.Name name) bytes e = name_way (ap form.Name e.0) e.1
word_way (form.Time v) bytes e = time_way v refl e
word_way f bytes e = absurd e

one_literal : (bytes : List ℕ) (v w : ℕ) → IsTimeLiteral bytes v → IsTimeLiteral bytes w → v ≡ w
one_literal bytes v w t u =
    let same = one_head t.head u.head t.parts u.parts t.begins u.begins (sym t.whole ∙ u.whole) in
    one_value t.value.0 (subst (λ l. PartsGive 0 l w) (sym same.1) u.value.0)

one_word : (f g : Form) (bytes : List ℕ) → WordWay f bytes → WordWay g bytes → f ≡ g
one_word f g bytes (keyword_way k a p) (keyword_way l b q) = a ∙ ap form.Word (one_keyword k l (ap number_of_word (sym p ∙ q))) ∙ sym b
one_word f g bytes (keyword_way k a p) (name_way b q) = absurd (q.no_keyword k p)
one_word f g bytes (keyword_way k a p) (time_way v b q) = absurd (keyword_no_hash k bytes p (literal_hash bytes v q))
one_word f g bytes (name_way a p) (keyword_way l b q) = absurd (p.no_keyword l q)
one_word f g bytes (name_way a p) (name_way b q) = a ∙ sym b
one_word f g bytes (name_way a p) (time_way v b q) = absurd (identifier_no_hash bytes p.identifier (literal_hash bytes v q))
one_word f g bytes (time_way v a p) (keyword_way l b q) = absurd (keyword_no_hash l bytes q (literal_hash bytes v p))
one_word f g bytes (time_way v a p) (name_way b q) = absurd (identifier_no_hash bytes q.identifier (literal_hash bytes v p))
one_word f g bytes (time_way v a p) (time_way w b q) = a ∙ ap form.Time (one_literal bytes v w p q) ∙ sym b

sign_no_word : (f g : Form) (bytes : List ℕ) → SpellsSign f bytes → SpellsWord g bytes → ⊥
sign_no_word f g bytes p q = let a = sign_begins f bytes p in let b = word_begins g bytes q in cc

one_form : (f g : Form) (bytes : List ℕ) → Spells f bytes → Spells g bytes → f ≡ g
one_form f g bytes (inl p) (inl q) = one_sign f g bytes p q
one_form f g bytes (inl p) (inr q) = absurd (sign_no_word f g bytes p q)
one_form f g bytes (inr p) (inl q) = absurd (sign_no_word g f bytes q p)
one_form f g bytes (inr p) (inr q) = one_word f g bytes (word_way f bytes p) (word_way g bytes q)

pub one_end : (text : List ℕ) (i j k : ℕ) → IsLongest text i j → IsLongest text i k → j ≡ k
one_end text i j k p q =
    ⊎_elim (λ less. absurd (p.none_longer k less q.within q.shape)) (λ le. ⊎_elim (λ more. absurd (q.none_longer j more p.within p.shape)) (λ ge. omega arith) (cases_lt k j)) (cases_lt j k)

-- one token begins at a place
pub one_token : (text : List ℕ) (t u : Token) → t.from ≡ u.from → IsToken text t → IsToken text u → t ≡ u
one_token text t u same p q =
    let upto = one_end text u.from t.upto u.upto (subst (λ i. IsLongest text i t.upto) same p.longest) q.longest in
    let spelt = subst (Spells t.form) (λ i. slice_range text (same i) (upto i)) p.spells in
    let formed = one_form t.form u.form (slice_range text u.from u.upto) spelt q.spells in
    let placed = p.place ∙ ap (λ i. place_after (take i text)) same ∙ sym q.place in
    (λ i. record { form = formed i; «from» = same i; upto = upto i; place = placed i })

blank_alone : (b c : ℕ) → is_blank b ≡ true → (begins_name b ≡ false) × (one_byte b ≡ None) × (two_bytes b c ≡ None) × (opens_block b c || opens_line b c ≡ false)
blank_alone b c h = grind (arith, nat_tests)

-- no token begins where a blank stands
pub blank_no_token : (text : List ℕ) (i : ℕ) (t : Token) → t.from ≡ i → is_blank (slice_index text i) ≡ true → IsToken text t → ⊥
blank_no_token text i t e b p =
    let a = blank_alone (slice_index text t.from) (slice_index text (t.from + 1)) (ap (λ k. is_blank (slice_index text k)) e ∙ b) in
    elim (shape_cases text t.from t.upto p.longest.ahead p.longest.within a.0 p.longest.shape) [ one e h ↦ let n = a.1 in cc | two e h ↦ let n = a.2 in cc | opener e h ↦ let n = a.3 in cc ]

-- nor where a comment is opened
pub opening_no_token : (text : List ℕ) (i b c : ℕ) (t : Token) → begins_name b ≡ false → two_bytes b c ≡ None → OpensComment (b ∷ c ∷ []) → t.from ≡ i → HasBytesAt text i (b ∷ c ∷ []) → IsToken text t → ⊥
opening_no_token text i b c t no_name no_two opens e stands p = at (subst (λ k. HasBytesAt text k (b ∷ c ∷ [])) (sym e) stands)
  where
    at : HasBytesAt text t.from (b ∷ c ∷ []) → ⊥
    at here =
        let pair = at_pair text t.from b c here in
        let shape : IsShape (slice_range text t.from (t.from + 2)) = opening (subst OpensComment (sym here) opens) in
        let cases = shape_cases text t.from t.upto p.longest.ahead p.longest.within (ap begins_name pair.1 ∙ no_name) p.longest.shape in
        let same : t.upto ≡ t.from + 2 = ⊎_elim (λ less. absurd (p.longest.none_longer (t.from + 2) less pair.0 shape)) (λ le. elim cases [ one e h ↦ absurd (omega arith) | two e h ↦ e | opener e h ↦ e ]) (cases_lt t.upto (t.from + 2)) in
        no_form (subst (Spells t.form) (ap (slice_range text t.from) same ∙ here) p.spells)
      where
        no_form : Spells t.form (b ∷ c ∷ []) → ⊥
        no_form (inl s) = let a = pair_tells b c t.form s in cc
        no_form (inr s) = let a = word_begins t.form (b ∷ c ∷ []) s in cc
