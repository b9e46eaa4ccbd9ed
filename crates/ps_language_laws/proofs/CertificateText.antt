-- A text is that of a certificate, or it is refused.
use Rattle.std.proofs.Common.{◌≡◌, ◌≢◌, ℕ, ◌+◌, ◌^◌, ◌<◌, ◌≤◌, ◌⊎◌, inl, inr, List, [], ◌∷◌, ◌++◌, length, map, refl, ap, ◌∙◌, ⊎_elim, arith}
use Rattle.std.specs.Prelude.{decimal, All}
use Rattle.std.proofs.lemmas.Bool.{cases_lt}
use Rattle.std.proofs.lemmas.List.Elements.{All-cons, All-head, All-tail}
use Rattle.ps_base.specs.declared.failing.Refusal.{Refusal}
use Rattle.ps_base.specs.declared.failing.Rule.TheVariants.{C1, C2}
use Rattle.ps_base.specs.declared.limits.TheConstants.{MOST_CERTIFICATE_LINES, LARGEST_CERTIFICATE}
use Rattle.ps_flow.specs.declared.certificate.CertLine.{CertLine}
use Rattle.ps_flow.specs.declared.certificate.LineRule.{LineRule}
use Rattle.ps_flow.specs.declared.certificate.LineRule.TheVariants.{Src, And, Or}
use Rattle.ps_flow.specs.Lines.{IsNumbered}
use Rattle.ps_flow.specs.Read.{lines_of, IsTooLarge, IsWithin, IsFirstOther, RefusesText, IsCertificate}
use Rattle.ps_flow.specs.Words.{words_in}
use Rattle.ps_flow.specs.Written.{rule_word, words_of, line_text}
use Rattle.ps_flow.proofs.Cutting.{text_of_cut}
use Rattle.ps_flow.proofs.Spelling.{line_of_words, words_in-line_text}
use Rattle.ps_language_laws.proofs.Searching.{FirstBelow, first_below, same_text}

-- ---- words

-- a word says a number below a bound, or none
number_below : (word : List ℕ) (bound : ℕ) → ((n : ℕ) × (n < bound) × (word ≡ decimal n)) ⊎ ((n : ℕ) → n < bound → word ≢ decimal n)
number_below word bound = by (first_below P Q each bound)
  where
    P : ℕ → Type 0
    P n = word ≢ decimal n

    Q : ℕ → Type 0
    Q n = word ≡ decimal n

    each : (n : ℕ) → P n ⊎ Q n
    each n = ⊎_elim (λ same. inr same) (λ other. inl other) (same_text word (decimal n))

    by : FirstBelow P Q bound ⊎ ((n : ℕ) → n < bound → P n) → ((n : ℕ) × (n < bound) × (word ≡ decimal n)) ⊎ ((n : ℕ) → n < bound → word ≢ decimal n)
    by (inl f) = inl (f.at, f.below, f.holds)
    by (inr none) = inr none

-- a word names a rule, or none
rule_decided : (word : List ℕ) → ((rule : LineRule) × (word ≡ rule_word rule)) ⊎ ((rule : LineRule) → word ≢ rule_word rule)
rule_decided word = by (same_text word (rule_word Src)) (same_text word (rule_word And)) (same_text word (rule_word Or))
  where
    by : (word ≡ rule_word Src) ⊎ (word ≢ rule_word Src) → (word ≡ rule_word And) ⊎ (word ≢ rule_word And) → (word ≡ rule_word Or) ⊎ (word ≢ rule_word Or)
        → ((rule : LineRule) × (word ≡ rule_word rule)) ⊎ ((rule : LineRule) → word ≢ rule_word rule)
    by (inl e) a o = inl (Src, e)
    by (inr s) (inl e) o = inl (And, e)
    by (inr s) (inr a) (inl e) = inl (Or, e)
    by (inr s) (inr a) (inr o) = inr (elim [ Src ↦ s | And ↦ a | Or ↦ o ])

-- words say numbers below a bound, each of them, or not each of them does
numbers_below : (bound : ℕ) (words : List (List ℕ)) → ((ns : List ℕ) × All (λ n. n < bound) ns × (words ≡ map decimal ns)) ⊎ ((ns : List ℕ) → All (λ n. n < bound) ns → words ≢ map decimal ns)
numbers_below bound [] = inl ([], (λ k d h. absurd (omega arith)), refl)
numbers_below bound (w ∷ words) = by (number_below w bound) (numbers_below bound words)
  where
    IsBelow : ℕ → Type 0
    IsBelow n = n < bound

    not_first : ((n : ℕ) → n < bound → w ≢ decimal n) → (ns : List ℕ) → All IsBelow ns → w ∷ words ≢ map decimal ns
    not_first none [] small e = cc
    not_first none (n ∷ ns) small e = none n (All-head IsBelow n ns small) (let same : w ≡ decimal n = cc in same)

    not_others : ((ns : List ℕ) → All IsBelow ns → words ≢ map decimal ns) → (ns : List ℕ) → All IsBelow ns → w ∷ words ≢ map decimal ns
    not_others none [] small e = cc
    not_others none (n ∷ ns) small e = none ns (All-tail IsBelow n ns small) (let same : words ≡ map decimal ns = cc in same)

    by : ((n : ℕ) × (n < bound) × (w ≡ decimal n)) ⊎ ((n : ℕ) → n < bound → w ≢ decimal n)
        → ((ns : List ℕ) × All IsBelow ns × (words ≡ map decimal ns)) ⊎ ((ns : List ℕ) → All IsBelow ns → words ≢ map decimal ns)
        → ((ns : List ℕ) × All IsBelow ns × (w ∷ words ≡ map decimal ns)) ⊎ ((ns : List ℕ) → All IsBelow ns → w ∷ words ≢ map decimal ns)
    by (inl n) (inl ns) = inl (n.0 ∷ ns.0, All-cons IsBelow n.0 ns.0 n.1 ns.1, λ i. n.2 i ∷ ns.2 i)
    by (inl n) (inr none) = inr (not_others none)
    by (inr none) _ = inr (not_first none)

-- ---- lines

abbrev IsLine : List ℕ → Type 0
IsLine line = (l : CertLine) × IsNumbered l × (line ≡ line_text l)

abbrev IsNoLine : List ℕ → Type 0
IsNoLine line = (l : CertLine) → IsNumbered l → line ≢ line_text l

-- the words of a line are those of a line of a certificate
of_words : (line : List ℕ) (l : CertLine) → IsNumbered l → line ≡ line_text l → words_in line ≡ words_of l
of_words line l numbered is = ap words_in is ∙ words_in-line_text l numbered

module _ (line : List ℕ) where
  abbrev AreNone : List (List ℕ) → Type 0
  AreNone words = (l : CertLine) → IsNumbered l → words ≢ words_of l

  line_by_words : (words : List (List ℕ)) → words_in line ≡ words → IsLine line ⊎ AreNone words
  line_by_words [] is = inr (λ l numbered e. cc)
  line_by_words (n ∷ []) is = inr (λ l numbered e. cc)
  line_by_words (n ∷ r ∷ ps) is = by (number_below n (2 ^ 32)) (rule_decided r) (numbers_below (2 ^ 32) ps)
    where
      no_node : ((m : ℕ) → m < 2 ^ 32 → n ≢ decimal m) → AreNone (n ∷ r ∷ ps)
      no_node none l numbered e = none l.node numbered.node (let same : n ≡ decimal l.node = cc in same)

      no_rule : ((rule : LineRule) → r ≢ rule_word rule) → AreNone (n ∷ r ∷ ps)
      no_rule none l numbered e = none l.rule (let same : r ≡ rule_word l.rule = cc in same)

      no_premises : ((ms : List ℕ) → All (λ m. m < 2 ^ 32) ms → ps ≢ map decimal ms) → AreNone (n ∷ r ∷ ps)
      no_premises none l numbered e = none l.premises numbered.premises (let same : ps ≡ map decimal l.premises = cc in same)

      by : ((m : ℕ) × (m < 2 ^ 32) × (n ≡ decimal m)) ⊎ ((m : ℕ) → m < 2 ^ 32 → n ≢ decimal m)
          → ((rule : LineRule) × (r ≡ rule_word rule)) ⊎ ((rule : LineRule) → r ≢ rule_word rule)
          → ((ms : List ℕ) × All (λ m. m < 2 ^ 32) ms × (ps ≡ map decimal ms)) ⊎ ((ms : List ℕ) → All (λ m. m < 2 ^ 32) ms → ps ≢ map decimal ms)
          → IsLine line ⊎ AreNone (n ∷ r ∷ ps)
      by (inl m) (inl rule) (inl ms) =
          let l : CertLine = record { node = m.0; rule = rule.0; premises = ms.0 } in
          inl (l, record { node = m.1; premises = ms.1 }, line_of_words line l (is ∙ λ i. m.2 i ∷ rule.1 i ∷ ms.2 i))
      by (inr none) _ _ = inr (no_node none)
      by (inl m) (inr none) _ = inr (no_rule none)
      by (inl m) (inl rule) (inr none) = inr (no_premises none)

  line_decided : IsLine line ⊎ IsNoLine line
  line_decided = ⊎_elim (λ is. inl is) (λ none. inr (λ l numbered e. none l numbered (of_words line l numbered e))) (line_by_words (words_in line) refl)

-- ---- texts

-- lines are those of a certificate
abbrev AreLines : List (List ℕ) → Type 0
AreLines lines = (ls : List CertLine) × All IsNumbered ls × (lines ≡ map line_text ls)

-- some lines of a certificate, and then a line that is none
record HasOther (lines : List (List ℕ)) : Type 0 where
  before : List CertLine
  other : List ℕ
  behind : List (List ℕ)
  cut : lines ≡ map line_text before ++ other ∷ behind
  numbered : All IsNumbered before
  form : IsNoLine other

lines_decided : (lines : List (List ℕ)) → AreLines lines ⊎ HasOther lines
lines_decided [] = inl ([], (λ k d h. absurd (omega arith)), refl)
lines_decided (line ∷ lines) = by (line_decided line) (lines_decided lines)
  where
    by : IsLine line ⊎ IsNoLine line → AreLines lines ⊎ HasOther lines → AreLines (line ∷ lines) ⊎ HasOther (line ∷ lines)
    by (inl l) (inl ls) = inl (l.0 ∷ ls.0, All-cons IsNumbered l.0 ls.0 l.1 ls.1, λ i. l.2 i ∷ ls.2 i)
    by (inl l) (inr h) = inr (record {
      before = l.0 ∷ h.before;
      other = h.other;
      behind = h.behind;
      cut = λ i. l.2 i ∷ h.cut i;
      numbered = All-cons IsNumbered l.0 h.before l.1 h.numbered;
      form = h.form;
    })
    by (inr none) _ = inr (record { before = []; other = line; behind = lines; cut = refl; numbered = λ k d h. absurd (omega arith); form = none })

within_decided : (text : List ℕ) → IsTooLarge text ⊎ IsWithin text
within_decided text = by (cases_lt MOST_CERTIFICATE_LINES (length (lines_of text))) (cases_lt LARGEST_CERTIFICATE (length text))
  where
    by : (MOST_CERTIFICATE_LINES < length (lines_of text)) ⊎ (length (lines_of text) ≤ MOST_CERTIFICATE_LINES) → (LARGEST_CERTIFICATE < length text) ⊎ (length text ≤ LARGEST_CERTIFICATE) → IsTooLarge text ⊎ IsWithin text
    by (inl many) _ = inl (inl many)
    by (inr few) (inl large) = inl (inr large)
    by (inr few) (inr small) = inr (record { lines = few; bytes = small })

-- the lines of a text are those of a certificate, or the text has a first other line
text_decided : (text : List ℕ) → ((lines : List CertLine) × All IsNumbered lines × (lines_of text ≡ map line_text lines)) ⊎ ((n : ℕ) × IsFirstOther text n)
text_decided text = by (lines_decided (lines_of text))
  where
    by : AreLines (lines_of text) ⊎ HasOther (lines_of text) → ((lines : List CertLine) × All IsNumbered lines × (lines_of text ≡ map line_text lines)) ⊎ ((n : ℕ) × IsFirstOther text n)
    by (inl ls) = inl ls
    by (inr h) = inr (length h.before + 1, record { before = h.before; other = h.other; behind = h.behind; cut = h.cut; numbered = h.numbered; place = refl; form = h.form })

pub certificate_decided : (text : List ℕ) → ((lines : List CertLine) × IsCertificate text lines) ⊎ ((r : Refusal) × RefusesText text r.rule r.place)
certificate_decided text = by (within_decided text) (text_decided text)
  where
    by : IsTooLarge text ⊎ IsWithin text → ((lines : List CertLine) × All IsNumbered lines × (lines_of text ≡ map line_text lines)) ⊎ ((n : ℕ) × IsFirstOther text n)
        → ((lines : List CertLine) × IsCertificate text lines) ⊎ ((r : Refusal) × RefusesText text r.rule r.place)
    by (inl large) _ = inr (record { rule = C2; place = record { line = 1; column = 0 } }, (refl, large))
    by (inr within) (inr o) = inr (record { rule = C1; place = record { line = o.0; column = 0 } }, (refl, within, o.1))
    by (inr within) (inl ls) = inl (ls.0, record { form = text_of_cut text ls.0 ls.2; numbered = ls.1; within = within })
