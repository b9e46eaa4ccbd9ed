-- A text is read as tokens, or it is refused.
use Rattle.std.proofs.Common.{◌≡◌, ℕ, zero, suc, ◌+◌, ◌-◌, ◌<◌, ◌≤◌, ◌⊎◌, inl, inr, Bool, true, false, List, [], ◌∷◌, ◌++◌, length, take, drop, Option, Some, None, Ok, slice_index, codes, get_or, refl, ap, subst, length-take, length-drop, arith}
use Rattle.std.proofs.lemmas.Bool.{cases_lt}
use Rattle.std.proofs.lemmas.List.{length-map}
use Rattle.std.specs.Char.{to_ascii_lowercase}
use Rattle.std.specs.List.{slice_range}
use Rattle.ps_base.specs.declared.limits.TheConstants.{LARGEST_SOURCE, LONGEST_NAME}
use Rattle.ps_base.specs.declared.failing.Refusal.{Refusal}
use Rattle.ps_base.specs.declared.failing.Rule.{Rule}
use Rattle.ps_base.specs.declared.failing.Rule.TheVariants.{L1, L2, L3, L4, L5}
use Rattle.ps_lexer.specs.declared.token.Form.{Form}
use Rattle.ps_lexer.specs.declared.token.Form.TheVariants as form
use Rattle.ps_lexer.specs.declared.token.Token.{Token}
use Rattle.ps_lexer.specs.declared.token.Tokens.{Tokens}
use Rattle.ps_lexer.specs.declared.token.Word.{Word}
use Rattle.ps_lexer.specs.declared.token.Word.TheVariants.{Program, EndProgram, VarInput, VarOutput, Var, EndVar, And, Or, True, False}
use Rattle.ps_lexer.specs.Spelling.{folded, spelling, begins_name, continues_name}
use Rattle.ps_lexer.specs.TimeLiterals.{IsTimeHead, IsTimeValue, continues_time}
use Rattle.ps_lexer.specs.Gaps.{is_blank, IsBlockComment, IsLineComment, IsOpenComment, place_after}
use Rattle.ps_lexer.specs.Shapes.{IsLongest, Spells}
use Rattle.ps_lexer.specs.Scanning.{sign_at, opens_block, opens_line}
use Rattle.ps_lexer.specs.Reading.{Reads, nothing, blank, block, line, token, Breaks, BreaksFirst, IsRefused, tokens}
use Rattle.ps_lexer.proofs.Found.{too_long, a_keyword, a_name, a_time, no_time_value, a_sign, no_token}
use Rattle.ps_lexer.proofs.Longest.{no_head}
use Rattle.ps_lexer.proofs.Pieces.{block_within, read_append}
use Rattle.ps_language_laws.proofs.Searching.{same_text, one_of}
use Rattle.ps_language_laws.proofs.TimeParts.{time_decided}
use Rattle.ps_language_laws.proofs.Ends.{IsRunTo, run_to, block_decided, line_ends}

-- ---- keywords

abbrev keywords : List Word
keywords = Program ∷ EndProgram ∷ VarInput ∷ VarOutput ∷ Var ∷ EndVar ∷ And ∷ Or ∷ True ∷ False ∷ []

abbrev keyword_at : ℕ → Word
keyword_at n = get_or keywords n Program

abbrev number_of : Word → ℕ
number_of Program = 0
number_of EndProgram = 1
number_of VarInput = 2
number_of VarOutput = 3
number_of Var = 4
number_of EndVar = 5
number_of And = 6
number_of Or = 7
number_of True = 8
number_of False = 9

numbered : (k : Word) → keyword_at (number_of k) ≡ k
numbered = elim [ Program ↦ refl | EndProgram ↦ refl | VarInput ↦ refl | VarOutput ↦ refl | Var ↦ refl | EndVar ↦ refl | And ↦ refl | Or ↦ refl | True ↦ refl | False ↦ refl ]

below_ten : (k : Word) → number_of k < 10
below_ten = elim [
  | Program ↦ omega arith
  | EndProgram ↦ omega arith
  | VarInput ↦ omega arith
  | VarOutput ↦ omega arith
  | Var ↦ omega arith
  | EndVar ↦ omega arith
  | And ↦ omega arith
  | Or ↦ omega arith
  | True ↦ omega arith
  | False ↦ omega arith
]

keyword_decided : (word : List ℕ) → ((k : Word) × (folded word ≡ spelling k)) ⊎ ((k : Word) → folded word ≡ spelling k → ⊥)
keyword_decided word = one_of keyword_at number_of 10 numbered below_ten spelling (folded word)

-- ---- heads of TIME literals

-- bytes begin with a head, or not
abbrev BeginsTime : List ℕ → Type 0
BeginsTime bytes = (n : ℕ) × (n ≤ length bytes) × IsTimeHead (take n bytes)

-- a front with so many bytes is within them
front_within : (n : ℕ) (bytes : List ℕ) (spelt : List ℕ) → folded (take n bytes) ≡ spelt → n ≤ length spelt → n ≤ length bytes
front_within n bytes spelt e le = omega (arith, length-take n bytes, length-map (take n bytes) to_ascii_lowercase, ap length e)

head_decided : (bytes : List ℕ) → BeginsTime bytes ⊎ ((n : ℕ) → IsTimeHead (take n bytes) → ⊥)
head_decided bytes = by (same_text (folded (take 2 bytes)) (codes "t#")) (same_text (folded (take 5 bytes)) (codes "time#"))
  where
    by : (folded (take 2 bytes) ≡ codes "t#") ⊎ (folded (take 2 bytes) ≡ codes "t#" → ⊥) → (folded (take 5 bytes) ≡ codes "time#") ⊎ (folded (take 5 bytes) ≡ codes "time#" → ⊥)
        → BeginsTime bytes ⊎ ((n : ℕ) → IsTimeHead (take n bytes) → ⊥)
    by (inl short) _ = inl (2, front_within 2 bytes (codes "t#") short (omega arith), inl short)
    by (inr no_short) (inl long) = inl (5, front_within 5 bytes (codes "time#") long (omega arith), inr long)
    by (inr no_short) (inr no_long) = inr (no_head bytes (λ e. absurd (no_short e)) (λ e. absurd (no_long e)))

-- ---- one step

module _ (text : List ℕ) (i : ℕ) (room : i < length text) where
  -- Something more of the text is read, or a rule is broken here.
  data Step : Type 0 where
    goes_on : (ts : List Token) (j : ℕ) → i < j → j ≤ length text → Reads text i ts j → Step
    breaks : (rule : Rule) → Breaks rule text i → Step

  -- a token is read
  of_token : (f : Form) (j : ℕ) → IsLongest text i j × Spells f (slice_range text i j) → Step
  of_token f j h =
      let t : Token = record { form = f; «from» = i; upto = j; place = place_after (take i text) } in
      goes_on (t ∷ []) j h.0.ahead h.0.within (token t refl (record { longest = h.0; spells = h.1; place = refl }) nothing)

  of_block : ((j : ℕ) × IsBlockComment text i j) ⊎ IsOpenComment text i → Step
  of_block (inl c) = let ahead = c.1.room in goes_on [] c.0 (omega arith) (block_within text i c.0 c.1) (block c.1 nothing)
  of_block (inr o) = breaks L2 o

  of_line : (j : ℕ) × IsLineComment text i j → Step
  of_line c = let ahead = c.1.ahead in goes_on [] c.0 (omega arith) c.1.within (line c.1 nothing)

  -- a name or a keyword
  of_name : begins_name (slice_index text i) ≡ true → ((n : ℕ) → IsTimeHead (take n (drop i text)) → ⊥) → IsRunTo continues_name text (i + 1) → Step
  of_name begins no_time run = by (cases_lt (i + LONGEST_NAME) run.end) (keyword_decided (slice_range text i run.end))
    where
      ahead : i < run.end
      ahead = let from = run.from in omega arith

      by : (i + LONGEST_NAME < run.end) ⊎ (run.end ≤ i + LONGEST_NAME) → ((k : Word) × (folded (slice_range text i run.end) ≡ spelling k)) ⊎ ((k : Word) → folded (slice_range text i run.end) ≡ spelling k → ⊥) → Step
      by (inl long) _ = breaks L4 (too_long text i run.end ahead run.within begins run.passes run.stops no_time long)
      by (inr short) (inl k) = of_token (form.Word k.0) run.end (a_keyword text i run.end ahead run.within begins run.passes run.stops no_time k.0 k.1)
      by (inr short) (inr none) =
          of_token (form.Name (slice_range text i run.end)) run.end (a_name text i run.end ahead run.within begins run.passes run.stops no_time (slice_range text i run.end) refl short none)

  -- a TIME literal, right or wrong
  of_time : (n : ℕ) → IsTimeHead (take n (drop i text)) → IsRunTo continues_time text (i + n) → Step
  of_time n head run = by (time_decided (slice_range text (i + n) run.end))
    where
      by : ((v : ℕ) × IsTimeValue (slice_range text (i + n) run.end) v) ⊎ ((v : ℕ) → IsTimeValue (slice_range text (i + n) run.end) v → ⊥) → Step
      by (inl v) = of_token (form.Time v.0) run.end (a_time text i n run.end head run.from run.within run.passes run.stops v.0 v.1)
      by (inr none) = breaks L3 (no_time_value text i n run.end head run.from run.within run.passes run.stops none)

  of_letter : begins_name (slice_index text i) ≡ true → BeginsTime (drop i text) ⊎ ((n : ℕ) → IsTimeHead (take n (drop i text)) → ⊥) → Step
  of_letter begins (inl t) = of_time t.0 t.2 (run_to continues_time text (i + t.0) refl (let within = t.1 in omega (arith, length-drop i text)))
  of_letter begins (inr none) = of_name begins none (run_to continues_name text (i + 1) refl (omega arith))

  -- no name, no blank and no comment begins here
  of_sign : is_blank (slice_index text i) ≡ false → begins_name (slice_index text i) ≡ false → opens_block (slice_index text i) (slice_index text (i + 1)) ≡ false → opens_line (slice_index text i) (slice_index text (i + 1)) ≡ false
      → (o : Option (Form × ℕ)) → sign_at (slice_index text i) (slice_index text (i + 1)) ≡ o → Step
  of_sign no_blank no_name no_block no_line (Some s) is = of_token s.0 (i + s.1) (a_sign text i s.1 s.0 no_name room no_block no_line is)
  of_sign no_blank no_name no_block no_line None is = breaks L1 (no_token text i no_blank no_name room no_block no_line is)

  step : Step
  step = by (is_blank b) refl (opens_block b c) refl (opens_line b c) refl (begins_name b) refl
    where
      b : ℕ
      b = slice_index text i

      c : ℕ
      c = slice_index text (i + 1)

      by : (u : Bool) → is_blank b ≡ u → (v : Bool) → opens_block b c ≡ v → (w : Bool) → opens_line b c ≡ w → (x : Bool) → begins_name b ≡ x → Step
      by true a _ _ _ _ _ _ = goes_on [] (i + 1) (omega arith) (omega arith) (blank a nothing)
      by false a true d _ _ _ _ = of_block (block_decided text i d)
      by false a false d true e _ _ = of_line (line_ends text i e)
      by false a false d false e true f = of_letter f (head_decided (drop i text))
      by false a false d false e false f = of_sign a f d e (sign_at b c) refl

-- ---- whole texts

abbrev IsRead : List ℕ → Type 0
IsRead text = ((ts : List Token) × Reads text 0 ts (length text)) ⊎ ((r : Refusal) × BreaksFirst text r)

read_from : (fuel : ℕ) (text : List ℕ) (before : List Token) (i : ℕ) → Reads text 0 before i → i ≤ length text → length text - i < fuel → IsRead text
read_from zero text before i read le less = absurd (omega arith)
read_from (suc fuel) text before i read le less = by (read_from fuel text) (cases_lt i (length text))
  where
    more : ((ts : List Token) (j : ℕ) → Reads text 0 ts j → j ≤ length text → length text - j < fuel → IsRead text) → (room : i < length text) → Step text i room → IsRead text
    more later room (goes_on ts j ahead within r) = later (before ++ ts) j (read_append read r) within (omega arith)
    more later room (breaks rule b) = inr (record { rule = rule; place = place_after (take i text) }, record { before = before; at = i; read = read; breaks = b; place = refl })

    by : ((ts : List Token) (j : ℕ) → Reads text 0 ts j → j ≤ length text → length text - j < fuel → IsRead text) → (i < length text) ⊎ (length text ≤ i) → IsRead text
    by later (inl room) = more later room (step text i room)
    by later (inr past) = let same : i ≡ length text = omega arith in inl (before, subst (Reads text 0 before) same read)

pub tokens_decided : (text : List ℕ) → ((t : Tokens) × tokens text (Ok t)) ⊎ ((r : Refusal) × IsRefused text r)
tokens_decided text = by (cases_lt LARGEST_SOURCE (length text)) (read_from (suc (length text)) text [] 0 nothing (omega arith) (omega arith))
  where
    by : (LARGEST_SOURCE < length text) ⊎ (length text ≤ LARGEST_SOURCE) → IsRead text → ((t : Tokens) × tokens text (Ok t)) ⊎ ((r : Refusal) × IsRefused text r)
    by (inl large) _ = inr (record { rule = L5; place = place_after [] }, inl (large, refl))
    by (inr small) (inl ts) = inl (record { list = ts.0; end = place_after text }, (small, ts.1, refl))
    by (inr small) (inr r) = inr (r.0, inr (small, r.1))
