-- Brackets that are open before a token.
use Rattle.std.proofs.Common.{◌≡◌, ℕ, ◌+◌, ◌-◌, ◌<◌, ◌≤◌, ◌⊎◌, zero, suc, true, false, min, List, [], ◌∷◌, length, Option, Some, None, take, drop, option_map, inl, inr, refl, sym, ap, ◌∙◌, arith}
use Rattle.std.proofs.lemmas.Bool.{cases_lt, true≢false}
use Rattle.std.proofs.lemmas.List.{drop_more, drop_all}
use Rattle.std.proofs.lemmas.List.Sums.{sum_by-cons}
use Rattle.std.proofs.lemmas.Option.{slice_get_cases}
use Rattle.std.specs.List.{sum_by, slice_range}
use Rattle.ps_lexer.specs.declared.token.Form.{Form}
use Rattle.ps_lexer.specs.declared.token.Form.TheVariants as form
use Rattle.ps_lexer.specs.declared.token.Token.{Token}
use Rattle.ps_lsp_text.specs.Calls.{IsBracketBefore, IsOpen, closed, closing, is_bracket, is_semicolon, opened, opening}
use Rattle.ps_lsp_text.specs.Looking.{form_in}
use Rattle.ps_lsp_text.proofs.AtTokens.{form_past}

-- from a token on no bracket is open before another one, and as many more close as this depth says, in one statement
pub record NoneOpen (tokens : List Token) (at i depth : ℕ) : Type 0 where
  pub within : i ≤ length tokens
  pub before : i ≤ at
  pub few : depth + i ≤ at
  pub depth_is : depth + opened tokens i at ≡ closed tokens i at
  pub none : (k : ℕ) → i ≤ k → IsOpen tokens at k → ⊥
  pub one_statement : (k : ℕ) → i ≤ k → k < at → is_semicolon (form_in tokens k) ≡ true → ⊥

-- a sum over tokens from one on is that of the token and of those after it
sum_here : (f : Option Form → ℕ) (tokens : List Token) (at i : ℕ) → i < length tokens → i < at →
    sum_by (λ (t : Token). f (Some t.form)) (slice_range tokens i at) ≡ f (form_in tokens i) + sum_by (λ (t : Token). f (Some t.form)) (slice_range tokens (i + 1) at)
sum_here f tokens at i within before = elim (slice_get_cases tokens i).1 [
  | inl there ↦
      let t = there.0 in
      let g : Token → ℕ = λ (x : Token). f (Some x.form) in
      let count : at - i ≡ suc (at - (i + 1)) = omega arith in
      let first : drop i tokens ≡ t ∷ drop (i + 1) tokens = drop_more tokens i t within ∙ ap (λ (x : Token). x ∷ drop (i + 1) tokens) there.3 in
      let form_is : f (form_in tokens i) ≡ g t = ap (λ (o : Option Token). f (option_map (λ (x : Token). x.form) o)) there.2 in
      ap (λ (n : ℕ). sum_by g (take n (drop i tokens))) count ∙ ap (λ (l : List Token). sum_by g (take (suc (at - (i + 1))) l)) first
      ∙ sum_by-cons g t (take (at - (i + 1)) (drop (i + 1) tokens)) ∙ ap (λ (n : ℕ). n + sum_by g (slice_range tokens (i + 1) at)) (sym form_is)
  | inr past ↦ absurd (let size = past.0 in omega arith)
]

take_nil : (n : ℕ) (l : List Token) → l ≡ [] → take n l ≡ []
take_nil zero l none = refl
take_nil (suc n) l none = ap (take (suc n)) none

-- past the last token there is nothing
sum_past : (f : Option Form → ℕ) (tokens : List Token) (at i : ℕ) → i ≡ min at (length tokens) → sum_by (λ (t : Token). f (Some t.form)) (slice_range tokens i at) ≡ 0
sum_past f tokens at i is = ap (λ (l : List Token). sum_by (λ (t : Token). f (Some t.form)) l) (empty (cases_lt i at))
  where
    empty : i < at ⊎ at ≤ i → slice_range tokens i at ≡ []
    empty (inl before) =
        let all : length tokens ≤ i = omega arith in
        take_nil (at - i) (drop i tokens) (drop_all i tokens all)
    empty (inr late) = let none : at - i ≡ 0 = omega arith in ap (λ (n : ℕ). take n (drop i tokens)) none

-- one bracket is open before a token
pub one_bracket : (tokens : List Token) (at first second : ℕ) → IsBracketBefore tokens at first → IsBracketBefore tokens at second → first ≡ second
one_bracket tokens at first second one other = elim (cases_lt first second) [
  | inl before ↦ absurd (one.last second before other.is_open)
  | inr late ↦ elim (cases_lt second first) [
    | inl before ↦ absurd (other.last first before one.is_open)
    | inr same ↦ omega arith
  ]
]

module _ (tokens : List Token) (at : ℕ) where
  -- before all there is none
  pub none_yet : (i : ℕ) → i ≡ min at (length tokens) → NoneOpen tokens at i 0
  none_yet i is = record {
    within = omega arith;
    before = omega arith;
    few = omega arith;
    depth_is = let opens = sum_past opening tokens at i is in let closes = sum_past closing tokens at i is in omega arith;
    none = λ k late bracket. let below = bracket.before in nothing k late bracket.is below;
    one_statement = λ k late below semicolon. let past : length tokens ≤ k = omega arith in let none = ap is_semicolon (form_past tokens k past) in absurd (cc);
  }
    where
      nothing : (k : ℕ) → i ≤ k → is_bracket (form_in tokens k) ≡ true → k < at → ⊥
      nothing k late bracket below = let past : length tokens ≤ k = omega arith in let none = ap is_bracket (form_past tokens k past) in absurd (cc)

  module _ (i depth : ℕ) (known : NoneOpen tokens at (i + 1) depth) where
    opens_here : opened tokens i at ≡ opening (form_in tokens i) + opened tokens (i + 1) at
    opens_here = let within = known.within in let before = known.before in sum_here opening tokens at i (omega arith) (omega arith)

    closes_here : closed tokens i at ≡ closing (form_in tokens i) + closed tokens (i + 1) at
    closes_here = let within = known.within in let before = known.before in sum_here closing tokens at i (omega arith) (omega arith)

    -- a semicolon ends the search
    pub ended : is_semicolon (form_in tokens i) ≡ true → (bracket : ℕ) → IsBracketBefore tokens at bracket → ⊥
    ended semicolon bracket is = elim (cases_lt bracket i) [
      | inl before ↦ let below = known.before in is.one_statement i before (omega arith) semicolon
      | inr late ↦ elim (cases_lt i bracket) [
        | inl after ↦ known.none bracket (omega arith) is.is_open
        | inr same ↦
            let here : bracket ≡ i = omega arith in
            let both = ap (λ (k : ℕ). is_bracket (form_in tokens k)) (sym here) ∙ is.is_open.is in
            never (form_in tokens i) semicolon both
      ]
    ]
      where
        never : (f : Option Form) → is_semicolon f ≡ true → is_bracket f ≡ true → ⊥
        never None a b = true≢false (sym a)
        never (Some form.Semicolon) a b = true≢false (sym b)
        never (Some form.LeftBracket) a b = true≢false (sym a)
        never (Some form.RightBracket) a b = true≢false (sym a)
        never (Some (form.Word word)) a b = true≢false (sym a)
        never (Some (form.Name name)) a b = true≢false (sym a)
        never (Some (form.Time time)) a b = true≢false (sym a)
        never (Some form.Assign) a b = true≢false (sym a)
        never (Some form.Colon) a b = true≢false (sym a)
        never (Some form.Comma) a b = true≢false (sym a)
        never (Some form.Dot) a b = true≢false (sym a)

    -- a bracket at depth 0 is the one
    pub found : depth ≡ 0 → is_bracket (form_in tokens i) ≡ true → IsBracketBefore tokens at i
    found none_left bracket = record {
      is_open = record {
        before = let before = known.before in omega arith;
        is = bracket;
        balanced = let balance = known.depth_is in omega arith;
      };
      last = λ k after is. known.none k (omega arith) is;
      one_statement = λ k after below semicolon. known.one_statement k (omega arith) below semicolon;
    }

    -- every other token leaves the search with a depth
    pub one_before : is_semicolon (form_in tokens i) ≡ false → (depth ≡ 0 → is_bracket (form_in tokens i) ≡ false) → (after : ℕ) →
        after ≡ min (depth + closing (form_in tokens i)) 18446744073709551615 - opening (form_in tokens i) →
        at ≤ 18446744073709551615 → NoneOpen tokens at i after
    one_before no_semicolon no_bracket after is fits =
        let few = known.few in
        let within = known.within in
        let before = known.before in
        let sum = depth_next in
        record {
          within = omega arith;
          before = omega arith;
          few = sum.1;
          depth_is = let opens = opens_here in let closes = closes_here in let balance = known.depth_is in let next = sum.0 in omega arith;
          none = λ k late is. elim (cases_lt i k) [
            | inl more ↦ known.none k (omega arith) is
            | inr same ↦ let here : k ≡ i = omega arith in
                let bracket = ap (λ (n : ℕ). is_bracket (form_in tokens n)) (sym here) ∙ is.is in
                let balanced = ap (λ (n : ℕ). opened tokens (n + 1) at) (sym here) ∙ is.balanced ∙ ap (λ (n : ℕ). closed tokens (n + 1) at) here in
                let none_left : depth ≡ 0 = let balance = known.depth_is in omega arith in
                true≢false (sym bracket ∙ no_bracket none_left)
          ];
          one_statement = λ k late below semicolon. elim (cases_lt i k) [
            | inl more ↦ known.one_statement k (omega arith) below semicolon
            | inr same ↦ let here : k ≡ i = omega arith in true≢false (sym semicolon ∙ ap (λ (n : ℕ). is_semicolon (form_in tokens n)) here ∙ no_semicolon)
          ];
        }
      where
        by : (f : Option Form) → (depth ≡ 0 → is_bracket f ≡ false) → after ≡ min (depth + closing f) 18446744073709551615 - opening f →
            (after + opening f ≡ depth + closing f) × (after + i ≤ at)
        by None none e = let few = known.few in (omega arith, omega arith)
        by (Some form.LeftBracket) none e =
            let few = known.few in
            let some : 1 ≤ depth = elim (cases_lt 0 depth) [
              | inl more ↦ omega arith
              | inr nothing ↦ let zero : depth ≡ 0 = omega arith in absurd (true≢false (none zero))
            ] in
            (omega arith, omega arith)
        by (Some form.RightBracket) none e = let few = known.few in (omega arith, omega arith)
        by (Some form.Semicolon) none e = let few = known.few in (omega arith, omega arith)
        by (Some (form.Word word)) none e = let few = known.few in (omega arith, omega arith)
        by (Some (form.Name name)) none e = let few = known.few in (omega arith, omega arith)
        by (Some (form.Time time)) none e = let few = known.few in (omega arith, omega arith)
        by (Some form.Assign) none e = let few = known.few in (omega arith, omega arith)
        by (Some form.Colon) none e = let few = known.few in (omega arith, omega arith)
        by (Some form.Comma) none e = let few = known.few in (omega arith, omega arith)
        by (Some form.Dot) none e = let few = known.few in (omega arith, omega arith)

        depth_next : (after + opening (form_in tokens i) ≡ depth + closing (form_in tokens i)) × (after + i ≤ at)
        depth_next = by (form_in tokens i) no_bracket is
