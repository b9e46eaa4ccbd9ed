-- What is said of words that are not taken.
use Rattle.std.proofs.Common.{◌≡◌, ℕ, suc, ◌+◌, ◌-◌, ◌<◌, ◌≤◌, ◌∙◌, ◌&&◌, Bool, true, false, cond, eqb, ltb, not, List, [], ◌∷◌, ◌++◌, Option, None, ap, append_assoc, arith, codes, flat_map, length, map, slice_get, slice_index_or, sym}
use Rattle.std.proofs.lemmas.Bool.{le-ltb, lt-ltb}
use Rattle.std.proofs.lemmas.List.{append-nil}
use Rattle.std.proofs.lemmas.Option.{unwrap_or-slice_get}
use Rattle.std.specs.List.{range_with_len}
use Rattle.std.specs.Prelude.{unwrap_or}
use Rattle.std.specs.Str.{bytes_eq}
use Rattle.ps_text.specs.Quoted.{line_of}
use Rattle.ps_findings.specs.Usage.{command_in, count_taken, count_text, in_marks, is_load, nearest, row_among, rows_from, slips, taken_at, word_of, words_in}

-- no word is an empty one
pub no_word : (line : List ℕ) (n : ℕ) (found : Option (List ℕ)) → found ≡ slice_get (words_in line) n → found ≡ None → [] ≡ word_of line n
no_word line n found is none = ap (λ (o : Option (List ℕ)). unwrap_or o []) (sym none ∙ is) ∙ unwrap_or-slice_get (words_in line) n []

-- one row more
pub one_row : (table : List ℕ) (number : ℕ) → number < 20 → rows_from table number ≡ line_of table number ∷ rows_from table (number + 1)
unfolding rows_from
one_row table number within =
    let left : 20 - number ≡ suc (20 - (number + 1)) = omega arith in
    ap (λ (k : ℕ). map (line_of table) (range_with_len number k)) left

-- none
pub no_row : (table : List ℕ) (number : ℕ) → 20 ≤ number → rows_from table number ≡ []
unfolding rows_from
no_row table number past =
    let left : 20 - number ≡ 0 = omega arith in
    ap (λ (k : ℕ). map (line_of table) (range_with_len number k)) left

module _ (table word : List ℕ) (number : ℕ) (within : number < 20) where
  -- this row is the one
  pub row_is : (all : List (List ℕ)) → (not (eqb (length word) 0) && bytes_eq (command_in (line_of table number)) word) ≡ true →
      row_among word (rows_from table number) ≡ row_among word all → line_of table number ≡ row_among word all
  row_is all same so_far =
      sym (ap (row_among word) (one_row table number within)
      ∙ ap (λ (b : Bool). cond b (line_of table number) (row_among word (rows_from table (number + 1)))) same) ∙ so_far

  -- it is not
  pub row_is_not : (all : List (List ℕ)) → (not (eqb (length word) 0) && bytes_eq (command_in (line_of table number)) word) ≡ false →
      row_among word (rows_from table number) ≡ row_among word all → row_among word (rows_from table (number + 1)) ≡ row_among word all
  row_is_not all other so_far =
      sym (ap (row_among word) (one_row table number within)
      ∙ ap (λ (b : Bool). cond b (line_of table number) (row_among word (rows_from table (number + 1)))) other) ∙ so_far

  module _ (least : ℕ) (found all : List ℕ) (so_far : nearest word least found (rows_from table number) ≡ all) where
    -- this row is nearer
    pub is_nearer : (not (eqb (length (command_in (line_of table number))) 0) && ltb (slips word (command_in (line_of table number))) least) ≡ true →
        nearest word (slips word (command_in (line_of table number))) (line_of table number) (rows_from table (number + 1)) ≡ all
    is_nearer near =
        sym (ap (nearest word least found) (one_row table number within)
        ∙ ap (λ (b : Bool). cond b (nearest word (slips word (command_in (line_of table number))) (line_of table number) (rows_from table (number + 1)))
        (nearest word least found (rows_from table (number + 1)))) near) ∙ so_far

    -- it is not
    pub is_farther : (not (eqb (length (command_in (line_of table number))) 0) && ltb (slips word (command_in (line_of table number))) least) ≡ false →
        nearest word least found (rows_from table (number + 1)) ≡ all
    is_farther far =
        sym (ap (nearest word least found) (one_row table number within)
        ∙ ap (λ (b : Bool). cond b (nearest word (slips word (command_in (line_of table number))) (line_of table number) (rows_from table (number + 1)))
        (nearest word least found (rows_from table (number + 1)))) far) ∙ so_far

-- ---- how many words

module _ (row : List ℕ) (words : List (List ℕ)) where
  too_many_text : List ℕ
  too_many_text = in_marks (slice_index_or words (count_taken row) []) ++ codes " is one word too many"

  number_text : List ℕ
  number_text = in_marks (slice_index_or words 0 []) ++ codes " is no number from 1 to 1000, in digits without a zero in front"

  else_number : List ℕ
  else_number = cond (eqb (length words) 1 && not (is_load (slice_index_or words 0 []))) number_text []

  -- too few
  pub too_few : (wanted n : ℕ) → wanted ≡ count_taken row → n ≡ length words → n < wanted → taken_at row (n + 1) ++ codes " is missing" ≡ count_text row words
  unfolding too_many_text number_text else_number
  too_few wanted n takes has few =
      let lacks : length words < count_taken row = omega arith in
      ap (λ (k : ℕ). taken_at row (k + 1) ++ codes " is missing") has
      ∙ sym (ap (λ (b : Bool). cond b (taken_at row (length words + 1) ++ codes " is missing") (cond (ltb (count_taken row) (length words)) too_many_text else_number))
      (lt-ltb (length words) (count_taken row) lacks))

  -- one too many
  pub too_many : (wanted n : ℕ) (word : List ℕ) → wanted ≡ count_taken row → n ≡ length words → wanted < n → word ≡ slice_index_or words wanted [] →
      in_marks word ++ codes " is one word too many" ≡ count_text row words
  unfolding too_many_text number_text else_number
  too_many wanted n word takes has many is =
      let none : count_taken row ≤ length words = omega arith in
      let over : count_taken row < length words = omega arith in
      ap (λ (w : List ℕ). in_marks w ++ codes " is one word too many") (is ∙ ap (λ (k : ℕ). slice_index_or words k []) takes)
      ∙ sym (ap (λ (b : Bool). cond b (taken_at row (length words + 1) ++ codes " is missing") (cond (ltb (count_taken row) (length words)) too_many_text else_number))
      (le-ltb (length words) (count_taken row) none)
      ∙ ap (λ (b : Bool). cond b too_many_text else_number) (lt-ltb (count_taken row) (length words) over))

  -- no number
  pub no_number : (wanted n : ℕ) (word : List ℕ) → wanted ≡ count_taken row → n ≡ length words → wanted ≤ n → n ≤ wanted → n ≡ 1 →
      word ≡ slice_index_or words 0 [] → is_load word ≡ false →
      in_marks word ++ codes " is no number from 1 to 1000, in digits without a zero in front" ≡ count_text row words
  unfolding too_many_text number_text else_number
  no_number wanted n word takes has enough few one is no_load =
      let none : count_taken row ≤ length words = omega arith in
      let not_over : length words ≤ count_taken row = omega arith in
      let alone : length words ≡ 1 = omega arith in
      ap (λ (w : List ℕ). in_marks w ++ codes " is no number from 1 to 1000, in digits without a zero in front") is
      ∙ sym (ap (λ (b : Bool). cond b (taken_at row (length words + 1) ++ codes " is missing") (cond (ltb (count_taken row) (length words)) too_many_text else_number))
      (le-ltb (length words) (count_taken row) none)
      ∙ ap (λ (b : Bool). cond b too_many_text else_number) (le-ltb (count_taken row) (length words) not_over)
      ∙ (λ i. cond (eqb (alone i) 1 && not (is_load (slice_index_or words 0 []))) number_text [])
      ∙ ap (λ (b : Bool). cond (not b) number_text []) (sym (ap is_load is) ∙ no_load))

-- ---- the words of a row

-- one word more
pub one_place : (f : ℕ → List ℕ) (place : ℕ) (more all : List ℕ) → place < 10 → more ++ flat_map f (range_with_len place (10 - place)) ≡ all →
    (more ++ f place) ++ flat_map f (range_with_len (place + 1) (10 - (place + 1))) ≡ all
one_place f place more all within so_far =
    let left : 10 - place ≡ suc (10 - (place + 1)) = omega arith in
    append_assoc more (f place) (flat_map f (range_with_len (place + 1) (10 - (place + 1))))
    ∙ sym (ap (λ (k : ℕ). more ++ flat_map f (range_with_len place k)) left) ∙ so_far

-- no word more
pub no_place : (f : ℕ → List ℕ) (place : ℕ) (more all : List ℕ) → 10 ≤ place → more ++ flat_map f (range_with_len place (10 - place)) ≡ all → more ≡ all
no_place f place more all past so_far =
    let left : 10 - place ≡ 0 = omega arith in
    sym (ap (λ (k : ℕ). more ++ flat_map f (range_with_len place k)) left ∙ append-nil more) ∙ so_far
