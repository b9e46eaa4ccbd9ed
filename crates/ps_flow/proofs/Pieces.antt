-- Where a text is cut at a byte.
use Rattle.std.proofs.Common.{◌≡◌, ℕ, ◌<◌, ◌^◌, false, List, [], ◌∷◌, ◌++◌, length, get_or, ap, ◌∙◌, refl, arith, eqb}
use Rattle.std.specs.Prelude.{decimal, codes}
use Rattle.std.specs.List.{onto_first}
use Rattle.std.proofs.lemmas.Bool.{ne_eqb, cond-false}
use Rattle.std.proofs.lemmas.Fmt.{decimal_is_IsNumeral}
use Rattle.std.proofs.lemmas.List.{get_or_default}
use Rattle.std.proofs.lemmas.List.Elements.{All-head, All-tail, All-from_recursion}
use Rattle.std.proofs.lemmas.List.Splits.{slice_split_at, slice_split_none}
use Rattle.std.proofs.lemmas.Str.Parse.{digit_at}
use Rattle.ps_flow.specs.declared.certificate.LineRule.{LineRule}
use Rattle.ps_flow.specs.declared.certificate.LineRule.TheVariants.{Src, And, Or}
use Rattle.ps_flow.specs.declared.text.TheConstants.{SPACE, LINE_FEED}
use Rattle.ps_flow.specs.Written.{rule_word}
use Rattle.ps_flow.specs.Read.{lines_of}
use Rattle.ps_flow.specs.Words.{HasNo, words_in}

-- ---- bytes that do not stand in a text
abbrev pub IsOther : ℕ → ℕ → Type 0
IsOther byte b = eqb b byte ≡ false

pub no_byte_below : (c n : ℕ) → c < 48 → n < 2 ^ 32 → HasNo c (decimal n)
no_byte_below c n low small = λ k d inside.
    let digits = decimal_is_IsNumeral n (omega arith) in
    let here = digit_at (decimal n) k digits.0.1 inside in
    let same : get_or (decimal n) k d ≡ get_or (decimal n) k 0 = get_or_default (decimal n) k d 0 inside in
    ne_eqb (get_or (decimal n) k d) c (λ e. absurd (omega arith))

pub no_space_in_rule : (rule : LineRule) → HasNo SPACE (rule_word rule)
no_space_in_rule Src = All-from_recursion (IsOther SPACE) (codes "SRC") (refl, (refl, (refl, tt)))
no_space_in_rule And = All-from_recursion (IsOther SPACE) (codes "AND") (refl, (refl, (refl, tt)))
no_space_in_rule Or = All-from_recursion (IsOther SPACE) (codes "OR") (refl, (refl, tt))

pub no_line_feed_in_rule : (rule : LineRule) → HasNo LINE_FEED (rule_word rule)
no_line_feed_in_rule Src = All-from_recursion (IsOther LINE_FEED) (codes "SRC") (refl, (refl, (refl, tt)))
no_line_feed_in_rule And = All-from_recursion (IsOther LINE_FEED) (codes "AND") (refl, (refl, (refl, tt)))
no_line_feed_in_rule Or = All-from_recursion (IsOther LINE_FEED) (codes "OR") (refl, (refl, tt))

-- ---- words
pub words_split : (line word rest : List ℕ) → line ≡ word ++ SPACE ∷ rest → HasNo SPACE word → words_in line ≡ word ∷ words_in rest
words_split line word rest is free = ap words_in is ∙ slice_split_at (λ b. eqb b SPACE) word SPACE rest free refl

pub one_word : (line : List ℕ) → HasNo SPACE line → words_in line ≡ line ∷ []
one_word line free = slice_split_none (λ b. eqb b SPACE) line free

-- ---- lines
pub lines_split : (text line rest : List ℕ) → text ≡ line ++ LINE_FEED ∷ rest → HasNo LINE_FEED line → lines_of text ≡ line ∷ lines_of rest
lines_split text line rest is free = ap lines_of is ∙ from line free
  where
    from : (line : List ℕ) → HasNo LINE_FEED line → lines_of (line ++ LINE_FEED ∷ rest) ≡ line ∷ lines_of rest
    from [] free = refl
    from (b ∷ bytes) free =
        cond-false (eqb b LINE_FEED) ([] ∷ lines_of (bytes ++ LINE_FEED ∷ rest)) (onto_first b (lines_of (bytes ++ LINE_FEED ∷ rest))) (All-head (IsOther LINE_FEED) b bytes free)
        ∙ ap (onto_first b) (from bytes (All-tail (IsOther LINE_FEED) b bytes free))

pub one_line : (text : List ℕ) → 0 < length text → HasNo LINE_FEED text → lines_of text ≡ text ∷ []
one_line [] some free = absurd (omega arith)
one_line (b ∷ []) some free = cond-false (eqb b LINE_FEED) ([] ∷ []) ((b ∷ []) ∷ []) (All-head (IsOther LINE_FEED) b [] free)
one_line (b ∷ c ∷ bytes) some free =
    cond-false (eqb b LINE_FEED) ([] ∷ lines_of (c ∷ bytes)) (onto_first b (lines_of (c ∷ bytes))) (All-head (IsOther LINE_FEED) b (c ∷ bytes) free)
    ∙ ap (onto_first b) (one_line (c ∷ bytes) (omega arith) (All-tail (IsOther LINE_FEED) b (c ∷ bytes) free))
