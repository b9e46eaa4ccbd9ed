-- The lines of a text, and the text of lines.
use Rattle.std.proofs.Common.{◌≡◌, ℕ, ◌<◌, ◌^◌, ◌⊎◌, inl, inr, List, [], ◌∷◌, ◌++◌, length, sym, ap, ◌∙◌, refl, subst, arith, append_assoc, append-nil, map, eqb, ⊎_elim, length-append}
use Rattle.std.specs.Prelude.{decimal, All}
use Rattle.std.specs.List.{flat_map, onto_first}
use Rattle.std.proofs.lemmas.Bool.{cases_Bool, cond-true, cond-false, eqb-true}
use Rattle.std.proofs.lemmas.List.{same_from_push}
use Rattle.std.proofs.lemmas.List.Elements.{All-append, All-cons, All-head, All-tail}
use Rattle.std.proofs.lemmas.Fmt.{decimal_nonempty}
use Rattle.ps_flow.specs.declared.certificate.CertLine.{CertLine}
use Rattle.ps_flow.specs.declared.text.TheConstants.{SPACE, LINE_FEED}
use Rattle.ps_flow.specs.Written.{rule_word, line_text, written}
use Rattle.ps_flow.specs.Lines.{IsNumbered}
use Rattle.ps_flow.specs.Read.{IsTextOf, IsFirstOther, lines_of}
use Rattle.ps_flow.specs.Words.{HasNo}
use Rattle.ps_flow.proofs.Pieces.{IsOther, no_byte_below, no_line_feed_in_rule, lines_split, one_line}
use Rattle.ps_flow.proofs.Spelling.{IsSmall, same_line, made_of_parts, line_begun, premises_text}

-- lines, each with its line feed
abbrev pub with_line_feeds : List (List ℕ) → List ℕ
with_line_feeds lines = flat_map (λ line. line ++ LINE_FEED ∷ []) lines

with_line_feeds-map : (lines : List CertLine) → with_line_feeds (map line_text lines) ≡ written lines
with_line_feeds-map [] = refl
with_line_feeds-map (l ∷ lines) = ap (λ z. (line_text l ++ LINE_FEED ∷ []) ++ z) (with_line_feeds-map lines)

-- ---- a text is that of its lines, the last line feed possibly missing
with_line_feeds-onto_first : (b : ℕ) (lines : List (List ℕ)) → (lines ≡ []) ⊎ (with_line_feeds (onto_first b lines) ≡ b ∷ with_line_feeds lines)
with_line_feeds-onto_first b [] = inl refl
with_line_feeds-onto_first b (line ∷ lines) = inr refl

pub text_of_lines : (text : List ℕ) → (text ≡ with_line_feeds (lines_of text)) ⊎ (text ++ LINE_FEED ∷ [] ≡ with_line_feeds (lines_of text))
text_of_lines [] = inl refl
text_of_lines (b ∷ bytes) =
    ⊎_elim
    (λ feed.
    let same : b ≡ LINE_FEED = eqb-true b LINE_FEED feed in
    let cut : lines_of (b ∷ bytes) ≡ [] ∷ lines_of bytes = cond-true (eqb b LINE_FEED) ([] ∷ lines_of bytes) (onto_first b (lines_of bytes)) feed in
    let whole : with_line_feeds (lines_of (b ∷ bytes)) ≡ b ∷ with_line_feeds (lines_of bytes) = ap with_line_feeds cut ∙ ap (λ c. c ∷ with_line_feeds (lines_of bytes)) (sym same) in
    one_more_byte bytes b whole (text_of_lines bytes))
    (λ other.
    let cut : lines_of (b ∷ bytes) ≡ onto_first b (lines_of bytes) = cond-false (eqb b LINE_FEED) ([] ∷ lines_of bytes) (onto_first b (lines_of bytes)) other in
    ⊎_elim
    (λ none. alone bytes b none cut (text_of_lines bytes))
    (λ more. one_more_byte bytes b (ap with_line_feeds cut ∙ more) (text_of_lines bytes))
    (with_line_feeds-onto_first b (lines_of bytes)))
    (cases_Bool (eqb b LINE_FEED))
  where
    one_more_byte : (bytes : List ℕ) (b : ℕ) → with_line_feeds (lines_of (b ∷ bytes)) ≡ b ∷ with_line_feeds (lines_of bytes) →
        (bytes ≡ with_line_feeds (lines_of bytes)) ⊎ (bytes ++ LINE_FEED ∷ [] ≡ with_line_feeds (lines_of bytes)) →
        (b ∷ bytes ≡ with_line_feeds (lines_of (b ∷ bytes))) ⊎ ((b ∷ bytes) ++ LINE_FEED ∷ [] ≡ with_line_feeds (lines_of (b ∷ bytes)))
    one_more_byte bytes b whole (inl e) = inl (ap (λ z. b ∷ z) e ∙ sym whole)
    one_more_byte bytes b whole (inr e) = inr (ap (λ z. b ∷ z) e ∙ sym whole)

    alone : (bytes : List ℕ) (b : ℕ) → lines_of bytes ≡ [] → lines_of (b ∷ bytes) ≡ onto_first b (lines_of bytes) →
        (bytes ≡ with_line_feeds (lines_of bytes)) ⊎ (bytes ++ LINE_FEED ∷ [] ≡ with_line_feeds (lines_of bytes)) →
        (b ∷ bytes ≡ with_line_feeds (lines_of (b ∷ bytes))) ⊎ ((b ∷ bytes) ++ LINE_FEED ∷ [] ≡ with_line_feeds (lines_of (b ∷ bytes)))
    alone bytes b none cut (inl e) =
        let empty : bytes ≡ [] = e ∙ ap with_line_feeds none in
        inr (ap (λ z. (b ∷ z) ++ LINE_FEED ∷ []) empty ∙ sym (ap with_line_feeds cut ∙ ap (λ ls. with_line_feeds (onto_first b ls)) none))
    alone bytes b none cut (inr e) =
        let count : length (bytes ++ LINE_FEED ∷ []) ≡ 0 = ap length (e ∙ ap with_line_feeds none) in
        let long = length-append bytes (LINE_FEED ∷ []) in
        absurd (omega arith)

pub text_of_cut : (text : List ℕ) (lines : List CertLine) → lines_of text ≡ map line_text lines → IsTextOf lines text
text_of_cut text lines cut =
    let same : with_line_feeds (lines_of text) ≡ written lines = ap with_line_feeds cut ∙ with_line_feeds-map lines in
    ⊎_elim (λ e. inl (e ∙ same)) (λ e. inr (e ∙ same)) (text_of_lines text)

-- ---- and lines of the form are those of their text
no_feed_in_premises : (premises : List ℕ) → All (λ p. p < 2 ^ 32) premises → HasNo LINE_FEED (premises_text premises)
no_feed_in_premises [] small = λ k d h. absurd (omega arith)
no_feed_in_premises (p ∷ premises) small =
    All-cons (IsOther LINE_FEED) SPACE (decimal p ++ premises_text premises) refl
    (All-append (IsOther LINE_FEED) (decimal p) (premises_text premises) (no_byte_below LINE_FEED p (omega arith) (All-head IsSmall p premises small)) (no_feed_in_premises premises (All-tail IsSmall p premises small)))

pub no_feed_in_line : (l : CertLine) → IsNumbered l → HasNo LINE_FEED (line_text l)
no_feed_in_line l numbered =
    subst (HasNo LINE_FEED) (line_begun [] l)
    (All-append (IsOther LINE_FEED) ((decimal l.node ++ SPACE ∷ []) ++ rule_word l.rule) (premises_text l.premises)
    (All-append (IsOther LINE_FEED) (decimal l.node ++ SPACE ∷ []) (rule_word l.rule)
    (All-append (IsOther LINE_FEED) (decimal l.node) (SPACE ∷ []) (no_byte_below LINE_FEED l.node (omega arith) numbered.node) (All-cons (IsOther LINE_FEED) SPACE [] refl (λ k d h. absurd (omega arith))))
    (no_line_feed_in_rule l.rule))
    (no_feed_in_premises l.premises numbered.premises))

pub line_has_bytes : (l : CertLine) → IsNumbered l → 0 < length (line_text l)
line_has_bytes l numbered =
    let small = numbered.node in
    let some = decimal_nonempty l.node (omega arith) in
    let more = ap length (line_begun [] l) in
    let a = length-append ((decimal l.node ++ SPACE ∷ []) ++ rule_word l.rule) (premises_text l.premises) in
    let b = length-append (decimal l.node ++ SPACE ∷ []) (rule_word l.rule) in
    let c = length-append (decimal l.node) (SPACE ∷ []) in
    omega arith

lines_of-written : (lines : List CertLine) → All IsNumbered lines → lines_of (written lines) ≡ map line_text lines
lines_of-written [] all = refl
lines_of-written (l ∷ lines) all =
    lines_split _ (line_text l) (written lines) (append_assoc (line_text l) (LINE_FEED ∷ []) (written lines)) (no_feed_in_line l (All-head IsNumbered l lines all))
    ∙ ap (λ ls. line_text l ∷ ls) (lines_of-written lines (All-tail IsNumbered l lines all))

-- a text that is not empty ends with a line feed
ends_with_feed : (l : CertLine) (lines : List CertLine) → (text : List ℕ) × (written (l ∷ lines) ≡ text ++ LINE_FEED ∷ [])
ends_with_feed l [] = (line_text l, append-nil (line_text l ++ LINE_FEED ∷ []))
ends_with_feed l (m ∷ lines) =
    let rest = ends_with_feed m lines in
    ((line_text l ++ LINE_FEED ∷ []) ++ rest.0, ap (λ z. (line_text l ++ LINE_FEED ∷ []) ++ z) rest.1 ∙ sym (append_assoc (line_text l ++ LINE_FEED ∷ []) rest.0 (LINE_FEED ∷ [])))

lines_of_open : (lines : List CertLine) (text : List ℕ) → All IsNumbered lines → text ++ LINE_FEED ∷ [] ≡ written lines → lines_of text ≡ map line_text lines
lines_of_open [] text all e = let long = length-append text (LINE_FEED ∷ []) in let none = ap length e in absurd (omega arith)
lines_of_open (l ∷ []) text all e =
    let same : text ≡ line_text l = (same_from_push text (line_text l) LINE_FEED LINE_FEED (e ∙ append-nil (line_text l ++ LINE_FEED ∷ []))).0 in
    let here = All-head IsNumbered l [] all in
    ap lines_of same ∙ one_line (line_text l) (line_has_bytes l here) (no_feed_in_line l here)
lines_of_open (l ∷ m ∷ lines) text all e =
    let rest = ends_with_feed m lines in
    let whole : text ++ LINE_FEED ∷ [] ≡ (line_text l ++ LINE_FEED ∷ rest.0) ++ LINE_FEED ∷ [] =
    e ∙ ap (λ z. (line_text l ++ LINE_FEED ∷ []) ++ z) rest.1
    ∙ append_assoc (line_text l) (LINE_FEED ∷ []) (rest.0 ++ LINE_FEED ∷ [])
    ∙ sym (append_assoc (line_text l) (LINE_FEED ∷ rest.0) (LINE_FEED ∷ [])) in
    let same : text ≡ line_text l ++ LINE_FEED ∷ rest.0 = (same_from_push text (line_text l ++ LINE_FEED ∷ rest.0) LINE_FEED LINE_FEED whole).0 in
    lines_split text (line_text l) rest.0 same (no_feed_in_line l (All-head IsNumbered l (m ∷ lines) all))
    ∙ ap (λ ls. line_text l ∷ ls) (lines_of_open (m ∷ lines) rest.0 (All-tail IsNumbered l (m ∷ lines) all) (sym rest.1))

pub lines_of_text : (lines : List CertLine) (text : List ℕ) → All IsNumbered lines → IsTextOf lines text → lines_of text ≡ map line_text lines
lines_of_text lines text all (inl e) = ap lines_of e ∙ lines_of-written lines all
lines_of_text lines text all (inr e) = lines_of_open lines text all e

-- ---- laws
pub one_certificate : (a b : List CertLine) → All IsNumbered a → All IsNumbered b → map line_text a ≡ map line_text b → a ≡ b
one_certificate [] [] na nb e = refl
one_certificate [] (y ∷ ys) na nb e = cc
one_certificate (x ∷ xs) [] na nb e = cc
one_certificate (x ∷ xs) (y ∷ ys) na nb e =
    let heads : line_text x ≡ line_text y = cc in
    let tails : map line_text xs ≡ map line_text ys = cc in
    let one : x ≡ y = same_line x y (All-head IsNumbered x xs na) (All-head IsNumbered y ys nb) heads in
    let rest : xs ≡ ys = one_certificate xs ys (All-tail IsNumbered x xs na) (All-tail IsNumbered y ys nb) tails in
    cc

pub no_other_line : (lines : List CertLine) (text : List ℕ) (n : ℕ) → All IsNumbered lines → IsTextOf lines text → IsFirstOther text n → ⊥
no_other_line lines text n all is first =
    let found = made_of_parts line_text IsNumbered lines (map line_text first.before) first.other first.behind all (sym (lines_of_text lines text all is) ∙ first.cut) in
    first.form found.0 found.1 found.2
