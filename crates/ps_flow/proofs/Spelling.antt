-- The words of a line, and the one line that has them.
use Rattle.std.proofs.Common.{◌≡◌, ℕ, ◌<◌, ◌^◌, List, [], ◌∷◌, ◌++◌, sym, ap, ◌∙◌, refl, arith, append_assoc, append-nil, map, eqb, get_or}
use Rattle.std.specs.Prelude.{decimal, All}
use Rattle.std.specs.List.{join_with_byte, flat_map}
use Rattle.std.proofs.lemmas.Bool.{false≢true}
use Rattle.std.proofs.lemmas.Fmt.{decimal_injective}
use Rattle.std.proofs.lemmas.List.Elements.{All-head, All-tail}
use Rattle.std.proofs.lemmas.List.Splits.{join_with_byte-slice_split}
use Rattle.ps_flow.specs.declared.certificate.CertLine.{CertLine}
use Rattle.ps_flow.specs.declared.certificate.LineRule.{LineRule}
use Rattle.ps_flow.specs.declared.certificate.LineRule.TheVariants.{Src, And, Or}
use Rattle.ps_flow.specs.declared.text.TheConstants.{SPACE}
use Rattle.ps_flow.specs.Written.{rule_word, words_of, line_text}
use Rattle.ps_flow.specs.Lines.{IsNumbered}
use Rattle.ps_flow.specs.Words.{HasNo, words_in}
use Rattle.ps_flow.proofs.Pieces.{no_byte_below, no_space_in_rule, words_split, one_word}

-- ---- the text of a line, written from left to right
abbrev pub premises_text : List ℕ → List ℕ
premises_text premises = flat_map (λ p. SPACE ∷ decimal p) premises

join_of_premises : (word : List ℕ) (premises : List ℕ) → join_with_byte SPACE (word ∷ map decimal premises) ≡ word ++ premises_text premises
join_of_premises word [] = sym (append-nil word)
join_of_premises word (p ∷ premises) = ap (λ z. word ++ (SPACE ∷ z)) (join_of_premises (decimal p) premises)

-- what is written once the node, a space and the rule are
pub line_begun : (old : List ℕ) (l : CertLine) → (((old ++ decimal l.node) ++ SPACE ∷ []) ++ rule_word l.rule) ++ premises_text l.premises ≡ old ++ line_text l
line_begun old l =
    append_assoc ((old ++ decimal l.node) ++ SPACE ∷ []) (rule_word l.rule) (premises_text l.premises)
    ∙ append_assoc (old ++ decimal l.node) (SPACE ∷ []) (rule_word l.rule ++ premises_text l.premises)
    ∙ append_assoc old (decimal l.node) (SPACE ∷ (rule_word l.rule ++ premises_text l.premises))
    ∙ ap (λ z. old ++ (decimal l.node ++ (SPACE ∷ z))) (sym (join_of_premises (rule_word l.rule) l.premises))

abbrev pub IsSmall : ℕ → Type 0
IsSmall p = p < 2 ^ 32

-- ---- a line has its words, and words have one line
no_space : (word : List ℕ) (premises : List ℕ) → HasNo SPACE word → All (λ p. p < 2 ^ 32) premises →
    words_in (join_with_byte SPACE (word ∷ map decimal premises)) ≡ word ∷ map decimal premises
no_space word [] free small = one_word word free
no_space word (p ∷ premises) free small =
    words_split _ word (join_with_byte SPACE (decimal p ∷ map decimal premises)) refl free
    ∙ ap (λ ws. word ∷ ws) (no_space (decimal p) premises (no_byte_below SPACE p (omega arith) (All-head IsSmall p premises small)) (All-tail IsSmall p premises small))

pub words_in-line_text : (l : CertLine) → IsNumbered l → words_in (line_text l) ≡ words_of l
words_in-line_text l numbered =
    words_split _ (decimal l.node) (join_with_byte SPACE (rule_word l.rule ∷ map decimal l.premises)) refl (no_byte_below SPACE l.node (omega arith) numbered.node)
    ∙ ap (λ ws. decimal l.node ∷ ws) (no_space (rule_word l.rule) l.premises (no_space_in_rule l.rule) numbered.premises)

pub line_of_words : (line : List ℕ) (l : CertLine) → words_in line ≡ words_of l → line ≡ line_text l
line_of_words line l is = sym (join_with_byte-slice_split SPACE line) ∙ ap (join_with_byte SPACE) is

-- the first word of a line is its node, and the others say its rule and its premises
pub first_of_line : (line word : List ℕ) (rest : List (List ℕ)) (l : CertLine) → IsNumbered l → words_in line ≡ word ∷ rest → line ≡ line_text l →
    (word ≡ decimal l.node) × (rest ≡ rule_word l.rule ∷ map decimal l.premises)
first_of_line line word rest l numbered split is =
    let words : word ∷ rest ≡ words_of l = sym split ∙ ap words_in is ∙ words_in-line_text l numbered in
    let first : word ≡ decimal l.node = cc in
    let more : rest ≡ rule_word l.rule ∷ map decimal l.premises = cc in
    (first, more)

-- ---- no two lines have one text
pub same_rule : (a b : LineRule) → rule_word a ≡ rule_word b → a ≡ b
same_rule Src Src e = refl
same_rule Src And e = absurd (false≢true (ap (λ w. eqb (get_or w 0 0) 65) e))
same_rule Src Or e = absurd (false≢true (ap (λ w. eqb (get_or w 0 0) 79) e))
same_rule And Src e = absurd (false≢true (ap (λ w. eqb (get_or w 0 0) 83) e))
same_rule And And e = refl
same_rule And Or e = absurd (false≢true (ap (λ w. eqb (get_or w 0 0) 79) e))
same_rule Or Src e = absurd (false≢true (ap (λ w. eqb (get_or w 0 0) 83) e))
same_rule Or And e = absurd (false≢true (ap (λ w. eqb (get_or w 0 0) 65) e))
same_rule Or Or e = refl

same_premises : (ps qs : List ℕ) → All (λ p. p < 2 ^ 32) ps → All (λ p. p < 2 ^ 32) qs → map decimal ps ≡ map decimal qs → ps ≡ qs
same_premises [] [] sp sq e = refl
same_premises [] (q ∷ qs) sp sq e = cc
same_premises (p ∷ ps) [] sp sq e = cc
same_premises (p ∷ ps) (q ∷ qs) sp sq e =
    let heads : decimal p ≡ decimal q = cc in
    let tails : map decimal ps ≡ map decimal qs = cc in
    let small : p < 2 ^ 32 = All-head IsSmall p ps sp in
    let less : q < 2 ^ 32 = All-head IsSmall q qs sq in
    let one : p ≡ q = decimal_injective p q (omega arith) (omega arith) heads in
    let rest : ps ≡ qs = same_premises ps qs (All-tail IsSmall p ps sp) (All-tail IsSmall q qs sq) tails in
    cc

abbrev line_with : ℕ → LineRule → List ℕ → CertLine
line_with n r ps = record { node = n; rule = r; premises = ps }

pub same_line : (a b : CertLine) → IsNumbered a → IsNumbered b → line_text a ≡ line_text b → a ≡ b
same_line a b na nb e =
    let words : words_of a ≡ words_of b = sym (words_in-line_text a na) ∙ ap words_in e ∙ words_in-line_text b nb in
    let heads : decimal a.node ≡ decimal b.node = cc in
    let rules : rule_word a.rule ≡ rule_word b.rule = cc in
    let rest : map decimal a.premises ≡ map decimal b.premises = cc in
    let small = na.node in
    let less = nb.node in
    let node : a.node ≡ b.node = decimal_injective a.node b.node (omega arith) (omega arith) heads in
    let rule : a.rule ≡ b.rule = same_rule a.rule b.rule rules in
    let premises : a.premises ≡ b.premises = same_premises a.premises b.premises na.premises nb.premises rest in
    ap (λ n. line_with n a.rule a.premises) node ∙ ap (λ r. line_with b.node r a.premises) rule ∙ ap (λ ps. line_with b.node b.rule ps) premises

-- ---- the first place where a list is not made of such parts
pub made_of_parts : {X Y : Type 0} (f : X → Y) (P : X → Type 0) (xs : List X) (before : List Y) (other : Y) (behind : List Y) →
    All P xs → map f xs ≡ before ++ other ∷ behind → (x : X) × P x × (other ≡ f x)
made_of_parts f P [] [] other behind all e = cc
made_of_parts f P [] (y ∷ ys) other behind all e = cc
made_of_parts f P (x ∷ xs) [] other behind all e = (x, All-head P x xs all, cc)
made_of_parts f P (x ∷ xs) (y ∷ ys) other behind all e =
    let rest : map f xs ≡ ys ++ other ∷ behind = cc in
    made_of_parts f P xs ys other behind (All-tail P x xs all) rest
