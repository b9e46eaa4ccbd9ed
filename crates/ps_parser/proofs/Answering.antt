-- What `parse_from` and `parse` answer, from what is read.
use Rattle.std.proofs.Common.{◌≡◌, ◌≢◌, ℕ, ◌+◌, ◌-◌, ◌≤◌, ◌<◌, length, List, [], ◌∷◌, ◌++◌, Some, take, drop, Result, Ok, Err, sym, refl, ap, ◌∙◌, subst, arith, length-append, length-take-le}
use Rattle.std.proofs.lemmas.List.{append-nil, length-map, map-append, take-append-drop, length-drop, take_all}
use Rattle.std.proofs.Math.Seq.{drop-append-add}
use Rattle.std.specs.Result.{IsErrAnd}
use Rattle.ps_base.specs.declared.failing.Fail.{Fail}
use Rattle.ps_base.specs.declared.failing.Fail.TheVariants.{Memory, Refused}
use Rattle.ps_base.specs.declared.failing.Place.{Place}
use Rattle.ps_base.specs.declared.failing.Rule.TheVariants.{P1}
use Rattle.ps_base.specs.declared.limits.TheConstants.{MOST_GROUPS}
use Rattle.ps_lexer.specs.Spelling.{IsTokenList}
use Rattle.ps_lexer.specs.declared.token.Token.{Token}
use Rattle.ps_lexer.specs.declared.token.Tokens.{Tokens}
use Rattle.ps_parser.specs.declared.heads.Heads.{Heads}
use Rattle.ps_parser.specs.declared.heads.Heads.TheVariants.{Program}
use Rattle.ps_parser.specs.declared.sign.Sign.{Sign}
use Rattle.ps_parser.specs.declared.stop.Flaw.{Flaw}
use Rattle.ps_parser.specs.declared.stop.Flaw.TheVariants.{Unexpected, TooDeep}
use Rattle.ps_parser.specs.Names.{IsPlainName}
use Rattle.ps_parser.specs.Symbol.{Symbol, Mark, symbol, symbols, AllProper}
use Rattle.ps_parser.specs.Tree.{SourceTree}
use Rattle.ps_parser.specs.Spelt.{spelt}
use Rattle.ps_parser.specs.Phrase.{next, Reads, IsRuledOut, Refuses}
use Rattle.ps_parser.specs.Grammar.{a_source}
use Rattle.ps_parser.specs.Parses.{rule_of}
use Rattle.ps_parser.specs.Language.{Breaks, place_at, IsRefused, IsSpelt, Answers}
use Rattle.ps_parser.specs.Parsing.{sources, IsRefusedFrom, IsSpeltBetween, AnswersFrom}
use Rattle.ps_parser.proofs.Phrases.{never, ends_between}
use Rattle.ps_parser.proofs.Sentences.{source_law}
use Rattle.ps_parser.proofs.Fitting.{source_in}
use Rattle.ps_parser.proofs.Public.{source_spelt, source_within, symbols_front, refusal_of_left, proper_tokens, proper_drop}

-- what a slice that is open at its end holds
abbrev pub tail_of : List Token → ℕ → List Token
tail_of all k = take (length all - k) (drop k all)

tail_is : (all : List Token) (k : ℕ) → tail_of all k ≡ drop k all
tail_is all k = take_all (length all - k) (drop k all) (omega (arith, length-drop k all))

-- whether a sign stands next, from a number on
pub sign_is_next : (all list : List Token) (k : ℕ) (s sign : Sign) (rest : List Symbol) → all ≡ list → s ≡ sign → symbols (tail_of all k) ≡ Mark s ∷ rest → next (symbols (drop k list)) ≡ Some (Mark sign)
sign_is_next all list k s sign rest e is h = ap (λ l. next (symbols (drop k l))) (sym e) ∙ ap (λ l. next (symbols l)) (sym (tail_is all k)) ∙ ap next h ∙ ap (λ t. Some (Mark t)) is

pub sign_is_not_next : (all list : List Token) (k : ℕ) (s sign : Sign) → all ≡ list → s ≡ sign → next (symbols (tail_of all k)) ≢ Some (Mark s) → next (symbols (drop k list)) ≢ Some (Mark sign)
sign_is_not_next all list k s sign e is h =
    λ n. h (ap (λ l. next (symbols l)) (tail_is all k) ∙ ap (λ l. next (symbols (drop k l))) e ∙ n ∙ ap (λ t. Some (Mark t)) (sym is))

pub from_proper : (all list : List Token) (k : ℕ) → all ≡ list → IsTokenList list → AllProper (symbols (tail_of all k))
from_proper all list k e h = subst (λ l. AllProper (symbols l)) (sym (tail_is all k)) (proper_drop k all (subst (λ l. AllProper (symbols l)) (sym e) (proper_tokens list h.forms)))

rest_is_no_longer : (ts left : List Token) (front : List Symbol) → symbols ts ≡ front ++ symbols left → length left ≤ length ts
rest_is_no_longer ts left front e = omega (arith, ap length e, length-map ts symbol, length-map left symbol, length-append front (symbols left))

pub from_left : (all left : List Token) (k : ℕ) (front : List Symbol) → symbols (tail_of all k) ≡ front ++ symbols left → length left ≤ length all
from_left all left k front e =
    let le = rest_is_no_longer (drop k all) left front (subst (λ l. symbols l ≡ front ++ symbols left) (tail_is all k) e) in
    omega (arith, le, length-drop k all)

pub from_ok : (h : Heads) (all list : List Token) (k : ℕ) (s : SourceTree) (rest : List Token) → all ≡ list → IsTokenList list → k ≤ length list
    → Reads (a_source h) MOST_GROUPS (symbols (tail_of all k)) s (symbols rest) → IsSpeltBetween h list k (length all - length rest) s
from_ok h all list k s rest e tokens le r =
    let inner : Reads (a_source h) MOST_GROUPS (symbols (drop k all)) s (symbols rest) = subst (λ l. Reads (a_source h) MOST_GROUPS (symbols l) s (symbols rest)) (tail_is all k) r in
    let proper = subst (λ l. AllProper (symbols l)) (tail_is all k) (from_proper all list k e tokens) in
    let short = rest_is_no_longer (drop k all) rest ((a_source h).spell s) inner.spelled in
    let n = length all - length rest in
    let count : n - k ≡ length (drop k all) - length rest = omega (arith, length-drop k all, short) in
    subst (λ l. IsSpeltBetween h l k n s) e (record {
      ahead = omega (arith, length-drop k all, short, le, ap length e);
      inside = omega arith;
      spelling = record {
        within = source_within h (symbols (drop k all)) (symbols rest) s proper inner;
        spelling = ap (λ m. symbols (take m (drop k all))) count ∙ symbols_front (drop k all) rest ((a_source h).spell s) inner.spelled ∙ sym (source_spelt h s);
      };
    })

drop_more : (all : List Token) (k m : ℕ) → k ≤ length all → drop m (drop k all) ≡ drop (k + m) all
drop_more all k m le =
    let short : length (take k all) ≡ k = length-take-le k all le in
    sym (drop-append-add (take k all) (drop k all) m) ∙ ap (λ n. drop (n + m) (take k all ++ drop k all)) short ∙ ap (drop (k + m)) (take-append-drop k all)

limit_ruled_out : (flaw : Flaw) → IsRuledOut flaw MOST_GROUPS MOST_GROUPS
limit_ruled_out Unexpected = tt
limit_ruled_out TooDeep = omega arith

-- where a source is refused, none is spelt at the front
no_source_at_front : (h : Heads) (flaw : Flaw) (ts : List Token) (left : List Symbol) → Refuses (a_source h) MOST_GROUPS flaw (symbols ts) left
    → (front rest : List Token) (s : SourceTree) → ts ≡ front ++ rest → IsSpelt (sources h) front s → ⊥
no_source_at_front h flaw ts left r front rest s split spelling =
    let within = spelling.within in
    let e : (a_source h).spell s ++ symbols rest ≡ r.front ++ left =
    ap (λ l. l ++ symbols rest) (sym (source_spelt h s) ∙ sym spelling.spelling) ∙ sym (map-append symbol front rest) ∙ ap symbols (sym split) ∙ r.split in
    r.blocks MOST_GROUPS (limit_ruled_out flaw) s (symbols rest) left (source_in IsPlainName h MOST_GROUPS s within.grammatical within.nested) (never (symbols rest)) e refl

pub from_err : (h : Heads) (flaw : Flaw) (all list : List Token) (k : ℕ) (left : List Token) (end place : Place) → all ≡ list → IsTokenList list → k ≤ length list
    → Refuses (a_source h) MOST_GROUPS flaw (symbols (tail_of all k)) (symbols left) → place ≡ place_at (drop (length all - length left) list) end
    → IsRefusedFrom h (drop k list) end (record { rule = rule_of flaw; place = place })
from_err h flaw all list k left end place e tokens le r at =
    let inner : Refuses (a_source h) MOST_GROUPS flaw (symbols (drop k all)) (symbols left) = subst (λ l. Refuses (a_source h) MOST_GROUPS flaw (symbols l) (symbols left)) (tail_is all k) r in
    let proper = subst (λ l. AllProper (symbols l)) (tail_is all k) (from_proper all list k e tokens) in
    let short = rest_is_no_longer (drop k all) left inner.front inner.split in
    let within : k ≤ length all = omega (arith, le, ap length e) in
    let count : length all - length left ≡ k + (length (drop k all) - length left) = omega (arith, length-drop k all, short, within) in
    let here : drop (length all - length left) list ≡ drop (length (drop k all) - length left) (drop k all) =
    ap (drop (length all - length left)) (sym e) ∙ ap (λ n. drop n all) count ∙ sym (drop_more all k (length (drop k all) - length left) within) in
    subst (λ l. IsRefusedFrom h (drop k l) end (record { rule = rule_of flaw; place = place })) e (record {
      none = no_source_at_front h flaw (drop k all) (symbols left) inner;
      refused = refusal_of_left h flaw (drop k all) left end place proper inner (at ∙ ap (λ l. place_at l end) here);
    })

-- the refusal of what stands after a whole source
breaks_behind : (h : Heads) (s : SourceTree) (front : List Symbol) (rest : List Token) → (a_source h).fits MOST_GROUPS s → spelt h s ≡ front → 0 < length rest → Breaks P1 (sources h) front (symbols rest)
breaks_behind h s front [] fits e some = absurd (omega arith)
breaks_behind h s front (t ∷ rest) fits e some = λ depth b.
    let same : (a_source h).spell b.tree ++ [] ≡ (a_source h).spell s ++ (symbol t ∷ b.more) =
    append-nil ((a_source h).spell b.tree) ∙ sym (source_spelt h b.tree) ∙ b.spelling ∙ append_one front (symbol t) b.more ∙ ap (λ l. l ++ (symbol t ∷ b.more)) (sym e ∙ source_spelt h s) in
    let ends = ends_between (source_law h) depth MOST_GROUPS b.tree s [] (symbol t ∷ b.more) (source_in IsPlainName h depth b.tree b.within.grammatical b.within.nested) fits tt refl same in
    let wrong : [] ≡ symbol t ∷ b.more = ends.1 in
    cc
  where
    append_one : (xs : List Symbol) (y : Symbol) (ys : List Symbol) → (xs ++ y ∷ []) ++ ys ≡ xs ++ (y ∷ ys)
    append_one [] y ys = refl
    append_one (x ∷ xs) y ys = ap (λ l. x ∷ l) (append_one xs y ys)

pub more_refused : (h : Heads) (list : List Token) (next : ℕ) (s : SourceTree) (end place : Place) → IsSpeltBetween h list 0 next s → next < length list
    → place ≡ place_at (drop next list) end → IsRefused (sources h) list end (record { rule = P1; place = place })
more_refused h list next s end place r lt at =
    let count : next - 0 ≡ next = omega arith in
    let front_is : symbols (take next list) ≡ spelt h s = ap (λ n. symbols (take n list)) (sym count) ∙ r.spelling.spelling in
    let within = r.spelling.within in
    record {
      front = take next list;
      rest = drop next list;
      split = sym (take-append-drop next list);
      begins = record { tree = s; more = []; within = within; spelling = sym front_is ∙ sym (append-nil (symbols (take next list))) };
      breaks = breaks_behind h s (symbols (take next list)) (drop next list) (source_in IsPlainName h MOST_GROUPS s within.grammatical within.nested) (sym front_is) (omega (arith, length-drop next list));
      place = at;
    }

pub all_spelt : (list : List Token) (next : ℕ) (s : SourceTree) → IsSpeltBetween Program list 0 next s → length list ≤ next → IsSpelt (sources Program) list s
all_spelt list next s r le =
    let all : take (next - 0) list ≡ list = take_all (next - 0) list (omega arith) in
    subst (λ l. IsSpelt (sources Program) l s) all r.spelling

pub parse_exit : (tokens : Tokens) (e : Fail) (r : Result SourceTree Fail) → IsErrAnd r (λ d. d ≡ e) → AnswersFrom Program tokens 0 (Err e) → Answers (sources Program) tokens r
parse_exit tokens e (Ok s) is p = absurd is
parse_exit tokens e (Err d) is p = subst (λ z. Answers (sources Program) tokens (Err z)) (sym is) (same e p)
  where
    same : (e : Fail) → AnswersFrom Program tokens 0 (Err e) → Answers (sources Program) tokens (Err e)
    same Memory p = tt
    same (Refused refusal) p = p.refused
