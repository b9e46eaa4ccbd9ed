-- A spelling is that of one source and no proper front of another, and tokens have one answer.
use Rattle.std.proofs.Common.{◌≡◌, ◌≢◌, ◌-◌, ℕ, List, [], ◌++◌, Result, Ok, Err, length, take, drop, refl, sym, ap, ◌∙◌, subst, arith}
use Rattle.std.proofs.lemmas.List.{append-nil, length-map, length-drop, map-append, take-append-drop}
use Rattle.ps_base.specs.declared.failing.Fail.{Fail}
use Rattle.ps_base.specs.declared.failing.Fail.TheVariants.{Memory, Refused}
use Rattle.ps_base.specs.declared.failing.Place.{Place}
use Rattle.ps_base.specs.declared.failing.Refusal.{Refusal}
use Rattle.ps_base.specs.declared.limits.TheConstants.{MOST_GROUPS}
use Rattle.ps_lexer.specs.declared.token.Token.{Token}
use Rattle.ps_lexer.specs.declared.token.Tokens.{Tokens}
use Rattle.ps_parser.specs.declared.heads.Heads.{Heads}
use Rattle.ps_parser.specs.declared.heads.Heads.TheVariants.{Program}
use Rattle.ps_parser.specs.Names.{IsPlainName, IsDottedName}
use Rattle.ps_parser.specs.Symbol.{Symbol, symbol, symbols, AllProper}
use Rattle.ps_parser.specs.Tree.{SourceTree}
use Rattle.ps_parser.specs.Spelt.{spelt}
use Rattle.ps_parser.specs.Whole.{IsWhole, nesting}
use Rattle.ps_parser.specs.Grammar.{a_source}
use Rattle.ps_parser.specs.Language.{IsRefused, IsSpelt, Answers}
use Rattle.ps_parser.specs.Parsing.{IsSourceWithin, sources, IsSpeltBetween, AnswersFrom}
use Rattle.ps_parser.proofs.Phrases.{never, some_at, ends_between}
use Rattle.ps_parser.proofs.Sentences.{source_law}
use Rattle.ps_parser.proofs.Fitting.{source_in, source_out, source_shallow}
use Rattle.ps_parser.proofs.Public.{source_spelt}
use Rattle.ps_parser.proofs.OneAnswer as of_tokens
use Rattle.ps_parser.proofs.OneAnswer.{IsToldBySpelling}

-- one source alone is spelt at the front of some symbols, and it leaves the same rest
pub one_at_front : (h : Heads) (n m : ℕ) (s other : SourceTree) (rest more : List Symbol) → (a_source h).fits n s → (a_source h).fits m other → spelt h s ++ rest ≡ spelt h other ++ more → (s ≡ other) × (rest ≡ more)
one_at_front h n m s other rest more fs fo e =
    ends_between (source_law h) n m s other rest more fs fo (never rest) (never more)
    (ap (λ l. l ++ rest) (sym (source_spelt h s)) ∙ e ∙ ap (λ l. l ++ more) (source_spelt h other))

pub fits_dotted : (h : Heads) (s : SourceTree) → IsWhole IsDottedName s → (a_source h).fits (nesting s) s
fits_dotted h s w = source_in IsDottedName h (nesting s) s w (omega arith)

fits_within : (h : Heads) (n : ℕ) (s : SourceTree) → IsSourceWithin n s → (a_source h).fits n s
fits_within h n s w = source_in IsPlainName h n s w.grammatical w.nested

pub one_spelling : (h : Heads) (s other : SourceTree) → IsWhole IsDottedName s → IsWhole IsDottedName other → spelt h s ≡ spelt h other → s ≡ other
one_spelling h s other ws wo e = (one_at_front h (nesting s) (nesting other) s other [] [] (fits_dotted h s ws) (fits_dotted h other wo) (ap (λ l. l ++ []) e)).0

pub no_spelling_begins_another : (h : Heads) (s other : SourceTree) (more : List Symbol) → IsWhole IsDottedName s → IsWhole IsDottedName other → spelt h other ≡ spelt h s ++ more → more ≡ []
no_spelling_begins_another h s other more ws wo e =
    sym (one_at_front h (nesting other) (nesting s) other s [] more (fits_dotted h other wo) (fits_dotted h s ws) (append-nil (spelt h other) ∙ e)).1

-- two sources of the grammar, one at the front of the other's text
pub one_source_at_front : (h : Heads) (n m : ℕ) (s other : SourceTree) (rest more : List Symbol) → IsSourceWithin n s → IsSourceWithin m other → spelt h s ++ rest ≡ spelt h other ++ more → (s ≡ other) × (rest ≡ more)
one_source_at_front h n m s other rest more ws wo e = one_at_front h n m s other rest more (fits_within h n s ws) (fits_within h m other wo) e

-- a source with which a text can be completed
abbrev pub some_source : SourceTree
some_source = (source_law Program).some

pub some_source_within : (depth : ℕ) → IsSourceWithin depth some_source
some_source_within depth =
    let fits = some_at (source_law Program) depth in
    record {
      grammatical = source_out IsPlainName (λ text p. p) Program depth some_source fits (subst AllProper (sym (source_spelt Program some_source)) (source_law Program).some_proper);
      nested = source_shallow Program depth some_source fits;
    }

pub spelling_tells_source : (h : Heads) → IsToldBySpelling (sources h)
spelling_tells_source h s other ws wo e = (one_source_at_front h MOST_GROUPS MOST_GROUPS s other [] [] ws wo (ap (λ l. l ++ []) e)).0

pub one_answer : (tokens : Tokens) (r q : Result SourceTree Fail) → Answers (sources Program) tokens r → Answers (sources Program) tokens q → r ≢ Err Memory → q ≢ Err Memory → r ≡ q
one_answer = of_tokens.one_answer (sources Program) (spelling_tells_source Program)

pub refused_or_spelt : (h : Heads) (list : List Token) (end : Place) (refusal : Refusal) (s : SourceTree) → IsRefused (sources h) list end refusal → IsSpelt (sources h) list s → ⊥
refused_or_spelt h = of_tokens.refused_or_spelt (sources h)

-- what is spelt between two numbers stands at the front of all from the first number on
symbols_between : (h : Heads) (list : List Token) (at next : ℕ) (s : SourceTree) → IsSpeltBetween h list at next s → symbols (drop at list) ≡ spelt h s ++ symbols (drop (next - at) (drop at list))
symbols_between h list at next s p =
    let ts = drop at list in
    let n = next - at in
    ap symbols (sym (take-append-drop n ts)) ∙ map-append symbol (take n ts) (drop n ts) ∙ ap (λ l. l ++ symbols (drop n ts)) p.spelling.spelling

one_source_between : (h : Heads) (list : List Token) (at : ℕ) (a b : SourceTree × ℕ) → IsSpeltBetween h list at a.1 a.0 → IsSpeltBetween h list at b.1 b.0 → a ≡ b
one_source_between h list at a b p q =
    let ts = drop at list in
    let same = one_source_at_front h MOST_GROUPS MOST_GROUPS a.0 b.0 (symbols (drop (a.1 - at) ts)) (symbols (drop (b.1 - at) ts)) p.spelling.within q.spelling.within (sym (symbols_between h list at a.1 a.0 p) ∙ symbols_between h list at b.1 b.0 q) in
    let ahead = p.ahead in
    let inside = p.inside in
    let ahead' = q.ahead in
    let inside' = q.inside in
    let next : a.1 ≡ b.1 = omega (arith, ap length same.1, length-map (drop (a.1 - at) ts) symbol, length-map (drop (b.1 - at) ts) symbol, length-drop (a.1 - at) ts, length-drop (b.1 - at) ts, length-drop at list) in
    λ i. (same.0 i, next i)

no_source_between_of_refused : (h : Heads) (tokens : Tokens) (at : ℕ) (a : SourceTree × ℕ) (refusal : Refusal) → AnswersFrom h tokens at (Ok a) → AnswersFrom h tokens at (Err (Refused refusal)) → ⊥
no_source_between_of_refused h tokens at a refusal p q =
    let ts = drop at tokens.list in
    q.none (take (a.1 - at) ts) (drop (a.1 - at) ts) a.0 (sym (take-append-drop (a.1 - at) ts)) p.spelling

pub one_answer_from : (h : Heads) (tokens : Tokens) (at : ℕ) (r q : Result (SourceTree × ℕ) Fail) → AnswersFrom h tokens at r → AnswersFrom h tokens at q → r ≢ Err Memory → q ≢ Err Memory → r ≡ q
one_answer_from h tokens at (Ok a) (Ok b) p q n m = ap Ok (one_source_between h tokens.list at a b p q)
one_answer_from h tokens at (Ok a) (Err (Refused refusal)) p q n m = absurd (no_source_between_of_refused h tokens at a refusal p q)
one_answer_from h tokens at (Err (Refused refusal)) (Ok b) p q n m = absurd (no_source_between_of_refused h tokens at b refusal q p)
one_answer_from h tokens at (Err (Refused r)) (Err (Refused s)) p q n m = ap (λ r. Err (Refused r)) (of_tokens.one_refusal (sources h) (drop at tokens.list) tokens.end r s p.refused q.refused)
one_answer_from h tokens at (Err Memory) q a b n m = absurd (n refl)
one_answer_from h tokens at r (Err Memory) a b n m = absurd (m refl)
