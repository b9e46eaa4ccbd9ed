-- What reading a source says in the words of its spelling.
use Rattle.std.proofs.Common.{◌≡◌, ℕ, suc, ◌-◌, length, zero, List, [], ◌∷◌, ◌++◌, Option, Some, None, take, drop, slice_get, sym, refl, ap, ◌∙◌, subst, append_assoc, arith, length-append}
use Rattle.std.proofs.lemmas.List.{append-nil, length-map, take-map, drop-map, take-append-drop}
use Rattle.std.proofs.Math.Seq.{take-append_seam, drop-append_seam}
use Rattle.std.specs.List.{flat_map, AllByRecursion}
use Rattle.ps_base.specs.declared.failing.Place.{Place}
use Rattle.ps_base.specs.declared.failing.Rule.TheVariants.{P1, P2}
use Rattle.ps_base.specs.declared.limits.TheConstants.{MOST_GROUPS}
use Rattle.ps_lexer.specs.Spelling.{IsWellFormed, IsName}
use Rattle.ps_lexer.specs.declared.token.Form.{Form}
use Rattle.ps_lexer.specs.declared.token.Form.TheVariants as form
use Rattle.ps_lexer.specs.declared.token.Word.TheVariants as word
use Rattle.ps_lexer.specs.declared.token.Token.{Token}
use Rattle.ps_parser.specs.declared.heads.Heads.{Heads}
use Rattle.ps_parser.specs.declared.sign.Sign.{Sign}
use Rattle.ps_parser.specs.declared.sign.Sign.TheVariants as sign
use Rattle.ps_parser.specs.declared.statement.Target.TheVariants as target
use Rattle.ps_parser.specs.declared.stop.Flaw.{Flaw}
use Rattle.ps_parser.specs.declared.stop.Flaw.TheVariants.{Unexpected, TooDeep}
use Rattle.ps_parser.specs.Names.{IsPlainName, IsDottedName, single, block_word}
use Rattle.ps_parser.specs.Symbol.{Symbol, Mark, Named, symbol, symbol_of, symbols, named_or, IsProper, AllProper}
use Rattle.ps_parser.specs.Tree.{ArgumentTree, StatementTree, Assign, Call, SourceTree}
use Rattle.ps_parser.specs.Spelt.{joined_spell, argument_spelt, statement_spelt, section_spelt, spelt, head_sign, foot_sign}
use Rattle.ps_parser.specs.Whole.{IsSource}
use Rattle.ps_parser.specs.Phrase.{Begins, Blocks, Refuses, Reads, BracketIfTooDeep}
use Rattle.ps_parser.specs.Grammar.{an_argument, any_arguments, a_statement, a_source}
use Rattle.ps_parser.specs.Language.{BeginsTree, Breaks, place_at, IsRefused}
use Rattle.ps_parser.specs.Parsing.{IsSourceWithin, sources}
use Rattle.ps_parser.specs.Parses.{rule_of}
use Rattle.ps_parser.proofs.Phrases.{proper_append}
use Rattle.ps_parser.proofs.Expressions.{sum_spelt_lem}
use Rattle.ps_parser.proofs.Fitting.{proper_left, proper_right, source_out, source_shallow, source_in}

argument_spelt_lem : (a : ArgumentTree) → argument_spelt a ≡ an_argument.spell a
argument_spelt_lem a = ap (λ l. Named a.pin ∷ Mark sign.Assign ∷ l) (sum_spelt_lem a.value)

arguments_spelt_lem : (args : List ArgumentTree) → joined_spell (Mark sign.Comma) argument_spelt args ≡ any_arguments.spell args
arguments_spelt_lem [] = refl
arguments_spelt_lem (a ∷ args) = ap (λ f. joined_spell (Mark sign.Comma) f (a ∷ args)) (λ i b. argument_spelt_lem b i)

statement_spelt_lem : (s : StatementTree) → statement_spelt s ≡ a_statement.spell s
statement_spelt_lem (Assign (target.Name n) s) = ap (λ l. Named n ∷ Mark sign.Assign ∷ (l ++ Mark sign.Semicolon ∷ [])) (sum_spelt_lem s)
statement_spelt_lem (Assign (target.Pin n q) s) = ap (λ l. Named n ∷ Mark sign.Dot ∷ Named q ∷ Mark sign.Assign ∷ (l ++ Mark sign.Semicolon ∷ [])) (sum_spelt_lem s)
statement_spelt_lem (Call n args) = ap (λ l. Named n ∷ Mark sign.LeftBracket ∷ (l ++ Mark sign.RightBracket ∷ Mark sign.Semicolon ∷ [])) (arguments_spelt_lem args)

-- a source is spelt as the phrase is
pub source_spelt : (h : Heads) (s : SourceTree) → spelt h s ≡ (a_source h).spell s
source_spelt h s =
    ap (λ f. Mark (head_sign h) ∷ Named s.name ∷ (flat_map section_spelt s.sections ++ (flat_map f s.statements ++ Mark (foot_sign h) ∷ []))) (λ i x. statement_spelt_lem x i)

begins_source : (h : Heads) (depth : ℕ) (front : List Symbol) → AllProper front → Begins (a_source h) depth front → BeginsTree (sources h) depth front
begins_source h depth front proper b =
    let is = source_spelt h b.tree ∙ b.spelled in
    record {
      tree = b.tree;
      more = b.more;
      within = record {
        grammatical = source_out IsPlainName (λ text p. p) h depth b.tree b.whole (subst AllProper (sym is) (proper_append front b.more proper b.proper));
        nested = source_shallow h depth b.tree b.whole;
      };
      spelling = is;
    }

-- nothing that is within begins with the front and what stands next
no_longer : (h : Heads) (depth : ℕ) (front rest : List Symbol) (t : Symbol) → Blocks (a_source h) depth front (t ∷ rest) → BeginsTree (sources h) depth (front ++ t ∷ []) → ⊥
no_longer h depth front rest t blocks b =
    blocks b.tree [] (t ∷ b.more) (source_in IsPlainName h depth b.tree b.within.grammatical b.within.nested) tt
    (append-nil ((a_source h).spell b.tree) ∙ sym (source_spelt h b.tree) ∙ b.spelling ∙ append_assoc front (t ∷ []) b.more) refl

breaks_p1 : (h : Heads) (front rest : List Symbol) → ((n : ℕ) → Blocks (a_source h) n front rest) → Breaks P1 (sources h) front rest
breaks_p1 h front [] blocks = λ depth s within e. blocks depth s [] [] (source_in IsPlainName h depth s within.grammatical within.nested) tt (append-nil ((a_source h).spell s) ∙ sym (source_spelt h s) ∙ e ∙ sym (append-nil front)) refl
breaks_p1 h front (t ∷ rest) blocks = λ depth b. no_longer h depth front rest t (blocks depth) b

breaks_p2 : (h : Heads) (front rest : List Symbol) → AllProper front → Blocks (a_source h) MOST_GROUPS front rest → Begins (a_source h) (suc MOST_GROUPS) (front ++ take 1 rest) → BracketIfTooDeep TooDeep rest → Breaks P2 (sources h) front rest
breaks_p2 h front [] proper blocks deeper bracket = cc
breaks_p2 h front (t ∷ rest) proper blocks deeper stands =
    let is : t ≡ Mark sign.LeftBracket = cc in
    (is, begins_source h (suc MOST_GROUPS) (front ++ t ∷ []) (proper_append front (t ∷ []) proper (subst (λ u. AllProper (u ∷ [])) (sym is) (tt, tt))) deeper, no_longer h MOST_GROUPS front rest t blocks)

breaks : (h : Heads) (flaw : Flaw) (ts rest : List Symbol) (proper : AllProper ts) (r : Refuses (a_source h) MOST_GROUPS flaw ts rest) → Breaks (rule_of flaw) (sources h) r.front rest
breaks h Unexpected ts rest proper r = breaks_p1 h r.front rest (λ n. r.blocks n tt)
breaks h TooDeep ts rest proper r = breaks_p2 h r.front rest (proper_left r.front rest (subst AllProper r.split proper)) (r.blocks MOST_GROUPS (omega arith)) r.deeper r.bracket

-- a list is cut where so much of it is left
cut_length : {A : Type 0} (xs ys zs : List A) → xs ≡ ys ++ zs → length xs - length zs ≡ length ys
cut_length xs ys zs e = omega (arith, ap length e, length-append ys zs)

cut_front : {A : Type 0} (xs ys zs : List A) → xs ≡ ys ++ zs → take (length xs - length zs) xs ≡ ys
cut_front xs ys zs e = ap (λ n. take n xs) (cut_length xs ys zs e) ∙ ap (take (length ys)) e ∙ take-append_seam ys zs

cut_rest : {A : Type 0} (xs ys zs : List A) → xs ≡ ys ++ zs → drop (length xs - length zs) xs ≡ zs
cut_rest xs ys zs e = ap (λ n. drop n xs) (cut_length xs ys zs e) ∙ ap (drop (length ys)) e ∙ drop-append_seam ys zs

left_over : (ts left : List Token) → length (symbols ts) - length (symbols left) ≡ length ts - length left
left_over ts left = omega (arith, length-map ts symbol, length-map left symbol)

-- the tokens before a number, and those from it on, where so many are left
pub symbols_front : (ts left : List Token) (front : List Symbol) → symbols ts ≡ front ++ symbols left → symbols (take (length ts - length left) ts) ≡ front
symbols_front ts left front e = sym (take-map symbol (length ts - length left) ts) ∙ ap (λ n. take n (symbols ts)) (sym (left_over ts left)) ∙ cut_front (symbols ts) front (symbols left) e

symbols_rest : (ts left : List Token) (front : List Symbol) → symbols ts ≡ front ++ symbols left → symbols (drop (length ts - length left) ts) ≡ symbols left
symbols_rest ts left front e = sym (drop-map symbol (length ts - length left) ts) ∙ ap (λ n. drop n (symbols ts)) (sym (left_over ts left)) ∙ cut_rest (symbols ts) front (symbols left) e

pub refusal_of_left : (h : Heads) (flaw : Flaw) (ts left : List Token) (end place : Place) → AllProper (symbols ts) → Refuses (a_source h) MOST_GROUPS flaw (symbols ts) (symbols left)
    → place ≡ place_at (drop (length ts - length left) ts) end → IsRefused (sources h) ts end (record { rule = rule_of flaw; place = place })
refusal_of_left h flaw ts left end place proper r at =
    let k = length ts - length left in
    let front_is = symbols_front ts left r.front r.split in
    let rest_is = symbols_rest ts left r.front r.split in
    record {
      front = take k ts;
      rest = drop k ts;
      split = sym (take-append-drop k ts);
      begins = subst (BeginsTree (sources h) MOST_GROUPS) (sym front_is) (begins_source h MOST_GROUPS r.front (proper_left r.front (symbols left) (subst AllProper r.split proper)) r.begins);
      breaks = subst (λ l. Breaks (rule_of flaw) (sources h) l (symbols (drop k ts))) (sym front_is) (subst (Breaks (rule_of flaw) (sources h) r.front) (sym rest_is) (breaks h flaw (symbols ts) (symbols left) proper r));
      place = at;
    }

-- what is read is proper as it is spelt
proper_source : (h : Heads) (n : ℕ) (ts rest : List Symbol) (s : SourceTree) → AllProper ts → Reads (a_source h) n ts s rest → AllProper (spelt h s)
proper_source h n ts rest s proper r = subst AllProper (sym (source_spelt h s)) (proper_left ((a_source h).spell s) rest (subst AllProper r.spelled proper))

pub source_kept : (h : Heads) (ts rest : List Symbol) (s : SourceTree) → AllProper ts → Reads (a_source h) MOST_GROUPS ts s rest → IsSource s
source_kept h ts rest s proper r = record {
  whole = source_out IsDottedName (λ text p. single p.name) h MOST_GROUPS s r.whole (proper_source h MOST_GROUPS ts rest s proper r);
  shallow = source_shallow h MOST_GROUPS s r.whole;
}

pub source_within : (h : Heads) (ts rest : List Symbol) (s : SourceTree) → AllProper ts → Reads (a_source h) MOST_GROUPS ts s rest → IsSourceWithin MOST_GROUPS s
source_within h ts rest s proper r = record {
  grammatical = source_out IsPlainName (λ text p. p) h MOST_GROUPS s r.whole (proper_source h MOST_GROUPS ts rest s proper r);
  nested = source_shallow h MOST_GROUPS s r.whole;
}

-- the tokens of a list are proper
proper_symbol_or : (text : List ℕ) (place : Place) → IsName text → (o : Option Sign) → block_word text ≡ o → IsProper (named_or o (record { text = text; place = place }))
proper_symbol_or text place h = elim [ None ↦ λ e. record { name = h; plain = e } | Some s ↦ λ e. tt ]

proper_symbol : (f : Form) (p : Place) → IsWellFormed f → IsProper (symbol_of f p)
proper_symbol (form.Name text) p h = proper_symbol_or text p h (block_word text) refl
proper_symbol (form.Word word.Program) p h = tt
proper_symbol (form.Word word.EndProgram) p h = tt
proper_symbol (form.Word word.VarInput) p h = tt
proper_symbol (form.Word word.VarOutput) p h = tt
proper_symbol (form.Word word.Var) p h = tt
proper_symbol (form.Word word.EndVar) p h = tt
proper_symbol (form.Word word.And) p h = tt
proper_symbol (form.Word word.Or) p h = tt
proper_symbol (form.Word word.True) p h = tt
proper_symbol (form.Word word.False) p h = tt
proper_symbol (form.Time t) p h = h
proper_symbol form.Assign p h = tt
proper_symbol form.Colon p h = tt
proper_symbol form.Semicolon p h = tt
proper_symbol form.Comma p h = tt
proper_symbol form.LeftBracket p h = tt
proper_symbol form.RightBracket p h = tt
proper_symbol form.Dot p h = tt

pub proper_tokens : (ts : List Token) → AllByRecursion (λ t. IsWellFormed t.form) ts → AllProper (symbols ts)
proper_tokens [] h = tt
proper_tokens (t ∷ ts) h = (proper_symbol t.form t.place h.0, proper_tokens ts h.1)

pub proper_drop : (k : ℕ) (ts : List Token) → AllProper (symbols ts) → AllProper (symbols (drop k ts))
proper_drop k ts h = subst AllProper (drop-map symbol k ts) (proper_right (take k (symbols ts)) (drop k (symbols ts)) (subst AllProper (sym (take-append-drop k (symbols ts))) h))

pub token_place : (ts : List Token) (k : ℕ) (t : Token) (end : Place) → slice_get ts k ≡ Some t → t.place ≡ place_at (drop k ts) end
token_place [] k t end e = cc
token_place (u ∷ ts) zero t end e = let same : u ≡ t = cc in ap (λ v. v.place) (sym same)
token_place (u ∷ ts) (suc k) t end e = token_place ts k t end e
