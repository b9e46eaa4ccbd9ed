-- What is read of a whole text, and what it answers in the end.
use Rattle.std.proofs.Common.{◌≡◌, ℕ, ◌+◌, ◌-◌, ◌<◌, ◌≤◌, List, [], ◌∷◌, ◌++◌, Result, Ok, Err, length, take, drop, refl, sym, ap, ◌∙◌, subst, append_assoc, arith}
use Rattle.std.proofs.lemmas.List.{append-nil, length-map, length-take, length-drop, map-append, take-append-drop, take_all}
use Rattle.std.proofs.Math.Seq.{take-add}
use Rattle.std.specs.List.{AllByRecursion}
use Rattle.std.specs.Result.{IsErrAnd}
use Rattle.ps_base.specs.declared.failing.Fail.{Fail}
use Rattle.ps_base.specs.declared.failing.Fail.TheVariants.{Memory, Refused}
use Rattle.ps_base.specs.declared.failing.Place.{Place}
use Rattle.ps_base.specs.declared.failing.Rule.TheVariants.{P1}
use Rattle.ps_base.specs.declared.limits.TheConstants.{MOST_GROUPS}
use Rattle.ps_lexer.specs.declared.token.Token.{Token}
use Rattle.ps_lexer.specs.declared.token.Tokens.{Tokens}
use Rattle.ps_parser.specs.declared.heads.Heads.{Heads}
use Rattle.ps_parser.specs.declared.heads.Heads.TheVariants.{Program, Block}
use Rattle.ps_parser.specs.Symbol.{Symbol, symbol, symbols}
use Rattle.ps_parser.specs.Tree.{SourceTree}
use Rattle.ps_parser.specs.Spelt.{spelt}
use Rattle.ps_parser.specs.Language.{Breaks, place_at, IsRefused, IsSpelt, Answers}
use Rattle.ps_parser.specs.Parsing.{IsSourceWithin, IsSpeltBetween, AnswersFrom}
use Rattle.ps_derived.specs.declared.library.Library.{Library}
use Rattle.ps_derived.specs.Texts.{library_spelt, IsLibraryWithin, libraries}
use Rattle.ps_derived.proofs.Fronts.{blocks_spelt, blocks_spelt_push, all_within_push, behind_blocks, program_behind}
use Rattle.ps_derived.proofs.Refusing.{IsHeadOf, refused_behind}

-- The tokens before a number are the spelling of these function blocks.
pub record IsReadUpto (list : List Token) (bs : List SourceTree) (at : ℕ) : Type 0 where
  pub within : AllByRecursion (IsSourceWithin MOST_GROUPS) bs
  pub inside : at ≤ length list
  pub spelling : symbols (take at list) ≡ blocks_spelt bs

pub nothing_read : (list : List Token) → IsReadUpto list [] 0
nothing_read list = record { within = tt; inside = omega arith; spelling = refl }

-- the source that is spelt next stands after the blocks
symbols_upto : (h : Heads) (list : List Token) (bs : List SourceTree) (at next : ℕ) (s : SourceTree) → IsReadUpto list bs at → IsSpeltBetween h list at next s → symbols (take next list) ≡ blocks_spelt bs ++ spelt h s
symbols_upto h list bs at next s r p =
    let ahead = p.ahead in
    let count : next ≡ at + (next - at) = omega arith in
    ap (λ k. symbols (take k list)) count ∙ ap symbols (take-add at (next - at) list) ∙ map-append symbol (take at list) (take (next - at) (drop at list)) ∙ (λ i. r.spelling i ++ p.spelling.spelling i)

pub one_block_more : (list : List Token) (bs : List SourceTree) (at next : ℕ) (b : SourceTree) → IsReadUpto list bs at → IsSpeltBetween Block list at next b → IsReadUpto list (bs ++ b ∷ []) next
one_block_more list bs at next b r p = record {
  within = all_within_push MOST_GROUPS bs b r.within p.spelling.within;
  inside = p.inside;
  spelling = symbols_upto Block list bs at next b r p ∙ sym (blocks_spelt_push bs b);
}

pub fewer_tokens_left : (list : List Token) (at next : ℕ) (b : SourceTree) → IsSpeltBetween Block list at next b → length list - next < length list - at
fewer_tokens_left list at next b p =
    let ts = drop at list in
    let some : 0 < length (spelt Block b) = omega arith in
    let inside = p.inside in
    let ahead = p.ahead in
    omega (arith, some, ap length p.spelling.spelling, length-map (take (next - at) ts) symbol, length-take (next - at) ts)

-- after the program nothing may stand
breaks_behind_text : (l : Library) (front : List Symbol) (rest : List Token) → IsLibraryWithin MOST_GROUPS l → front ≡ library_spelt l → 0 < length rest → Breaks P1 libraries front (symbols rest)
breaks_behind_text l front [] w e some = absurd (omega arith)
breaks_behind_text l front (t ∷ rest) w e some = λ depth text.
    let program = spelt Program l.program in
    let spelling : library_spelt text.tree ≡ blocks_spelt l.blocks ++ (program ++ (symbol t ∷ text.more)) =
    text.spelling ∙ append_assoc front (symbol t ∷ []) text.more ∙ ap (λ k. k ++ (symbol t ∷ text.more)) e ∙ append_assoc (blocks_spelt l.blocks) program (symbol t ∷ text.more) in
    let behind = behind_blocks MOST_GROUPS depth l.blocks text.tree.blocks text.tree.program (program ++ (symbol t ∷ text.more)) w.blocks text.within.blocks spelling in
    let last = program_behind depth MOST_GROUPS behind.later text.tree.program l.program (symbol t ∷ text.more) text.within.program w.program behind.spelling in
    let wrong : symbol t ∷ text.more ≡ [] = last.2 in
    cc

module _ (list : List Token) (bs : List SourceTree) (at next : ℕ) (p : SourceTree) (r : IsReadUpto list bs at) (s : IsSpeltBetween Program list at next p) where
  abbrev pub text_of : Library
  text_of = record { blocks = bs; program = p }

  text_within : IsLibraryWithin MOST_GROUPS text_of
  text_within = record { blocks = r.within; program = s.spelling.within }

  pub more_refused : (end place : Place) → next < length list → place ≡ place_at (drop next list) end → IsRefused libraries list end (record { rule = P1; place = place })
  more_refused end place lt stands =
      let front_is = symbols_upto Program list bs at next p r s in
      record {
        front = take next list;
        rest = drop next list;
        split = sym (take-append-drop next list);
        begins = record { tree = text_of; more = []; within = text_within; spelling = sym front_is ∙ sym (append-nil (symbols (take next list))) };
        breaks = breaks_behind_text text_of (symbols (take next list)) (drop next list) text_within front_is (omega (arith, length-drop next list));
        place = stands;
      }

  pub all_spelt : length list ≤ next → IsSpelt libraries list text_of
  all_spelt le = record {
    within = text_within;
    spelling = ap symbols (sym (take_all next list le)) ∙ symbols_upto Program list bs at next p r s;
  }

-- what is refused after the blocks is what the whole text answers
pub exit : (h : Heads) (tokens : Tokens) (bs : List SourceTree) (at : ℕ) → IsReadUpto tokens.list bs at → IsHeadOf h (symbols (drop at tokens.list))
    → (e : Fail) (r : Result Library Fail) → IsErrAnd r (λ d. d ≡ e) → AnswersFrom h tokens at (Err e) → Answers libraries tokens r
exit h tokens bs at read head e (Ok l) is p = absurd is
exit h tokens bs at read head e (Err d) is p = subst (λ z. Answers libraries tokens (Err z)) (sym is) (same e p)
  where
    same : (e : Fail) → AnswersFrom h tokens at (Err e) → Answers libraries tokens (Err e)
    same Memory p = tt
    same (Refused refusal) p = refused_behind tokens.list at bs read.within read.spelling h tokens.end refusal head p
