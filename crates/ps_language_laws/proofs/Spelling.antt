-- Tokens spell a whole text, or they are refused.
use Rattle.std.proofs.Common.{◌≡◌, ℕ, zero, suc, ◌-◌, ◌<◌, ◌≤◌, ◌⊎◌, inl, inr, length, drop, List, [], ◌∷◌, ◌++◌, Some, refl, sym, ap, ◌∙◌, subst, ⊎_elim, arith}
use Rattle.std.proofs.lemmas.Bool.{cases_lt}
use Rattle.std.proofs.lemmas.List.{drop-map}
use Rattle.std.proofs.Math.Seq.{drop-append_seam}
use Rattle.ps_base.specs.declared.failing.Place.{Place}
use Rattle.ps_base.specs.declared.failing.Refusal.{Refusal}
use Rattle.ps_base.specs.declared.failing.Rule.TheVariants.{P1}
use Rattle.ps_base.specs.declared.limits.TheConstants.{MOST_GROUPS}
use Rattle.ps_lexer.specs.declared.token.Token.{Token}
use Rattle.ps_lexer.specs.declared.token.Tokens.{Tokens}
use Rattle.ps_lexer.specs.Spelling.{IsTokenList}
use Rattle.ps_parser.specs.declared.heads.Heads.{Heads}
use Rattle.ps_parser.specs.declared.heads.Heads.TheVariants.{Program, Block}
use Rattle.ps_parser.specs.declared.sign.Sign.TheVariants as sign
use Rattle.ps_parser.specs.declared.stop.Flaw.{Flaw}
use Rattle.ps_parser.specs.Symbol.{Symbol, Mark, symbol, symbols}
use Rattle.ps_parser.specs.Tree.{SourceTree}
use Rattle.ps_parser.specs.Grammar.{a_source}
use Rattle.ps_parser.specs.Phrase.{next, Reads, Refuses}
use Rattle.ps_parser.specs.Parses.{rule_of}
use Rattle.ps_parser.specs.Language.{place_at, IsSpelt, IsRefused}
use Rattle.ps_parser.specs.Parsing.{IsSpeltBetween, IsRefusedFrom}
use Rattle.ps_parser.proofs.Answering.{tail_of, from_ok, from_err}
use Rattle.ps_derived.specs.declared.library.Library.{Library}
use Rattle.ps_derived.specs.Texts.{libraries}
use Rattle.ps_derived.proofs.Reading.{IsReadUpto, nothing_read, one_block_more, fewer_tokens_left, more_refused, all_spelt}
use Rattle.ps_derived.proofs.Refusing.{refused_behind}
use Rattle.ps_language_laws.proofs.Deciding.{Decided, reads, refuses, IsNext, stands, absent, is_next}
use Rattle.ps_language_laws.proofs.Parsing.{source_decided}

-- what is left of the symbols of tokens are the symbols of the tokens that are left
symbols_left : (ts : List Token) (front rest : List Symbol) → symbols ts ≡ front ++ rest → rest ≡ symbols (drop (length front) ts)
symbols_left ts front rest e = sym (drop-append_seam front rest) ∙ ap (drop (length front)) (sym e) ∙ drop-map symbol (length front) ts

module _ (list : List Token) (end : Place) (well : IsTokenList list) where
  -- a source is spelt from a number on, or refused
  abbrev Answered : Heads → ℕ → Type 0
  Answered h at = ((next : ℕ) × (s : SourceTree) × IsSpeltBetween h list at next s) ⊎ ((r : Refusal) × IsRefusedFrom h (drop at list) end r)

  source_from : (h : Heads) (at : ℕ) → at ≤ length list → Answered h at
  source_from h at le = by (source_decided MOST_GROUPS h (symbols ts))
    where
      ts : List Token
      ts = tail_of list at

      ok : (s : SourceTree) (rest : List Symbol) → Reads (a_source h) MOST_GROUPS (symbols ts) s rest → Answered h at
      ok s rest r =
          let left = drop (length ((a_source h).spell s)) ts in
          let is : rest ≡ symbols left = symbols_left ts ((a_source h).spell s) rest r.spelled in
          inl (length list - length left, s, from_ok h list list at s left refl well le (subst (Reads (a_source h) MOST_GROUPS (symbols ts) s) is r))

      err : (flaw : Flaw) (rest : List Symbol) → Refuses (a_source h) MOST_GROUPS flaw (symbols ts) rest → Answered h at
      err flaw rest r =
          let left = drop (length r.front) ts in
          let is : rest ≡ symbols left = symbols_left ts r.front rest r.split in
          let place = place_at (drop (length list - length left) list) end in
          inr (record { rule = rule_of flaw; place = place }, from_err h flaw list list at left end place refl well le (subst (Refuses (a_source h) MOST_GROUPS flaw (symbols ts)) is r) refl)

      by : Decided (a_source h) MOST_GROUPS (symbols ts) → Answered h at
      by (reads s rest r) = ok s rest r
      by (refuses flaw rest r) = err flaw rest r

  -- the whole text is spelt, or refused
  abbrev Told : Type 0
  Told = ((l : Library) × IsSpelt libraries list l) ⊎ ((r : Refusal) × IsRefused libraries list end r)

  -- after these blocks stands the program alone
  program_from : (bs : List SourceTree) (at : ℕ) → IsReadUpto list bs at → (next (symbols (drop at list)) ≡ Some (Mark sign.FunctionBlock) → ⊥) → Told
  program_from bs at read none = by (source_from Program at read.inside)
    where
      by : Answered Program at → Told
      by (inl p) =
          ⊎_elim (λ more. let place = place_at (drop p.0 list) end in inr (record { rule = P1; place = place }, more_refused list bs at p.0 p.1 read p.2 end place more refl))
          (λ whole. inl (record { blocks = bs; program = p.1 }, all_spelt list bs at p.0 p.1 read p.2 whole)) (cases_lt p.0 (length list))
      by (inr r) = inr (r.0, refused_behind list at bs read.within read.spelling Program end r.0 none r.1)

  text_from : (fuel : ℕ) (bs : List SourceTree) (at : ℕ) → IsReadUpto list bs at → length list - at < fuel → Told
  text_from zero bs at read less = absurd (omega arith)
  text_from (suc fuel) bs at read less = by (text_from fuel) (is_next sign.FunctionBlock (symbols (drop at list))) (source_from Block at read.inside)
    where
      by : ((cs : List SourceTree) (n : ℕ) → IsReadUpto list cs n → length list - n < fuel → Told) → IsNext sign.FunctionBlock (symbols (drop at list)) → Answered Block at → Told
      by later (absent none) _ = program_from bs at read none
      by later (stands rest e) (inl b) = later (bs ++ b.1 ∷ []) b.0 (one_block_more list bs at b.0 b.1 read b.2) (omega (arith, fewer_tokens_left list at b.0 b.1 b.2, less))
      by later (stands rest e) (inr r) = inr (r.0, refused_behind list at bs read.within read.spelling Block end r.0 (ap next e) r.1)

pub spelling_decided : (tokens : Tokens) → IsTokenList tokens.list → ((l : Library) × IsSpelt libraries tokens.list l) ⊎ ((r : Refusal) × IsRefused libraries tokens.list tokens.end r)
spelling_decided tokens well = text_from tokens.list tokens.end well (suc (length tokens.list)) [] 0 (nothing_read tokens.list) (omega arith)
