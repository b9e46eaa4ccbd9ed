-- Lists of phrases, as the loops read them.
use Rattle.std.proofs.Common.{◌≡◌, ℕ, ◌<◌, length, Bool, true, false, List, [], ◌∷◌, ◌++◌, refl, sym, ap, subst, arith, length-append, Some}
use Rattle.ps_lexer.specs.declared.token.Token.{Token}
use Rattle.ps_parser.specs.declared.sign.Sign.TheVariants.{Comma}
use Rattle.ps_parser.specs.declared.name.Name.{Name}
use Rattle.ps_parser.specs.Symbol.{Symbol, Mark, symbols, is_mark}
use Rattle.ps_parser.specs.Tree.{ArgumentTree}
use Rattle.ps_parser.specs.Phrase.{Phrase, Stops, next, Reads, behind, many}
use Rattle.ps_parser.specs.Grammar.{a_name, names, an_argument, arguments}
use Rattle.ps_parser.specs.Parses.{stands_next}
use Rattle.ps_parser.proofs.Phrases.{Lawful, Starts, IsFirst, ReadsSome, row_starts, row_more, row_reads, row_refuses_first, row_refuses, reads_none, reads_more, reads_many, refuses_many}
use Rattle.ps_parser.proofs.Joints.{Carries}
use Rattle.ps_parser.proofs.Signs.{not_next}
use Rattle.ps_parser.proofs.Expressions.{name_law}
use Rattle.ps_parser.proofs.Sentences.{name_ends, argument_law, argument_ends}
use Rattle.ps_parser.proofs.Reading.{fewer_tokens_left}

-- names with a comma between each two
pub names_start : (limit : ℕ) (ts rest : List Symbol) (x : Name) → Reads a_name limit ts x rest → ReadsSome (behind (Mark Comma) a_name) limit (Mark Comma ∷ ts) (x ∷ []) rest
names_start = row_starts (Mark Comma) (is_mark Comma) a_name name_law refl name_ends tt (λ xs. xs) (λ xs. xs) (λ xs. refl) (λ xs. refl)

pub names_more : (limit : ℕ) (ts rest mid left : List Symbol) (xs : List Name) (x : Name) → ReadsSome (behind (Mark Comma) a_name) limit (Mark Comma ∷ ts) xs rest → rest ≡ Mark Comma ∷ mid → Reads a_name limit mid x left → ReadsSome (behind (Mark Comma) a_name) limit (Mark Comma ∷ ts) (xs ++ x ∷ []) left
names_more = row_more (Mark Comma) (is_mark Comma) a_name name_law refl name_ends tt (λ xs. xs) (λ xs. xs) (λ xs. refl) (λ xs. refl)

pub names_read : (limit : ℕ) (ts rest : List Symbol) (xs : List Name) → 0 < length xs → ReadsSome (behind (Mark Comma) a_name) limit (Mark Comma ∷ ts) xs rest → (next rest ≡ Some (Mark Comma) → ⊥) → Reads names limit ts xs rest
names_read limit ts rest xs some so_far absent = row_reads (Mark Comma) (is_mark Comma) a_name name_law refl name_ends tt (λ xs. xs) (λ xs. xs) (λ xs. refl) (λ xs. refl) limit ts rest xs some so_far (not_next Comma rest absent)

pub names_refuse_first : (limit : ℕ) (ts : List Symbol) → Carries a_name names limit limit ts ts
names_refuse_first limit ts flaw rest h = row_refuses_first (Mark Comma) (is_mark Comma) a_name name_law refl name_ends tt (λ xs. xs) (λ xs. xs) (λ xs. refl) (λ xs. refl) limit flaw ts rest h

pub names_refuse : (limit : ℕ) (ts rest mid : List Symbol) (xs : List Name) → ReadsSome (behind (Mark Comma) a_name) limit (Mark Comma ∷ ts) xs rest → rest ≡ Mark Comma ∷ mid → Carries a_name names limit limit mid ts
names_refuse limit ts rest mid xs so_far e flaw left h = row_refuses (Mark Comma) (is_mark Comma) a_name name_law refl name_ends tt (λ xs. xs) (λ xs. xs) (λ xs. refl) (λ xs. refl) limit flaw ts rest mid left xs so_far e h

-- arguments with a comma between each two
pub arguments_start : (limit : ℕ) (ts rest : List Symbol) (x : ArgumentTree) → Reads an_argument limit ts x rest → ReadsSome (behind (Mark Comma) an_argument) limit (Mark Comma ∷ ts) (x ∷ []) rest
arguments_start = row_starts (Mark Comma) (is_mark Comma) an_argument argument_law refl argument_ends tt (λ xs. xs) (λ xs. xs) (λ xs. refl) (λ xs. refl)

pub arguments_more : (limit : ℕ) (ts rest mid left : List Symbol) (xs : List ArgumentTree) (x : ArgumentTree) → ReadsSome (behind (Mark Comma) an_argument) limit (Mark Comma ∷ ts) xs rest → rest ≡ Mark Comma ∷ mid → Reads an_argument limit mid x left → ReadsSome (behind (Mark Comma) an_argument) limit (Mark Comma ∷ ts) (xs ++ x ∷ []) left
arguments_more = row_more (Mark Comma) (is_mark Comma) an_argument argument_law refl argument_ends tt (λ xs. xs) (λ xs. xs) (λ xs. refl) (λ xs. refl)

pub arguments_read : (limit : ℕ) (ts rest : List Symbol) (xs : List ArgumentTree) → 0 < length xs → ReadsSome (behind (Mark Comma) an_argument) limit (Mark Comma ∷ ts) xs rest → (next rest ≡ Some (Mark Comma) → ⊥) → Reads arguments limit ts xs rest
arguments_read limit ts rest xs some so_far absent = row_reads (Mark Comma) (is_mark Comma) an_argument argument_law refl argument_ends tt (λ xs. xs) (λ xs. xs) (λ xs. refl) (λ xs. refl) limit ts rest xs some so_far (not_next Comma rest absent)

pub arguments_refuse_first : (limit : ℕ) (ts : List Symbol) → Carries an_argument arguments limit limit ts ts
arguments_refuse_first limit ts flaw rest h = row_refuses_first (Mark Comma) (is_mark Comma) an_argument argument_law refl argument_ends tt (λ xs. xs) (λ xs. xs) (λ xs. refl) (λ xs. refl) limit flaw ts rest h

pub arguments_refuse : (limit : ℕ) (ts rest mid : List Symbol) (xs : List ArgumentTree) → ReadsSome (behind (Mark Comma) an_argument) limit (Mark Comma ∷ ts) xs rest → rest ≡ Mark Comma ∷ mid → Carries an_argument arguments limit limit mid ts
arguments_refuse limit ts rest mid xs so_far e flaw left h = row_refuses (Mark Comma) (is_mark Comma) an_argument argument_law refl argument_ends tt (λ xs. xs) (λ xs. xs) (λ xs. refl) (λ xs. refl) limit flaw ts rest mid left xs so_far e h

-- whether a list goes on
pub first_next : (first : Symbol → Bool) (ts : List Symbol) → stands_next first ts ≡ true → IsFirst first ts
first_next first [] e = cc
first_next first (t ∷ ts) e = (t, refl, e)

pub stops_next : (first : Symbol → Bool) (ts : List Symbol) → stands_next first ts ≡ false → Stops first ts
stops_next first [] e = tt
stops_next first (t ∷ ts) e = e

pub next_stops : (first : Symbol → Bool) (ts : List Symbol) → Stops first ts → stands_next first ts ≡ false
next_stops first [] e = refl
next_stops first (t ∷ ts) e = e

-- any number of phrases
module _ {X : Type 0} (g : Phrase X) (first : Symbol → Bool) (starts : Starts g first) (law : Lawful g) where
  pub many_none : (limit : ℕ) (ts : List Symbol) → ReadsSome g limit ts [] ts
  many_none = reads_none g first starts law

  pub many_more : (limit : ℕ) (ts mid rest : List Symbol) (xs : List X) (x : X) → ReadsSome g limit ts xs mid → Reads g limit mid x rest → ReadsSome g limit ts (xs ++ x ∷ []) rest
  many_more = reads_more g first starts law

  pub many_read : (limit : ℕ) (ts rest : List Symbol) (xs : List X) → ReadsSome g limit ts xs rest → stands_next first rest ≡ false → Reads (many g first) limit ts xs rest
  many_read limit ts rest xs so_far e = reads_many g first starts law limit ts rest xs so_far (stops_next first rest e)

  pub many_refuse : (limit : ℕ) (ts mid : List Symbol) (xs : List X) → ReadsSome g limit ts xs mid → stands_next first mid ≡ true → Carries g (many g first) limit limit mid ts
  many_refuse limit ts mid xs so_far e flaw rest h = refuses_many g first starts law limit flaw ts mid rest xs so_far (first_next first mid e) h

  rest_behind_some : (front rest : List Symbol) (t : Symbol) (ts : List Symbol) → front ≡ t ∷ ts → length rest < length (front ++ rest)
  rest_behind_some front rest t ts e = omega (arith, length-append front rest, ap length e)

  pub many_smaller : (limit : ℕ) (mid left : List Token) (x : X) → Reads g limit (symbols mid) x (symbols left) → length left < length mid
  many_smaller limit mid left x h =
      let b = starts.begins limit x h.whole in
      fewer_tokens_left mid left (subst (λ l. length (symbols left) < length l) (sym h.spelled) (rest_behind_some (g.spell x) (symbols left) b.0 b.1 b.2))
