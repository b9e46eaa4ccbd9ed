-- How a text is read piece by piece.
use Rattle.std.proofs.Common.{◌≡◌, ℕ, ◌+◌, ◌-◌, ◌<◌, ◌≤◌, ◌⊎◌, inl, inr, true, List, [], ◌∷◌, ◌++◌, length, take, slice_index, refl, sym, ap, subst, arith, length-append}
use Rattle.std.proofs.lemmas.List.{append-nil}
use Rattle.std.specs.List.{slice_range}
use Rattle.ps_base.specs.declared.failing.Place.{Place}
use Rattle.ps_lexer.specs.declared.token.Form.{Form}
use Rattle.ps_lexer.specs.declared.token.Token.{Token}
use Rattle.ps_lexer.specs.Gaps.{is_blank, IsBlockComment, IsLineComment, place_after}
use Rattle.ps_lexer.specs.Shapes.{IsLongest, Spells}
use Rattle.ps_lexer.specs.Reading.{SpansInOrder, Reads, nothing, blank, block, line, token}
use Rattle.ps_lexer.specs.Scanning.{Advances}
use Rattle.ps_lexer.proofs.Slices.{at_pair}

-- where a comment ends
pub block_within : (text : List ℕ) (i j : ℕ) → IsBlockComment text i j → j ≤ length text
block_within text i j c = let room = c.room in let two = at_pair text (j - 2) 42 41 c.closes in omega (arith, two.0)

pub read_append : {text : List ℕ} {i j k : ℕ} {ts us : List Token} → Reads text i ts j → Reads text j us k → Reads text i (ts ++ us) k
read_append nothing q = q
read_append (blank b p) q = blank b (read_append p q)
read_append (block c p) q = block c (read_append p q)
read_append (line c p) q = line c (read_append p q)
read_append (token t e is p) q = token t e is (read_append p q)

pub advances_blank : (text : List ℕ) (i : ℕ) (old : List Token) → i < length text → is_blank (slice_index text i) ≡ true → Advances text i (i + 1) old old
advances_blank text i old room b = record { ahead = omega arith; within = omega arith; more = []; items = sym (append-nil old); few = omega arith; read = blank b nothing }

pub advances_comment : (text : List ℕ) (i j : ℕ) (old : List Token) → IsBlockComment text i j ⊎ IsLineComment text i j → Advances text i j old old
advances_comment text i j old (inl c) = let room = c.room in record { ahead = omega arith; within = block_within text i j c; more = []; items = sym (append-nil old); few = omega arith; read = block c nothing }
advances_comment text i j old (inr c) = let ahead = c.ahead in record { ahead = omega arith; within = c.within; more = []; items = sym (append-nil old); few = omega arith; read = line c nothing }

pub advances_token : (text : List ℕ) (i j : ℕ) (f : Form) (place : Place) (old new : List Token) → place ≡ place_after (take i text) → IsLongest text i j × Spells f (slice_range text i j) → new ≡ old ++ record { form = f; «from» = i; upto = j; place = place } ∷ [] → Advances text i j old new
advances_token text i j f place old new stands h items = let ahead = h.0.ahead in record {
  ahead = h.0.ahead;
  within = h.0.within;
  more = record { form = f; «from» = i; upto = j; place = place } ∷ [];
  items = items;
  few = omega arith;
  read = token (record { form = f; «from» = i; upto = j; place = place }) refl (record { longest = h.0; spells = h.1; place = stands }) nothing;
}

pub read_advances : (text : List ℕ) (i j : ℕ) (old new : List Token) → Reads text 0 old i → Advances text i j old new → Reads text 0 new j
read_advances text i j old new r a = subst (λ ts. Reads text 0 ts j) (sym a.items) (read_append r a.read)

pub few_advance : (text : List ℕ) (i j : ℕ) (old new : List Token) → length old ≤ i → Advances text i j old new → length new ≤ j
few_advance text i j old new h a = let few = a.few in omega (arith, ap length a.items, length-append old a.more)

-- spans come one after another
from_earlier : (i m j : ℕ) (ts : List Token) → i ≤ m → SpansInOrder m ts j → SpansInOrder i ts j
from_earlier i m j [] h s = omega arith
from_earlier i m j (t ∷ ts) h s = let a = s.0 in (omega arith, s.1, s.2)

pub in_order : {text : List ℕ} {i j : ℕ} {ts : List Token} → Reads text i ts j → SpansInOrder i ts j
in_order nothing = omega arith
in_order {i = i} {j = j} {ts = ts} (blank b r) = from_earlier i (i + 1) j ts (omega arith) (in_order r)
in_order {i = i} {j = j} {ts = ts} (block {k = k} c r) = let room = c.room in from_earlier i k j ts (omega arith) (in_order r)
in_order {i = i} {j = j} {ts = ts} (line {k = k} c r) = let ahead = c.ahead in from_earlier i k j ts (omega arith) (in_order r)
in_order (token t e p r) = (omega arith, p.longest.ahead, in_order r)
