-- Symbols are read as a phrase, or refused: how this composes.
use Rattle.std.proofs.Common.{◌≡◌, ℕ, zero, suc, ◌<◌, ◌≤◌, length, Bool, true, false, List, [], ◌∷◌, ◌++◌, Some, refl, sym, ap, ◌∙◌, subst, length-append, eq-eqb, arith}
use Rattle.std.proofs.lemmas.Bool.{false≢true}
use Rattle.ps_parser.specs.declared.sign.Sign.{Sign}
use Rattle.ps_parser.specs.declared.stop.Flaw.{Flaw}
use Rattle.ps_parser.specs.declared.stop.Flaw.TheVariants.{Unexpected}
use Rattle.ps_parser.specs.Symbol.{Symbol, Mark, is_mark, rank}
use Rattle.ps_parser.specs.Phrase.{Phrase, next, Reads, Refuses, ◌then◌, just, many, behind, joined, seen}
use Rattle.ps_parser.specs.Parses.{stands_next}
use Rattle.ps_parser.proofs.Phrases.{Lawful, Starts, ReadsSome, row_starts, row_more, row_reads, row_refuses_first, row_refuses}
use Rattle.ps_parser.proofs.Joints.{Joint, Twin, Carries, in_first, in_second, in_seen, reads_both, reads_as}
use Rattle.ps_parser.proofs.Rows.{many_none, many_more, many_read, many_refuse}
use Rattle.ps_parser.proofs.Signs.{mark_is, not_next}
use Rattle.ps_parser.proofs.Expressions.{refuses_just, reads_sign}

-- The symbols are read as a phrase, or they are refused.
pub data Decided {X : Type 0} (g : Phrase X) (limit : ℕ) (ts : List Symbol) : Type 0 where
  reads : (x : X) (rest : List Symbol) → Reads g limit ts x rest → Decided g limit ts
  refuses : (flaw : Flaw) (rest : List Symbol) → Refuses g limit flaw ts rest → Decided g limit ts

-- what is decided of a part decides the whole, where the whole is refused with the part
pub carried : {X Y : Type 0} (g : Phrase X) (h : Phrase Y) (inner outer : ℕ) (mid ts : List Symbol) → Carries g h inner outer mid ts
    → ((x : X) (rest : List Symbol) → Reads g inner mid x rest → Decided h outer ts) → Decided g inner mid → Decided h outer ts
carried g h inner outer mid ts step goes_on (reads x rest r) = goes_on x rest r
carried g h inner outer mid ts step goes_on (refuses flaw left r) = refuses flaw left (step flaw left r)

-- one phrase and then another
pub both_decided : {X Y : Type 0} {a : Phrase X} {b : Phrase Y} (j : Joint a b) (n : ℕ) (ts : List Symbol) → Decided a n ts → ((rest : List Symbol) → Decided b n rest) → Decided (a then b) n ts
both_decided {a = a} {b = b} j n ts first each =
    carried a (a then b) n n ts ts (in_first j n ts)
    (λ x mid r. carried b (a then b) n n mid ts (in_second j n ts mid x r) (λ y rest q. reads (x, y) rest (reads_both j n ts mid rest x y r q)) (each mid)) first

-- the phrases of one kind, seen as those of another
pub seen_decided : {X Y : Type 0} {view : Y → X} {g : Phrase X} (w : Twin view) (n : ℕ) (ts : List Symbol) → Decided g n ts → Decided (seen view g) n ts
seen_decided {view = view} {g = g} w n ts d =
    carried g (seen view g) n n ts ts (in_seen w n ts)
    (λ x rest r. reads (w.back x) rest (reads_as view n ts rest (w.back x) (subst (λ z. Reads g n ts z rest) (sym (w.there x)) r))) d

-- a sign is itself
pub itself : (s : Sign) → is_mark s (Mark s) ≡ true
itself s = eq-eqb (rank s) (rank s) refl

-- what a test says of the next symbol
pub data IsNext (s : Sign) (ts : List Symbol) : Type 0 where
  stands : (rest : List Symbol) → ts ≡ Mark s ∷ rest → IsNext s ts
  absent : (next ts ≡ Some (Mark s) → ⊥) → IsNext s ts

pub is_next : (s : Sign) (ts : List Symbol) → IsNext s ts
is_next s [] = absent (λ e. cc)
is_next s (t ∷ ts) = by (is_mark s t) refl
  where
    other : is_mark s t ≡ false → Some t ≡ Some (Mark s) → ⊥
    other is e = let same : t ≡ Mark s = cc in false≢true (sym is ∙ ap (is_mark s) same ∙ itself s)

    by : (b : Bool) → is_mark s t ≡ b → IsNext s (t ∷ ts)
    by true is = stands ts (ap (λ u. u ∷ ts) (mark_is s t is))
    by false is = absent (other is)

-- one sign
pub sign_decided : (s : Sign) (n : ℕ) (ts : List Symbol) → Decided (just (Mark s)) n ts
sign_decided s n ts = elim (is_next s ts) [
  | stands rest e ↦ reads tt rest (reads_sign (Mark s) n ts rest e)
  | absent none ↦ refuses Unexpected ts (refuses_just (Mark s) (tt, tt) n ts none)
]

-- what is left after a phrase is no longer than what it was read from
rest_no_longer : {X : Type 0} (g : Phrase X) (n : ℕ) (ts rest : List Symbol) (x : X) → Reads g n ts x rest → length rest ≤ length ts
rest_no_longer g n ts rest x r = omega (arith, ap length r.spelled, length-append (g.spell x) rest)

-- One or more phrases with a sign between each two, seen as a tree.
module _ {X Y : Type 0} (s : Sign) (g : Phrase X) (law : Lawful g) (own : is_mark s (Mark s) ≡ true) (parts : (x : X) (u : Symbol) → is_mark s u ≡ true → g.goes_on x u ≡ false)
    (view : Y → List X) (back : List X → Y) (there : (xs : List X) → view (back xs) ≡ xs) (here : (y : Y) → back (view y) ≡ y) (n : ℕ) (each : (ts : List Symbol) → Decided g n ts) where
  abbrev Row : List Symbol → Type 0
  Row ts = Decided (seen view (joined (Mark s) (is_mark s) g)) n ts

  -- what is left after so many phrases is gone on with
  row_from : (fuel : ℕ) (ts rest : List Symbol) (xs : List X) → 0 < length xs → ReadsSome (behind (Mark s) g) n (Mark s ∷ ts) xs rest → length rest < fuel → Row ts
  row_from zero ts rest xs some so_far less = absurd (omega arith)
  row_from (suc fuel) ts rest xs some so_far less = by (row_from fuel ts) (is_next s rest)
    where
      by : ((left : List Symbol) (ys : List X) → 0 < length ys → ReadsSome (behind (Mark s) g) n (Mark s ∷ ts) ys left → length left < fuel → Row ts) → IsNext s rest → Row ts
      by later (absent none) = reads (back xs) rest (row_reads (Mark s) (is_mark s) g law own parts tt view back there here n ts rest xs some so_far (not_next s rest none))
      by later (stands mid e) =
          carried g (seen view (joined (Mark s) (is_mark s) g)) n n mid ts (λ flaw left r. row_refuses (Mark s) (is_mark s) g law own parts tt view back there here n flaw ts rest mid left xs so_far e r)
          (λ x left r. later left (xs ++ x ∷ []) (omega (arith, length-append xs (x ∷ [])))
          (row_more (Mark s) (is_mark s) g law own parts tt view back there here n ts rest mid left xs x so_far e r) (omega (arith, ap length e, rest_no_longer g n mid left x r, less)))
          (each mid)

  pub row_decided : (ts : List Symbol) → Row ts
  row_decided ts =
      carried g (seen view (joined (Mark s) (is_mark s) g)) n n ts ts (λ flaw left r. row_refuses_first (Mark s) (is_mark s) g law own parts tt view back there here n flaw ts left r)
      (λ x rest r. row_from (suc (length rest)) ts rest (x ∷ []) (omega arith) (row_starts (Mark s) (is_mark s) g law own parts tt view back there here n ts rest x r) (omega arith))
      (each ts)

-- Any number of phrases, of which each begins with one of the first symbols.
module _ {X : Type 0} (g : Phrase X) (first : Symbol → Bool) (starts : Starts g first) (law : Lawful g) (n : ℕ) (each : (ts : List Symbol) → Decided g n ts) where
  -- a phrase of the list takes a symbol at least
  shorter : (mid rest : List Symbol) (x : X) → Reads g n mid x rest → length rest < length mid
  shorter mid rest x r =
      let b = starts.begins n x r.whole in
      omega (arith, ap length r.spelled, length-append (g.spell x) rest, ap length b.2)

  many_from : (fuel : ℕ) (ts mid : List Symbol) (xs : List X) → ReadsSome g n ts xs mid → length mid < fuel → Decided (many g first) n ts
  many_from zero ts mid xs so_far less = absurd (omega arith)
  many_from (suc fuel) ts mid xs so_far less = by (many_from fuel ts) (stands_next first mid) refl
    where
      by : ((rest : List Symbol) (ys : List X) → ReadsSome g n ts ys rest → length rest < fuel → Decided (many g first) n ts) → (b : Bool) → stands_next first mid ≡ b → Decided (many g first) n ts
      by later false is = reads xs mid (many_read g first starts law n ts mid xs so_far is)
      by later true is =
          carried g (many g first) n n mid ts (many_refuse g first starts law n ts mid xs so_far is)
          (λ x rest r. later rest (xs ++ x ∷ []) (many_more g first starts law n ts mid rest xs x so_far r) (omega (arith, shorter mid rest x r, less)))
          (each mid)

  pub many_decided : (ts : List Symbol) → Decided (many g first) n ts
  many_decided ts = many_from (suc (length ts)) ts ts [] (many_none g first starts law n ts) (omega arith)
