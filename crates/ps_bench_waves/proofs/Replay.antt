-- The scans that were written are read.
use Rattle.std.proofs.Common.{◌≡◌, ◌<◌, ◌+◌, ◌^◌, ◌++◌, ◌∙◌, ◌==◌, ◌&&◌, ◌||◌, ℕ, List, [], ◌∷◌, Bool, true, false, not, if◌then◌else◌, Option, Some, None, map, length, flat_map, codes, decimal, refl, sym, ap, arith, append_assoc, true≢false, eqb-true}
use Rattle.std.specs.List.{range_with_len, AllByRecursion}
use Rattle.std.specs.Str.{bytes_eq}
use Rattle.std.specs.Str.Parse.{digits_value}
use Rattle.std.proofs.lemmas.Slice.Eq.{bytes_eq-Decides}
use Rattle.ps_bench_waves.specs.Values.{Held, is_same, same_bit}
use Rattle.ps_bench_waves.specs.Values.Held.{bit, vector, words}
use Rattle.ps_bench_waves.specs.Identifiers.{identifier}
use Rattle.ps_bench_waves.specs.Text.{Moment, bits, shown_byte, change_text, changes, scans_text}
use Rattle.ps_bench_waves.specs.Reading.{Known, Seen, tokens, events_from, words_from, with_change, unknown, scans_from, scans_in, scans_read}
use Rattle.ps_bench_waves.specs.Reading.Event.{time, change}
use Rattle.ps_bench_waves.specs.ReadBack.{HasPlace, IsReadable, identifiers, seen}
use Rattle.ps_bench_waves.proofs.Tokens.{token_before, token_of, identifier_ink, identifier_some, identifier_unique, decimal_ink, decimal_back, bits_ink, bits_length, bits_back, words_ink, words_back}

-- ---- A change.

-- an identifier at the end of a line, after a value
named : (n : ℕ) (v : Held) (rest : List ℕ) → events_from (tokens (identifier n ++ 10 ∷ rest)) (Some v) ≡ change (identifier n) v ∷ events_from (tokens rest) None
named n v rest = ap (λ (ts : List (List ℕ)). events_from ts (Some v)) (token_of (identifier n) 10 rest (identifier_some n) (identifier_ink n) refl)

-- a line of a change, and what stands after it
line_apart : (value name rest : List ℕ) → (value ++ (name ++ codes "\n")) ++ rest ≡ value ++ (name ++ 10 ∷ rest)
line_apart value name rest = append_assoc value (name ++ codes "\n") rest ∙ ap (λ (bytes : List ℕ). value ++ bytes) (append_assoc name (codes "\n") rest)

-- a value after its letter, and what stands after the blank
value_apart : (digits rest : List ℕ) → (digits ++ codes " ") ++ rest ≡ digits ++ 32 ∷ rest
value_apart digits rest = append_assoc digits (codes " ") rest

change_read : (n : ℕ) (v : Held) (rest : List ℕ) → HasPlace v → events_from (tokens (change_text n v ++ rest)) None ≡ change (identifier n) v ∷ events_from (tokens rest) None
change_read n (bit true) rest place =
    ap (λ (text : List ℕ). events_from (tokens text) None) (line_apart (49 ∷ []) (identifier n) rest)
    ∙ ap (λ (ts : List (List ℕ)). events_from ts None) (token_before 49 (identifier n) 10 rest (refl, identifier_ink n) refl)
change_read n (bit false) rest place =
    ap (λ (text : List ℕ). events_from (tokens text) None) (line_apart (48 ∷ []) (identifier n) rest)
    ∙ ap (λ (ts : List (List ℕ)). events_from ts None) (token_before 48 (identifier n) 10 rest (refl, identifier_ink n) refl)
change_read n (vector width number) rest place =
    let digits = bits width number in let name = identifier n ++ 10 ∷ rest in
    ap (λ (text : List ℕ). events_from (tokens text) None) (line_apart (98 ∷ (digits ++ codes " ")) (identifier n) rest ∙ ap (λ (text : List ℕ). 98 ∷ text) (value_apart digits name))
    ∙ ap (λ (ts : List (List ℕ)). events_from ts None) (token_before 98 digits 32 name (refl, bits_ink width number) refl)
    ∙ named n (vector (length digits) (digits_value 2 digits)) rest
    ∙ ap (λ (w : ℕ). change (identifier n) (vector w (digits_value 2 digits)) ∷ events_from (tokens rest) None) (bits_length width number)
    ∙ ap (λ (m : ℕ). change (identifier n) (vector width m) ∷ events_from (tokens rest) None) (bits_back width number place)
change_read n (words bytes) rest place =
    let text = flat_map shown_byte bytes in let name = identifier n ++ 10 ∷ rest in
    ap (λ (all : List ℕ). events_from (tokens all) None) (line_apart (115 ∷ (text ++ codes " ")) (identifier n) rest ∙ ap (λ (all : List ℕ). 115 ∷ all) (value_apart text name))
    ∙ ap (λ (ts : List (List ℕ)). events_from ts None) (token_before 115 text 32 name (refl, words_ink bytes place) refl)
    ∙ named n (words (words_from 0 text)) rest
    ∙ ap (λ (w : List ℕ). change (identifier n) (words w) ∷ events_from (tokens rest) None) (words_back bytes place)

-- ---- What is known after changes.

-- a wire has another from now on, where it is written
known_if : (written : Bool) → (n : ℕ) → Held → Known → Known
known_if written n v known = if written then with_change (identifier n) v known else known

-- what is known after the changes of the wires from a number on
known_after : (all : Bool) → (n : ℕ) → (last now : List Held) → Known → Known
known_after all n last [] known = known
known_after all n [] (v ∷ vs) known = known
known_after all n (b ∷ last) (v ∷ vs) known = known_after all (n + 1) last vs (known_if (all || not (is_same b v)) n v known)

module _ (wires : List (List ℕ)) (now : ℕ) where
  one_replayed : (written : Bool) (n : ℕ) (v : Held) (known : Known) (rest : List ℕ) → HasPlace v →
      scans_from wires now known (events_from (tokens ((if written then change_text n v else []) ++ rest)) None) ≡ scans_from wires now (known_if written n v known) (events_from (tokens rest) None)
  unfolding known_if
  one_replayed true n v known rest place = ap (scans_from wires now known) (change_read n v rest place)
  one_replayed false n v known rest place = refl

  all_replayed : (all : Bool) (n : ℕ) (last vs : List Held) (known : Known) (rest : List ℕ) → AllByRecursion HasPlace vs →
      scans_from wires now known (events_from (tokens (changes all n last vs ++ rest)) None) ≡ scans_from wires now (known_after all n last vs known) (events_from (tokens rest) None)
  unfolding known_after
  all_replayed all n last [] known rest places = refl
  all_replayed all n [] (v ∷ vs) known rest places = refl
  all_replayed all n (b ∷ last) (v ∷ vs) known rest places =
      let written = all || not (is_same b v) in let others = changes all (n + 1) last vs in
      ap (λ (text : List ℕ). scans_from wires now known (events_from (tokens text) None)) (append_assoc (if written then change_text n v else []) others rest)
      ∙ one_replayed written n v known (others ++ rest) places.0
      ∙ all_replayed all (n + 1) last vs (known_if written n v known) rest places.1

-- ---- What is known is what the wires have.

-- the wires from a number on are known to have these
Knows : Known → (n : ℕ) → List Held → Type 0
Knows known n [] = Unit {0}
Knows known n (v ∷ vs) = (known (identifier n) ≡ Some v) × Knows known (n + 1) vs

alike : (a : List ℕ) → bytes_eq a a ≡ true
alike a = (bytes_eq-Decides a a).1 refl

apart : (m n : ℕ) → (m ≡ n → ⊥) → bytes_eq (identifier m) (identifier n) ≡ false
apart m n other = by (bytes_eq (identifier m) (identifier n)) refl
  where
    by : (t : Bool) → bytes_eq (identifier m) (identifier n) ≡ t → t ≡ false
    by true is = absurd (other (identifier_unique m n ((bytes_eq-Decides (identifier m) (identifier n)).0 is)))
    by false is = refl

same_value : (x y : Bool) → same_bit x y ≡ true → x ≡ y
same_value true true is = refl
same_value true false is = sym is
same_value false true is = is
same_value false false is = refl

both_hold : (x y : Bool) → (x && y) ≡ true → (x ≡ true) × (y ≡ true)
both_hold true y is = (refl, is)
both_hold false y is = absurd (true≢false (sym is))

same_held : (a b : Held) → is_same a b ≡ true → a ≡ b
same_held (bit x) (bit y) is = ap bit (same_value x y is)
same_held (bit x) (vector w n) is = absurd (true≢false (sym is))
same_held (bit x) (words other) is = absurd (true≢false (sym is))
same_held (vector v m) (bit y) is = absurd (true≢false (sym is))
same_held (vector v m) (vector w n) is =
    let both = both_hold (v == w) (m == n) is in
    ap (λ (x : ℕ). vector x m) (eqb-true v w both.0) ∙ ap (vector w) (eqb-true m n both.1)
same_held (vector v m) (words other) is = absurd (true≢false (sym is))
same_held (words bytes) (bit y) is = absurd (true≢false (sym is))
same_held (words bytes) (vector w n) is = absurd (true≢false (sym is))
same_held (words bytes) (words other) is = ap words ((bytes_eq-Decides bytes other).0 is)

-- another wire's change leaves a wire
other_kept : (written : Bool) (m n : ℕ) (v : Held) (known : Known) → (m ≡ n → ⊥) → known_if written n v known (identifier m) ≡ known (identifier m)
unfolding known_if
other_kept true m n v known other = ap (λ (t : Bool). if t then Some v else known (identifier m)) (apart m n other)
other_kept false m n v known other = refl

-- the changes of the later wires leave a wire
earlier_kept : (all : Bool) (m n : ℕ) (last vs : List Held) (known : Known) → m < n → known_after all n last vs known (identifier m) ≡ known (identifier m)
unfolding known_after
earlier_kept all m n last [] known less = refl
earlier_kept all m n [] (v ∷ vs) known less = refl
earlier_kept all m n (b ∷ last) (v ∷ vs) known less =
    let written = all || not (is_same b v) in
    earlier_kept all m (n + 1) last vs (known_if written n v known) (omega arith) ∙ other_kept written m n v known (λ is. omega (arith, is))

-- a change leaves the later wires
later_kept : (written : Bool) (n : ℕ) (v : Held) (known : Known) (m : ℕ) (vs : List Held) → n < m → Knows known m vs → Knows (known_if written n v known) m vs
unfolding Knows
later_kept written n v known m [] less knows = tt
later_kept written n v known m (w ∷ vs) less knows =
    (other_kept written m n v known (λ is. omega (arith, is)) ∙ knows.0, later_kept written n v known (m + 1) vs (omega arith) knows.1)

-- after a wire's change it is known to have what it has: what was written, or what it had
own_known : (all same : Bool) (n : ℕ) (b v : Held) (known : Known) → is_same b v ≡ same → (all ≡ false → known (identifier n) ≡ Some b) → known_if (all || not same) n v known (identifier n) ≡ Some v
unfolding known_if
own_known true same n b v known is had = ap (λ (t : Bool). if t then Some v else known (identifier n)) (alike (identifier n))
own_known false false n b v known is had = ap (λ (t : Bool). if t then Some v else known (identifier n)) (alike (identifier n))
own_known false true n b v known is had = had refl ∙ ap Some (same_held b v is)

knows_all : (all : Bool) (n : ℕ) (last vs : List Held) (known : Known) → length last ≡ length vs → (all ≡ false → Knows known n last) → Knows (known_after all n last vs known) n vs
unfolding known_after Knows
knows_all all n last [] known sizes had = tt
knows_all all n [] (v ∷ vs) known sizes had = absurd (omega (arith, sizes))
knows_all all n (b ∷ last) (v ∷ vs) known sizes had =
    let written = all || not (is_same b v) in let more = known_if written n v known in (
      earlier_kept all n (n + 1) last vs more (omega arith) ∙ own_known all (is_same b v) n b v known refl (λ had_none. (had had_none).0),
      knows_all all (n + 1) last vs more (omega (arith, sizes)) (λ had_none. later_kept written n v known (n + 1) last (omega arith) (had had_none).1),
    )

-- what is known of all wires
all_known : (known : Known) (n : ℕ) (vs : List Held) → Knows known n vs → map known (map identifier (range_with_len n (length vs))) ≡ map Some vs
unfolding Knows
all_known known n [] knows = refl
all_known known n (v ∷ vs) knows = ap (λ (x : Option Held). x ∷ map known (map identifier (range_with_len (n + 1) (length vs)))) knows.0 ∙ ap (λ (xs : List (Option Held)). Some v ∷ xs) (all_known known (n + 1) vs knows.1)

-- ---- Scans.

-- the time of a scan, and what stands after it
time_read : (now : ℕ) (rest : List ℕ) → now < 2 ^ 32 → events_from (tokens (35 ∷ (decimal now ++ 10 ∷ rest))) None ≡ time now ∷ events_from (tokens rest) None
time_read now rest small =
    ap (λ (ts : List (List ℕ)). events_from ts None) (token_before 35 (decimal now) 10 rest (refl, decimal_ink now (omega arith)) refl)
    ∙ ap (λ (n : ℕ). time n ∷ events_from (tokens rest) None) (decimal_back now (omega arith))

-- a scan's text, in front of the later ones
later_apart : (now : ℕ) (lines rest : List ℕ) → (codes "#" ++ (decimal now ++ (codes "\n" ++ lines))) ++ rest ≡ 35 ∷ (decimal now ++ 10 ∷ (lines ++ rest))
later_apart now lines rest = ap (λ (bytes : List ℕ). 35 ∷ bytes) (append_assoc (decimal now) (10 ∷ lines) rest)

first_apart : (now : ℕ) (lines rest : List ℕ) → (codes "#" ++ (decimal now ++ (codes "\n" ++ (codes "$dumpvars\n" ++ (lines ++ codes "$end\n"))))) ++ rest ≡ 35 ∷ (decimal now ++ (codes "\n$dumpvars\n" ++ (lines ++ (codes "$end\n" ++ rest))))
first_apart now lines rest =
    ap (λ (bytes : List ℕ). 35 ∷ bytes) (append_assoc (decimal now) (codes "\n$dumpvars\n" ++ (lines ++ codes "$end\n")) rest)
    ∙ ap (λ (bytes : List ℕ). 35 ∷ (decimal now ++ (codes "\n$dumpvars\n" ++ bytes))) (append_assoc lines (codes "$end\n") rest)

module _ (wires : ℕ) where
  -- where so many wires are known to have these
  wires_known : (known : Known) (vs : List Held) → length vs ≡ wires → Knows known 0 vs → map known (identifiers wires) ≡ map Some vs
  wires_known known vs size knows = ap (λ (n : ℕ). map known (map identifier (range_with_len 0 n))) (sym size) ∙ all_known known 0 vs knows

  later_read : (at : ℕ) (known : Known) (last : List Held) (moments : List Moment) → length last ≡ wires → Knows known 0 last → AllByRecursion (IsReadable wires) moments →
      scans_from (identifiers wires) at known (events_from (tokens (scans_text true last moments)) None) ≡ record { now = at; values = map Some last } ∷ map seen moments
  later_read at known last [] size knows readable = ap (λ (xs : List (Option Held)). record { now = at; values = xs } ∷ []) (wires_known known last size knows)
  later_read at known last (m ∷ moments) size knows readable =
      let rest = scans_text true m.values moments in let lines = changes false 0 last m.values in
      let ids = identifiers wires in let after = known_after false 0 last m.values known in
      let begin : Seen = record { now = at; values = map known ids } in
      ap (λ (text : List ℕ). scans_from ids at known (events_from (tokens text) None)) (later_apart m.now lines rest)
      ∙ ap (scans_from ids at known) (time_read m.now (lines ++ rest) readable.0.time)
      ∙ ap (λ (scans : List Seen). begin ∷ scans) (all_replayed ids m.now false 0 last m.values known rest readable.0.places)
      ∙ ap (λ (scans : List Seen). begin ∷ scans) (later_read m.now after m.values moments readable.0.wires_are (knows_all false 0 last m.values known (size ∙ sym readable.0.wires_are) (λ _. knows)) readable.1)
      ∙ ap (λ (xs : List (Option Held)). record { now = at; values = xs } ∷ map seen (m ∷ moments)) (wires_known known last size knows)

  pub scans_back : (blank : List Held) (moments : List Moment) → length blank ≡ wires → AllByRecursion (IsReadable wires) moments →
      scans_read (identifiers wires) (scans_text false blank moments) ≡ map seen moments
  scans_back blank [] size readable = refl
  scans_back blank (m ∷ moments) size readable =
      let rest = scans_text true m.values moments in let lines = changes true 0 blank m.values in
      let ids = identifiers wires in let after = known_after true 0 blank m.values unknown in
      let tail = lines ++ (codes "$end\n" ++ rest) in
      ap (λ (text : List ℕ). scans_in ids (events_from (tokens text) None)) (first_apart m.now lines rest)
      ∙ ap (scans_in ids) (time_read m.now (codes "$dumpvars\n" ++ tail) readable.0.time)
      ∙ all_replayed ids m.now true 0 blank m.values unknown (codes "$end\n" ++ rest) readable.0.places
      ∙ later_read m.now after m.values moments readable.0.wires_are (knows_all true 0 blank m.values unknown (size ∙ sym readable.0.wires_are) (λ all. absurd (true≢false all))) readable.1
