-- The fields of a line, one after another.
use Rattle.std.proofs.Common.{◌≡◌, ◌≢◌, ◌⊎◌, inl, inr, ◌≤◌, ◌<◌, ◌+◌, ◌-◌, ◌++◌, ◌∙◌, ◌==◌, ◌||◌, ℕ, List, [], ◌∷◌, Bool, true, false, Option, Some, None, option_map, length-set, length, take, drop, get_or, slice_index_or, slice_set, refl, sym, ap, subst, arith}
use Rattle.std.proofs.lemmas.Grind.{common_steps}
use Rattle.std.proofs.lemmas.Bool.{cases_lt}
use Rattle.std.proofs.lemmas.List.{drop-drop, get_or-drop, append-nil, append_assoc, drop_more, get_or_append_left, get_or_push, get_or-set_same, get_or-set_other}
use Rattle.std.proofs.Math.Seq.{take-add}
use Rattle.ps_bench_logs.specs.Fields.{fields_from, onto, onto_first}
use Rattle.ps_bench_logs.specs.Fields.Place.{begins, plain, quoted}
use Rattle.ps_bench_logs.specs.Header.{has_mark}
use Rattle.ps_bench_logs.specs.Spans.{Shows, Steps, fields_with, nowhere, part_at, part_of}
use Rattle.ps_bench_logs.specs.declared.fields.Span.{Span}
use Rattle.ps_bench_logs.specs.declared.fields.Step.TheVariants.{Byte, Close, Broken}

or_true : (t : Bool) → (t || true) ≡ true
or_true true = refl
or_true false = refl

-- ---- Bytes in front of a field.

-- these bytes in front of the first field
abbrev pub in_front : List ℕ → List (List ℕ) → List (List ℕ)
in_front bytes [] = []
in_front bytes (field ∷ fields) = (bytes ++ field) ∷ fields

abbrev pub front : List ℕ → Option (List (List ℕ)) → Option (List (List ℕ))
front bytes fields = option_map (in_front bytes) fields

in_front_none : (fs : List (List ℕ)) → fs ≡ in_front [] fs
in_front_none [] = refl
in_front_none (f ∷ fs) = refl

pub front_none : (fields : Option (List (List ℕ))) → fields ≡ front [] fields
front_none None = refl
front_none (Some fs) = ap (λ (gs : List (List ℕ)). Some gs) (in_front_none fs)

in_front_more : (bytes : List ℕ) (b : ℕ) (fs : List (List ℕ)) → in_front bytes (onto_first b fs) ≡ in_front (bytes ++ b ∷ []) fs
in_front_more bytes b [] = refl
in_front_more bytes b (f ∷ fs) = ap (λ (g : List ℕ). g ∷ fs) (sym (append_assoc bytes (b ∷ []) f))

pub front_more : (bytes : List ℕ) (b : ℕ) (fields : Option (List (List ℕ))) → front bytes (onto b fields) ≡ front (bytes ++ b ∷ []) fields
front_more bytes b None = refl
front_more bytes b (Some fs) = ap (λ (gs : List (List ℕ)). Some gs) (in_front_more bytes b fs)

-- a field that ends
with_field : (bytes : List ℕ) (fields : Option (List (List ℕ))) → front bytes (option_map (λ fs. [] ∷ fs) fields) ≡ option_map (λ fs. bytes ∷ fs) fields
with_field bytes None = refl
with_field bytes (Some fs) = ap (λ (f : List ℕ). Some (f ∷ fs)) (append-nil bytes)

pub front_ends : (bytes rest : List ℕ) → front bytes (fields_with [] rest) ≡ fields_with bytes rest
front_ends bytes [] = ap (λ (f : List ℕ). Some (f ∷ [])) (append-nil bytes)
front_ends bytes (b ∷ rest) = with_field bytes (fields_from begins rest)

-- ---- Fields without quotation marks.

-- before a comma or the end of the line a field ends
pub plain_ends : (rest : List ℕ) → (0 < length rest → get_or rest 0 0 ≡ 44) → fields_from plain rest ≡ fields_with [] rest
plain_ends [] comma = refl
plain_ends (b ∷ rest) comma = let is : b ≡ 44 = comma (omega arith) in ap (λ (c : ℕ). fields_from plain (c ∷ rest)) is

pub plain_more : (bytes : List ℕ) (b : ℕ) (rest : List ℕ) → b ≢ 44 → b ≢ 34 → front bytes (fields_from plain (b ∷ rest)) ≡ front (bytes ++ b ∷ []) (fields_from plain rest)
plain_more bytes b rest comma mark =
    let one : fields_from plain (b ∷ rest) ≡ onto b (fields_from plain rest) = grind (arith, common_steps) in
    ap (front bytes) one ∙ front_more bytes b (fields_from plain rest)

pub plain_marked : (bytes : List ℕ) (b : ℕ) (rest : List ℕ) → b ≡ 34 → front bytes (fields_from plain (b ∷ rest)) ≡ None
plain_marked bytes b rest mark = ap (λ (c : ℕ). front bytes (fields_from plain (c ∷ rest))) mark

-- a field that begins with no quotation mark is one without
pub begins_plain : (rest : List ℕ) → (0 < length rest → get_or rest 0 0 ≢ 34) → fields_from begins rest ≡ fields_from plain rest
begins_plain [] mark = refl
begins_plain (b ∷ rest) mark = let no : b ≢ 34 = mark (omega arith) in grind (arith, common_steps)

pub begins_quoted : (rest : List ℕ) → 0 < length rest → get_or rest 0 0 ≡ 34 → fields_from begins rest ≡ fields_from quoted (drop 1 rest)
begins_quoted [] some mark = absurd (omega (arith, some))
begins_quoted (b ∷ rest) some mark = ap (λ (c : ℕ). fields_from begins (c ∷ rest)) mark

-- ---- Fields between quotation marks.

-- one byte of a field
pub one_byte : (bytes : List ℕ) → 0 < length bytes → get_or bytes 0 0 ≢ 34 → Steps bytes (Byte 1)
one_byte [] some mark = absurd (omega (arith, some))
one_byte (b ∷ rest) some mark = (b, omega arith, omega arith, grind (arith, common_steps), inl refl)

-- a mark, for which two stand
pub two_marks : (bytes : List ℕ) → 2 ≤ length bytes → get_or bytes 0 0 ≡ 34 → get_or bytes 1 0 ≡ 34 → Steps bytes (Byte 2)
two_marks [] some first second = absurd (omega (arith, some))
two_marks (a ∷ []) some first second = absurd (omega (arith, some))
two_marks (a ∷ b ∷ rest) some first second =
    subst (λ (x : ℕ). Steps (x ∷ b ∷ rest) (Byte 2)) (sym first)
    (subst (λ (y : ℕ). Steps (34 ∷ y ∷ rest) (Byte 2)) (sym second) (34, omega arith, omega arith, refl, inr (refl, refl)))

-- the mark that closes a field
pub last_mark : (bytes : List ℕ) → 0 < length bytes → get_or bytes 0 0 ≡ 34 → (1 < length bytes → get_or bytes 1 0 ≡ 44) → Steps bytes Close
last_mark [] some first comma = absurd (omega (arith, some))
last_mark (a ∷ []) some first comma = subst (λ (x : ℕ). Steps (x ∷ []) Close) (sym first) (omega arith, refl)
last_mark (a ∷ b ∷ rest) some first comma =
    let second : b ≡ 44 = comma (omega arith) in
    subst (λ (x : ℕ). Steps (x ∷ b ∷ rest) Close) (sym first)
    (subst (λ (y : ℕ). Steps (34 ∷ y ∷ rest) Close) (sym second) (omega arith, refl))

-- a mark before another byte
pub lost_mark : (bytes : List ℕ) → 1 < length bytes → get_or bytes 0 0 ≡ 34 → get_or bytes 1 0 ≢ 34 → get_or bytes 1 0 ≢ 44 → Steps bytes Broken
lost_mark [] some first mark comma = absurd (omega (arith, some))
lost_mark (a ∷ []) some first mark comma = absurd (omega (arith, some))
lost_mark (a ∷ b ∷ rest) some first mark comma =
    let no : b ≢ 34 = mark in let other : b ≢ 44 = comma in
    subst (λ (x : ℕ). fields_from quoted (x ∷ b ∷ rest) ≡ None) (sym first) (grind (arith, common_steps))

-- bytes show a field, with one more
mark_or : (a t u : Bool) → (t ≡ true → u ≡ true) → (a || t) ≡ true → (a || u) ≡ true
mark_or true t u goes is = refl
mark_or false t u goes is = goes is

marked_more : (xs ys : List ℕ) → has_mark xs ≡ true → has_mark (xs ++ ys) ≡ true
marked_more [] ys marked = cc
marked_more (x ∷ xs) ys marked = mark_or (x == 34) (has_mark xs) (has_mark (xs ++ ys)) (marked_more xs ys) marked

marked_behind : (xs ys : List ℕ) → has_mark ys ≡ true → has_mark (xs ++ ys) ≡ true
marked_behind [] ys marked = marked
marked_behind (x ∷ xs) ys marked = ap (λ (t : Bool). x == 34 || t) (marked_behind xs ys marked) ∙ or_true (x == 34)

pub shown_more : (bytes field more : List ℕ) (b : ℕ) → Shows bytes field → (more ≡ b ∷ []) ⊎ ((b ≡ 34) × (has_mark more ≡ true)) →
    Shows (bytes ++ more) (field ++ b ∷ [])
shown_more bytes field more b (inl same) (inl one) = inl (ap (λ (xs : List ℕ). xs ++ more) same ∙ ap (λ (ys : List ℕ). field ++ ys) one)
shown_more bytes field more b (inl same) (inr two) = inr (marked_behind bytes more two.1, marked_behind field (b ∷ []) (ap (λ (x : ℕ). has_mark (x ∷ [])) two.0))
shown_more bytes field more b (inr marked) (inl one) = inr (marked_more bytes more marked.0, marked_more field (b ∷ []) marked.1)
shown_more bytes field more b (inr marked) (inr two) = inr (marked_more bytes more marked.0, marked_more field (b ∷ []) marked.1)

-- ---- Places.

-- a part of a line goes on
pub part_more : (line : List ℕ) (at end size upto : ℕ) → at ≤ end → end + size ≡ upto →
    take (upto - at) (drop at line) ≡ take (end - at) (drop at line) ++ take size (drop end line)
part_more line at end size upto behind is =
    let parts : upto - at ≡ (end - at) + size = omega (arith, behind, is) in
    let next : at + (end - at) ≡ end = omega (arith, behind) in
    ap (λ (n : ℕ). take n (drop at line)) parts ∙ take-add (end - at) size (drop at line)
    ∙ ap (λ (rest : List ℕ). take (end - at) (drop at line) ++ take size rest) (drop-drop (end - at) at line ∙ ap (λ (n : ℕ). drop n line) next)

-- the first byte from a place on
pub first_at : (line : List ℕ) (at : ℕ) → get_or (drop at line) 0 0 ≡ get_or line at 0
first_at line at = get_or-drop at line 0 0 ∙ ap (λ (n : ℕ). get_or line n 0) (omega arith)

-- nothing is in front of the fields of a line
pub nothing_cut : (fields : Option (List (List ℕ))) → fields ≡ option_map (λ fs. [] ++ fs) fields
nothing_cut None = refl
nothing_cut (Some fs) = refl

-- the last field is cut
pub cut_ends : (done : List (List ℕ)) (field rest : List ℕ) → rest ≡ [] → option_map (λ fs. done ++ fs) (fields_with field rest) ≡ Some (done ++ field ∷ [])
cut_ends done field rest none = ap (λ (bytes : List ℕ). option_map (λ fs. done ++ fs) (fields_with field bytes)) none

-- another one is
more_cut : (done : List (List ℕ)) (field : List ℕ) (fields : Option (List (List ℕ))) →
    option_map (λ fs. done ++ fs) (option_map (λ fs. field ∷ fs) fields) ≡ option_map (λ fs. (done ++ field ∷ []) ++ fs) fields
more_cut done field None = refl
more_cut done field (Some fs) = ap (λ (gs : List (List ℕ)). Some gs) (sym (append_assoc done (field ∷ []) fs))

pub cut_more : (done : List (List ℕ)) (field line : List ℕ) (end : ℕ) → end < length line →
    option_map (λ fs. done ++ fs) (fields_with field (drop end line)) ≡ option_map (λ fs. (done ++ field ∷ []) ++ fs) (fields_from begins (drop (end + 1) line))
cut_more done field line end some =
    ap (λ (rest : List ℕ). option_map (λ fs. done ++ fs) (fields_with field rest)) (drop_more line end 0 some)
    ∙ more_cut done field (fields_from begins (drop (end + 1) line))

-- the fields that were cut are shown, and this one
pub shown_put : (line : List ℕ) (spans : List Span) (span : Span) (done : List (List ℕ)) (field : List ℕ) (count : ℕ) → length done ≡ count →
    ((k : ℕ) → k < count → k < length spans → Shows (part_at line spans k) (slice_index_or done k [])) → Shows (part_of line span) field →
    (k : ℕ) → k < count + 1 → k < length (slice_set spans count span) → Shows (part_at line (slice_set spans count span) k) (slice_index_or (done ++ field ∷ []) k [])
shown_put line spans span done field count counted shown last k before room =
    let size : length (slice_set spans count span) ≡ length spans = length-set spans count span in
    elim (cases_lt k count) [
      | inl early ↦
          let other : k ≢ count = omega (arith, early) in
          subst (λ (s : Span). Shows (part_of line s) (slice_index_or (done ++ field ∷ []) k [])) (sym (get_or-set_other spans count k span nowhere other))
          (subst (λ (f : List ℕ). Shows (part_at line spans k) f) (sym (get_or_append_left done (field ∷ []) [] k (omega (arith, early, counted)))) (shown k early (omega (arith, room, size))))
      | inr late ↦
          let here : k ≡ count = omega (arith, late, before) in
          let within : count < length spans = omega (arith, here, room, size) in
          subst (λ (n : ℕ). Shows (part_at line (slice_set spans count span) n) (slice_index_or (done ++ field ∷ []) n [])) (sym here)
          (subst (λ (s : Span). Shows (part_of line s) (slice_index_or (done ++ field ∷ []) count [])) (sym (get_or-set_same spans count span nowhere within))
          (subst (λ (f : List ℕ). Shows (part_of line span) f) (sym (get_or_push done field [] count counted)) last))
    ]
