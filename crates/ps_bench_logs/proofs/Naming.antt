-- Where a header names its columns.
use Rattle.std.proofs.Common.{◌≡◌, inl, inr, ◌≤◌, ◌<◌, ◌+◌, ◌-◌, ◌∙◌, ℕ, zero, suc, List, [], ◌∷◌, Bool, true, false, not, ◌&&◌, ◌||◌, Option, Some, None, Ok, Err, if◌then◌else◌, codes, length, slice_index_or, refl, sym, ap, arith}
use Rattle.std.specs.List.{cons_option, filter, list_any, range_with_len}
use Rattle.std.proofs.lemmas.Grind.{common_steps}
use Rattle.std.proofs.lemmas.Bool.{cases_lt}
use Rattle.std.proofs.lemmas.List.{get_or_past}
use mathlib.Core.Path.{fun_ext}
use Rattle.csv.specs.Reading.{strip_bom}
use Rattle.ps_model.specs.Network.{Network, signal_name}
use Rattle.ps_bench_logs.specs.Fields.{fields_of}
use Rattle.ps_bench_logs.specs.Header.{header_said, is_named, names_column, names_said, places_of, time_name}
use Rattle.ps_bench_logs.specs.Spans.{IsCut, Shows, nowhere, part_at, part_of, parts_named, parts_said, placed, said_by_places, time_part, unless_flaw}
use Rattle.ps_bench_logs.specs.declared.fields.Span.{Span}
use Rattle.ps_bench_logs.specs.declared.flaw.Column.{Column}
use Rattle.ps_bench_logs.specs.declared.flaw.Column.TheVariants.{Time, Restart, Input}
use Rattle.ps_bench_logs.specs.declared.flaw.Flaw.{Flaw}
use Rattle.ps_bench_logs.specs.declared.flaw.Flaw.TheVariants.{V1}

-- the place that was found, if one was
abbrev pub place_list : Option ℕ → List ℕ
place_list None = []
place_list (Some k) = k ∷ []

-- a range that is not empty
pub range_first : (k n : ℕ) → k < n → range_with_len k (n - k) ≡ k ∷ range_with_len (k + 1) (n - (k + 1))
range_first k n some = let size : n - k ≡ suc (n - (k + 1)) = omega (arith, some) in ap (range_with_len k) size

pub range_over : (k n : ℕ) → n ≤ k → range_with_len k (n - k) ≡ []
range_over k n over = let size : n - k ≡ zero = omega (arith, over) in ap (range_with_len k) size

-- what passes is kept, and nothing else
filter_by : (p : ℕ → Bool) (k : ℕ) (ks : List ℕ) (t : Bool) → p k ≡ t → filter p (k ∷ ks) ≡ (if t then k ∷ filter p ks else filter p ks)
filter_by p k ks true is = grind (arith, common_steps)
filter_by p k ks false is = grind (arith, common_steps)

pub kept_first : (p : ℕ → Bool) (k n : ℕ) → k < n → p k ≡ true → filter p (range_with_len k (n - k)) ≡ k ∷ filter p (range_with_len (k + 1) (n - (k + 1)))
kept_first p k n some is = ap (filter p) (range_first k n some) ∙ filter_by p k (range_with_len (k + 1) (n - (k + 1))) true is

pub left_out : (p : ℕ → Bool) (k n : ℕ) → k < n → p k ≡ false → filter p (range_with_len k (n - k)) ≡ filter p (range_with_len (k + 1) (n - (k + 1)))
left_out p k n some is = ap (filter p) (range_first k n some) ∙ filter_by p k (range_with_len (k + 1) (n - (k + 1))) false is

-- a column that stands twice
pub stands_twice : (column : Column) (k l : ℕ) (places : List ℕ) → placed column (k ∷ l ∷ places) ≡ Err V1
stands_twice Time k l places = refl
stands_twice Restart k l places = refl
stands_twice (Input i) k l places = refl

pub stands_once : (column : Column) (k : ℕ) → placed column (k ∷ []) ≡ Ok (Some k)
stands_once Time k = refl
stands_once Restart k = refl
stands_once (Input i) k = refl

-- what shows a field is a name as the field is, so it names what the field names
same_name : (name bytes field : List ℕ) → Shows bytes field → is_named name bytes ≡ is_named name field
same_name name bytes field (inl same) = ap (is_named name) same
same_name name bytes field (inr marked) = grind (arith, common_steps)

pub same_named : (net : Network) (time : List ℕ) (column : Column) (bytes field : List ℕ) → Shows bytes field → names_column net time column bytes ≡ names_column net time column field
same_named net time Time bytes field shows = same_name time bytes field shows
same_named net time Restart bytes field shows = same_name (codes "@restart") bytes field shows
same_named net time (Input i) bytes field shows =
    λ j. same_name (signal_name net i) bytes field shows j && not (same_name time bytes field shows j)

-- lists of which each element passes a test alike
any_alike : {X Y : Type 0} (p : X → Bool) (q : Y → Bool) (d : X) (e : Y) (xs : List X) (ys : List Y) → length xs ≡ length ys →
    ((k : ℕ) → p (slice_index_or xs k d) ≡ q (slice_index_or ys k e)) → list_any p xs ≡ list_any q ys
any_alike p q d e [] [] size each = refl
any_alike p q d e [] (y ∷ ys) size each = absurd (omega (arith, size))
any_alike p q d e (x ∷ xs) [] size each = absurd (omega (arith, size))
any_alike p q d e (x ∷ xs) (y ∷ ys) size each =
    λ j. each 0 j || any_alike p q d e xs ys (omega (arith, size)) (λ k. each (suc k)) j

-- each field is shown, where all are
pub shown_all : (line : List ℕ) (spans : List Span) (header : List (List ℕ)) → IsCut line spans (length spans) header →
    (k : ℕ) → Shows (part_at line spans k) (slice_index_or header k [])
shown_all line spans header cut k = elim (cases_lt k (length spans)) [
  | inl within ↦ cut.shown k within within
  | inr past ↦ inl (ap (part_of line) (get_or_past spans k nowhere past) ∙ sym (get_or_past header k [] (omega (arith, past, cut.counted))))
]

-- so the parts say what the column of the time is called
time_alike : (line : List ℕ) (spans : List Span) (header : List (List ℕ)) → IsCut line spans (length spans) header → time_name header ≡ time_part line spans
time_alike line spans header cut =
    ap (λ (t : Bool). if t then codes "@time" else codes "time")
    (any_alike (is_named (codes "@time")) (λ span. is_named (codes "@time") (part_of line span)) [] nowhere header spans cut.counted
    (λ k. sym (same_name (codes "@time") (part_at line spans k) (slice_index_or header k []) (shown_all line spans header cut k))))

-- and name columns as the fields do
pub parts_name : (net : Network) (line : List ℕ) (spans : List Span) (header : List (List ℕ)) → IsCut line spans (length spans) header →
    (column : Column) → places_of net header column ≡ parts_named net (time_part line spans) line spans column
parts_name net line spans header cut column =
    let time = time_part line spans in
    let each : (k : ℕ) → names_column net time column (part_at line spans k) ≡ names_column net time column (slice_index_or header k []) =
    λ k. same_named net time column (part_at line spans k) (slice_index_or header k []) (shown_all line spans header cut k) in
    (λ j. filter (λ k. names_column net (time_alike line spans header cut j) column (slice_index_or header k [])) (range_with_len 0 (cut.counted j)))
    ∙ ap (λ (p : ℕ → Bool). filter p (range_with_len 0 (length spans))) (sym (fun_ext each))

-- what is said of a header is said by its parts
pub parts_say : (net : Network) (line : List ℕ) (spans : List Span) (header : List (List ℕ)) → IsCut line spans (length spans) header →
    names_said net (Some header) ≡ parts_said net line spans
parts_say net line spans header cut =
    ap (λ (places : Column → List ℕ). said_by_places net (length header) places) (fun_ext (parts_name net line spans header cut))
    ∙ ap (λ (n : ℕ). said_by_places net n (parts_named net (time_part line spans) line spans)) cut.counted

-- a column that is found, before others
pub found_first : (f : Option Flaw) (place found : Option ℕ) (flaws : List Flaw) → unless_flaw f place ≡ Ok found → (cons_option f flaws ≡ flaws) × (place ≡ found)
found_first None place found flaws is = let same : place ≡ found = cc in (refl, same)
found_first (Some other) place found flaws is = let no : ⊥ = cc in absurd no

-- what is wrong with a column comes first
pub flaw_first : (f : Option Flaw) (place : Option ℕ) (flaw : Flaw) (flaws : List Flaw) → unless_flaw f place ≡ Err flaw → cons_option f flaws ≡ flaw ∷ flaws
flaw_first None place flaw flaws is = let no : ⊥ = cc in absurd no
flaw_first (Some other) place flaw flaws is = let same : other ≡ flaw = cc in ap (λ (x : Flaw). x ∷ flaws) same

-- what a header says is said by its parts
pub header_found : (net : Network) (text line : List ℕ) (spans : List Span) (header : List (List ℕ)) → line ≡ strip_bom text →
    IsCut line spans (length spans) header → header_said net text ≡ parts_said net line spans
header_found net text line spans header is cut =
    ap (λ (bytes : List ℕ). names_said net (fields_of bytes)) (sym is) ∙ ap (names_said net) cut.are ∙ parts_say net line spans header cut
