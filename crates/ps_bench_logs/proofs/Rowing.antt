-- What a row says, by the parts of its line.
use Rattle.std.proofs.Common.{◌≡◌, ◌≢◌, inl, inr, ◌<◌, ◌∙◌, ◌==◌, ◌||◌, ◌&&◌, ℕ, List, [], ◌∷◌, Bool, true, false, not, Option, Some, None, is_some, if◌then◌else◌, codes, length, map, unwrap_or, nat_lt, refl, sym, ap, subst, arith, eq-eqb}
use Rattle.std.specs.Char.{is_ascii_digit, to_ascii_lowercase}
use Rattle.std.specs.List.{list_all}
use Rattle.std.specs.Str.{bytes_eq}
use Rattle.std.proofs.lemmas.Bool.Decides.{nat_tests}
use Rattle.std.proofs.lemmas.Slice.Eq.{bytes_eq-Decides}
use mathlib.Core.Path.{fun_ext}
use Rattle.ps_base.specs.LetterCase.{folded, is_same_name}
use Rattle.ps_trace.specs.Words.{digits_value, number_of}
use Rattle.ps_bench_names.specs.Names.{truth_of}
use Rattle.ps_bench_logs.specs.Fields.{fields_of}
use Rattle.ps_bench_logs.specs.Header.{Columns, has_mark}
use Rattle.ps_bench_logs.specs.Rows.{are_values, field_at, fields_said, line_said, restart_at, row_said, scan_said, value_at, values_at}
use Rattle.ps_bench_logs.specs.Rows.Said.{breaks}
use Rattle.ps_bench_logs.specs.Saying.{are_parts, part_values, parts_said, restart_part}
use Rattle.ps_bench_logs.specs.Spans.{IsCut, Shows, part_at}
use Rattle.ps_bench_logs.specs.declared.fields.Span.{Span}
use Rattle.ps_bench_logs.specs.declared.flaw.Flaw.TheVariants.{V1, V3}
use Rattle.ps_bench_logs.proofs.Naming.{shown_all}

-- ---- Bytes with quotation marks say nothing.

not_true : (t : Bool) → (t ≡ true → ⊥) → t ≡ false
not_true true differs = absurd (differs refl)
not_true false differs = refl

or_both : (a b t u : Bool) → (a ≡ true → b ≡ true) → (t ≡ true → u ≡ true) → (a || t) ≡ true → (b || u) ≡ true
or_both true b t u first second is = ap (λ (x : Bool). x || u) (first refl)
or_both false true t u first second is = refl
or_both false false t u first second is = second is

and_off : (a b t u : Bool) → (a ≡ true → b ≡ false) → (t ≡ true → u ≡ false) → (a || t) ≡ true → (b && u) ≡ false
and_off true b t u first second is = ap (λ (x : Bool). x && u) (first refl)
and_off false true t u first second is = second is
and_off false false t u first second is = refl

marked_differs : (word other : List ℕ) → has_mark word ≡ true → has_mark other ≡ false → bytes_eq word other ≡ false
marked_differs word other marked plain =
    not_true (bytes_eq word other) (λ is. let same : word ≡ other = (bytes_eq-Decides word other).0 is in
    let no : true ≡ false = sym marked ∙ ap has_mark same ∙ plain in let none : ⊥ = cc in none)

mark_lower : (b : ℕ) → (b == 34) ≡ true → (to_ascii_lowercase b == 34) ≡ true
mark_lower b is = let same : b ≡ 34 = grind (arith, nat_tests) in ap (λ (c : ℕ). to_ascii_lowercase c == 34) same

folded_marked : (word : List ℕ) → has_mark word ≡ true → has_mark (folded word) ≡ true
folded_marked [] marked = marked
folded_marked (b ∷ word) marked =
    or_both (b == 34) (to_ascii_lowercase b == 34) (has_mark word) (has_mark (folded word)) (mark_lower b) (folded_marked word) marked

named_differs : (word other : List ℕ) → has_mark word ≡ true → has_mark (folded other) ≡ false → is_same_name word other ≡ false
named_differs word other marked plain = marked_differs (folded word) (folded other) (folded_marked word marked) plain

no_truth : (word : List ℕ) → has_mark word ≡ true → truth_of word ≡ None
no_truth word marked =
    let zero : bytes_eq word (codes "0") ≡ false = marked_differs word (codes "0") marked refl in
    let no : is_same_name word (codes "FALSE") ≡ false = named_differs word (codes "FALSE") marked refl in
    let one : bytes_eq word (codes "1") ≡ false = marked_differs word (codes "1") marked refl in
    let yes : is_same_name word (codes "TRUE") ≡ false = named_differs word (codes "TRUE") marked refl in
    ap (λ (t : Bool). if t || is_same_name word (codes "FALSE") then Some false else if bytes_eq word (codes "1") || is_same_name word (codes "TRUE") then Some true else None) zero
    ∙ ap (λ (t : Bool). if t then Some false else if bytes_eq word (codes "1") || is_same_name word (codes "TRUE") then Some true else None) no
    ∙ ap (λ (t : Bool). if t || is_same_name word (codes "TRUE") then Some true else None) one
    ∙ ap (λ (t : Bool). if t then Some true else None) yes

mark_digit : (b : ℕ) → (b == 34) ≡ true → is_ascii_digit b ≡ false
mark_digit b is = let same : b ≡ 34 = grind (arith, nat_tests) in ap is_ascii_digit same

no_digits : (word : List ℕ) → has_mark word ≡ true → list_all is_ascii_digit word ≡ false
no_digits [] marked = let no : ⊥ = cc in absurd no
no_digits (b ∷ word) marked =
    and_off (b == 34) (is_ascii_digit b) (has_mark word) (list_all is_ascii_digit word) (mark_digit b) (no_digits word) marked

no_number : (word : List ℕ) → has_mark word ≡ true → number_of word ≡ None
no_number [] marked = refl
no_number (b ∷ word) marked =
    ap (λ (t : Bool). if t && nat_lt (digits_value (b ∷ word)) 4294967296 then Some (digits_value (b ∷ word)) else None) (no_digits (b ∷ word) marked)

-- so what shows a field says what the field says
same_truth : (bytes field : List ℕ) → Shows bytes field → truth_of bytes ≡ truth_of field
same_truth bytes field (inl same) = ap truth_of same
same_truth bytes field (inr marked) = no_truth bytes marked.0 ∙ sym (no_truth field marked.1)

same_number : (bytes field : List ℕ) → Shows bytes field → number_of bytes ≡ number_of field
same_number bytes field (inl same) = ap number_of same
same_number bytes field (inr marked) = no_number bytes marked.0 ∙ sym (no_number field marked.1)

-- ---- Rows.

module _ (line : List ℕ) (spans : List Span) (fields : List (List ℕ)) (cut : IsCut line spans (length spans) fields) where
  truths : ◌≡◌ {A = ℕ → Option Bool} (λ k. truth_of (part_at line spans k)) (λ k. value_at fields k)
  truths = fun_ext (λ k. same_truth (part_at line spans k) (field_at fields k) (shown_all line spans fields cut k))

  restarts : (restart : Option ℕ) → restart_part line spans restart ≡ restart_at fields restart
  restarts None = refl
  restarts (Some k) = ap (λ (f : ℕ → Option Bool). f k) truths

  -- a row says what its parts say
  pub row_parts : (time : ℕ) (restart : Option ℕ) (inputs : List ℕ) (last : ℕ) →
      row_said (record { width = length spans; time = time; restart = restart; inputs = inputs }) last fields
      ≡ parts_said line spans time restart inputs last
  row_parts time restart inputs last =
      ap (λ (t : Bool). if not t then breaks V1 else if not (are_values fields inputs) then breaks V3 else scan_said last (number_of (field_at fields time)) (restart_at fields restart) (values_at fields inputs))
      (eq-eqb (length fields) (length spans) cut.counted)
      ∙ ap (λ (f : ℕ → Option Bool). if not (list_all (λ k. is_some (f k)) inputs) then breaks V3 else scan_said last (number_of (field_at fields time)) (restart_at fields restart) (map (λ k. unwrap_or (f k) false) inputs)) (sym truths)
      ∙ ap (λ (n : Option ℕ). if not (are_parts line spans inputs) then breaks V3 else scan_said last n (restart_at fields restart) (part_values line spans inputs)) (sym (same_number (part_at line spans time) (field_at fields time) (shown_all line spans fields cut time)))
      ∙ ap (λ (r : Option Bool). if not (are_parts line spans inputs) then breaks V3 else scan_said last (number_of (part_at line spans time)) r (part_values line spans inputs)) (sym (restarts restart))

-- a line that is not empty says what its fields say
pub line_cut : (columns : Columns) (last : ℕ) (line : List ℕ) (fields : List (List ℕ)) → 0 < length line → fields_of line ≡ Some fields →
    line_said columns last line ≡ row_said columns last fields
line_cut columns last [] fields some is = absurd (omega (arith, some))
line_cut columns last (b ∷ line) fields some is = ap (fields_said columns last) is

-- one that has not the form is refused
pub line_broken : (columns : Columns) (last : ℕ) (line : List ℕ) → 0 < length line → fields_of line ≡ None → line_said columns last line ≡ breaks V1
line_broken columns last [] some is = absurd (omega (arith, some))
line_broken columns last (b ∷ line) some is = ap (fields_said columns last) is

-- so is one with other fields than the header has
pub row_other : (columns : Columns) (last : ℕ) (fields : List (List ℕ)) → length fields ≢ columns.width → row_said columns last fields ≡ breaks V1
row_other columns last fields other =
    let differs : (length fields == columns.width) ≡ false = grind (arith, nat_tests) in
    ap (λ (t : Bool). if not t then breaks V1 else if not (are_values fields columns.inputs) then breaks V3 else scan_said last (number_of (field_at fields columns.time)) (restart_at fields columns.restart) (values_at fields columns.inputs)) differs

-- a line that is cut into as many fields as columns says what its parts say
pub row_by_parts : (width time : ℕ) (restart : Option ℕ) (inputs : List ℕ) (line : List ℕ) (last : ℕ) (spans : List Span) (fields : List (List ℕ)) (count : ℕ) →
    0 < length line → IsCut line spans count fields → count ≡ length spans → width ≡ length spans →
    line_said (record { width = width; time = time; restart = restart; inputs = inputs }) last line ≡ parts_said line spans time restart inputs last
row_by_parts width time restart inputs line last spans fields count some cut all as_many =
    line_cut (record { width = width; time = time; restart = restart; inputs = inputs }) last line fields some cut.are
    ∙ ap (λ (w : ℕ). row_said (record { width = w; time = time; restart = restart; inputs = inputs }) last fields) as_many
    ∙ row_parts line spans fields (subst (λ (n : ℕ). IsCut line spans n fields) all cut) time restart inputs last
