-- The CSV of a run is the table that a reader is to see.
use Rattle.std.proofs.Common.{◌≡◌, ◌∙◌, ◌++◌, ◌+◌, ◌/◌, ◌%◌, ◌<◌, ◌≤◌, ◌^◌, ◌&&◌, ◌||◌, ◌==◌, not, ℕ, zero, suc, Bool, true, false, List, [], ◌∷◌, Option, Some, length, map, codes, decimal, if◌then◌else◌, refl, sym, ap, subst, append_assoc, length-append, arith}
use Rattle.std.specs.Char.{digit_value}
use Rattle.std.specs.List.{AllByRecursion, list_any}
use Rattle.std.specs.Str.Parse.{AllDigits, digits_value}
use Rattle.std.proofs.lemmas.Bool.{and_parts, eqb-true}
use Rattle.std.proofs.lemmas.Bool.Decides.{nat_tests}
use Rattle.std.proofs.lemmas.Fmt.{decimal_is_IsNumeral}
use Rattle.std.proofs.lemmas.Str.Parse.{digit_from_value}
use Rattle.csv.specs.Machine.{next_record}
use Rattle.csv.specs.Reading.{default_config, records, records_from, records_next}
use Rattle.csv.specs.Writing as csv
use Rattle.csv.specs.Writing.{default_writer, is_blank, needs_byte, quoted, read_back, row_text}
use Rattle.csv.specs.declared.parser.State.TheVariants as st
use Rattle.csv.proofs.RoundTrip.{read-write, rows_text}
use Rattle.ps_bench_names.specs.declared.name.Name.{Name}
use Rattle.ps_bench_names.specs.declared.name.Name.TheVariants.{Signal, Code, Pin}
use Rattle.ps_bench_judge.specs.Moments.{Moment, is_stopped}
use Rattle.ps_bench_judge.specs.Named.{value_in}
use Rattle.ps_model.specs.Meaning.{Item}
use Rattle.ps_model.specs.Meaning.Item.{scan, restart}
use Rattle.ps_model.specs.Network.{Network}
use Rattle.ps_model.specs.Stored.{bit}
use Rattle.ps_report.specs.Lines.{code_text}
use Rattle.ps_bench_waves.specs.Lines.{csv_names, csv_row, fields_text, head_text}
use Rattle.ps_bench_waves.specs.Shown.{digit, field_text}
use Rattle.ps_bench_waves.specs.declared.format.Format.TheVariants.{Csv}
use Rattle.ps_bench_waves.specs.Watching.{Before, at_first, at_restart, behind_scan, cell_in, items_text}
use Rattle.ps_bench_watch.proofs.Digits.{AllBelow, below, code_digits, four_digits, hex_digit}
use Rattle.ps_bench_watch.specs.Reread.{IsInBits}
use Rattle.ps_bench_watch.specs.Rows.{Row, row_read, row_seen, rows_seen, table_of, table_read}

-- ---- Fields without a mark of the format.

-- a field is written as it is
abbrev IsPlain : List ℕ → Type 0
IsPlain field = list_any (needs_byte default_writer) field ≡ false

plain_field : (field : List ℕ) → IsPlain field → csv.field_text default_writer field ≡ field
plain_field field plain = ap (λ (needs : Bool). if needs then quoted default_writer field else field) plain

plain_digit : (b : ℕ) → digit_value b < 10 → needs_byte default_writer b ≡ false
plain_digit b small = let range = digit_from_value b small in grind (arith, nat_tests)

plain_digits : (digits : List ℕ) → AllDigits 10 digits → IsPlain digits
plain_digits [] are = refl
plain_digits (b ∷ digits) are = λ i. plain_digit b are.0 i || plain_digits digits are.1 i

plain_decimal : (n : ℕ) → n < 2 ^ 64 → IsPlain (decimal n)
plain_decimal n small = plain_digits (decimal n) (decimal_is_IsNumeral n small).0.1

plain_truth : (v : ℕ) → IsPlain (digit v)
plain_truth v = chosen (v == 0)
  where
    chosen : (is_none : Bool) → IsPlain (if is_none then codes "0" else codes "1")
    chosen true = refl
    chosen false = refl

-- ---- DiagCodes.

-- a digit is read as its number, and no mark of the format
abbrev is_read : ℕ → Bool
is_read n = (digit_value (hex_digit n) == n) && not (needs_byte default_writer (hex_digit n))

all_read : AllBelow is_read 16
all_read =
    (refl, (refl, (refl, (refl, (refl, (refl, (refl, (refl, (refl, (refl, (refl, (refl, (refl, (refl, (refl, (refl, tt))))))))))))))))

not_needed : (needs : Bool) → not needs ≡ true → needs ≡ false
not_needed true is = sym is
not_needed false is = refl

hex_facts : (n : ℕ) → n < 16 → (digit_value (hex_digit n) ≡ n) × (needs_byte default_writer (hex_digit n) ≡ false)
hex_facts n small =
    let both = and_parts (digit_value (hex_digit n) == n) (not (needs_byte default_writer (hex_digit n))) (below is_read 16 n all_read small) in
    (eqb-true (digit_value (hex_digit n)) n both.0, not_needed (needs_byte default_writer (hex_digit n)) both.1)

plain_four : (n : ℕ) → n < 2 ^ 16 → IsPlain (four_digits n)
plain_four n small =
    λ i. (hex_facts (n / 256 / 16) (omega arith)).1 i || ((hex_facts (n / 256 % 16) (omega arith)).1 i
    || ((hex_facts (n % 256 / 16) (omega arith)).1 i || ((hex_facts (n % 256 % 16) (omega arith)).1 i || false)))

read_four : (n : ℕ) → n < 2 ^ 16 → digits_value 16 (four_digits n) ≡ n
read_four n small =
    omega (
      arith,
      (hex_facts (n / 256 / 16) (omega arith)).0,
      (hex_facts (n / 256 % 16) (omega arith)).0,
      (hex_facts (n % 256 / 16) (omega arith)).0,
      (hex_facts (n % 256 % 16) (omega arith)).0,
    )

plain_code : (n : ℕ) → n < 2 ^ 16 → IsPlain (code_text n)
plain_code n small = subst IsPlain (sym (code_digits n small)) (plain_four n small)

read_code : (n : ℕ) → n < 2 ^ 16 → digits_value 16 (code_text n) ≡ n
read_code n small = ap (digits_value 16) (code_digits n small) ∙ read_four n small

-- ---- Values.

read_bit : (radix : ℕ) (b : Bool) → digits_value radix (digit (bit b)) ≡ bit b
read_bit radix true = omega arith
read_bit radix false = omega arith

read_truth : (b : Bool) → (digits_value 10 (digit (bit b)) == 1) ≡ b
read_truth true = refl
read_truth false = refl

plain_value : (net : Network) (m : Moment) → IsInBits net m → (name : Name) → IsPlain (field_text name (value_in net m name))
plain_value net m bits (Signal s) = plain_truth (value_in net m (Signal s))
plain_value net m bits (Code i) = plain_code (value_in net m (Code i)) (bits.codes i)
plain_value net m bits (Pin i j) = plain_truth (value_in net m (Pin i j))

read_value : (net : Network) (m : Moment) → IsInBits net m → (name : Name) →
    digits_value 16 (field_text name (value_in net m name)) ≡ value_in net m name
read_value net m bits (Signal s) = read_bit 16 _
read_value net m bits (Code i) = read_code (value_in net m (Code i)) (bits.codes i)
read_value net m bits (Pin i j) = read_bit 16 _

-- ---- Rows.

module _ (net : Network) (names : List Name) where
  -- the fields of values
  abbrev values_shown : Moment → List Name → List (List ℕ)
  values_shown m some = map (λ (name : Name). field_text name (value_in net m name)) some

  -- the fields of a scan
  abbrev row_shown : (is_restarted : Bool) → Moment → List (List ℕ)
  row_shown is_restarted m =
      decimal m.now ∷ digit (bit is_restarted) ∷ digit (bit (is_stopped m.verdict)) ∷ values_shown m names

  read_values : (m : Moment) → IsInBits net m → (some : List Name) →
      map (digits_value 16) (values_shown m some) ≡ map (value_in net m) some
  read_values m bits [] = refl
  read_values m bits (name ∷ some) = λ i. read_value net m bits name i ∷ read_values m bits some i

  -- the fields of a scan are read as the scan
  read_row : (is_restarted : Bool) (m : Moment) → IsInBits net m →
      row_read (row_shown is_restarted m) ≡ Some (row_seen net names is_restarted m)
  read_row is_restarted m bits = λ i. Some (record {
    now = (decimal_is_IsNumeral m.now (omega (arith, bits.time))).1 i;
    is_restarted = read_truth is_restarted i;
    is_stopped = read_truth (is_stopped m.verdict) i;
    values = read_values m bits names i;
  })

  fields_same : (b : Before) (m : Moment) → IsInBits net m → (some : List Name) →
      fields_text (map (cell_in net b m) some) ≡ csv.fields_text default_writer (values_shown m some)
  unfolding csv.fields_text
  fields_same b m bits [] = refl
  fields_same b m bits (name ∷ some) =
      let plain = sym (plain_field (field_text name (value_in net m name)) (plain_value net m bits name)) in
      λ i. 44 ∷ (plain i ++ fields_same b m bits some i)

  -- the row of a scan is the record of its fields
  row_same : (b : Before) (m : Moment) → IsInBits net m →
      csv_row m.now b.is_restarted m.verdict (map (cell_in net b m) names) ≡ row_text default_writer (row_shown b.is_restarted m)
  unfolding csv.fields_text is_blank
  row_same b m bits =
      let time = decimal m.now in
      let restarted = digit (bit b.is_restarted) in
      let stopped = digit (bit (is_stopped m.verdict)) in
      let values = csv.fields_text default_writer (values_shown m names) in
      let end : List ℕ = codes "\n" in
      let shown = fields_text (map (cell_in net b m) names) in
      let mark : List ℕ = codes "," in
      let plain_time = sym (plain_field time (plain_decimal m.now (omega (arith, bits.time)))) in
      let plain_restarted = sym (plain_field restarted (plain_truth (bit b.is_restarted))) in
      let plain_stopped = sym (plain_field stopped (plain_truth (bit (is_stopped m.verdict)))) in
      append_assoc (time ++ mark ++ restarted ++ mark ++ stopped) shown end
      ∙ append_assoc (time ++ mark ++ restarted ++ mark) stopped (shown ++ end)
      ∙ append_assoc (time ++ mark ++ restarted) mark (stopped ++ (shown ++ end))
      ∙ append_assoc (time ++ mark) restarted (mark ++ (stopped ++ (shown ++ end)))
      ∙ append_assoc time mark (restarted ++ (mark ++ (stopped ++ (shown ++ end))))
      ∙ ap (λ (fields : List ℕ). time ++ 44 ∷ (restarted ++ 44 ∷ (stopped ++ (fields ++ end)))) (fields_same b m bits names)
      ∙ ap (λ (text : List ℕ). time ++ 44 ∷ (restarted ++ 44 ∷ text)) (sym (append_assoc stopped values end))
      ∙ ap (λ (text : List ℕ). time ++ 44 ∷ text) (sym (append_assoc restarted (44 ∷ (stopped ++ values)) end))
      ∙ sym (append_assoc time (44 ∷ (restarted ++ 44 ∷ (stopped ++ values))) end)
      ∙ (λ i. (plain_time i ++ 44 ∷ (plain_restarted i ++ 44 ∷ (plain_stopped i ++ values))) ++ end)

  -- the records of the scans among items
  abbrev rows_shown : (is_restarted : Bool) → List Item → List Moment → List (List (List ℕ))
  rows_shown is_restarted [] ms = []
  rows_shown is_restarted (restart ∷ items) ms = rows_shown true items ms
  rows_shown is_restarted (scan now ins ∷ items) [] = []
  rows_shown is_restarted (scan now ins ∷ items) (m ∷ ms) = row_shown is_restarted m ∷ rows_shown false items ms

  items_same : (b : Before) (items : List Item) (ms : List Moment) → AllByRecursion (IsInBits net) ms →
      items_text net Csv names b items ms ≡ rows_text (rows_shown b.is_restarted items ms)
  unfolding rows_text
  items_same b [] ms bits = refl
  items_same b (restart ∷ items) ms bits = items_same at_restart items ms bits
  items_same b (scan now ins ∷ items) [] bits = refl
  items_same b (scan now ins ∷ items) (m ∷ ms) bits =
      λ i. row_same b m bits.0 i ++ items_same (behind_scan m) items ms bits.1 i

  read_rows : (is_restarted : Bool) (items : List Item) (ms : List Moment) → AllByRecursion (IsInBits net) ms →
      map row_read (map read_back (rows_shown is_restarted items ms))
      ≡ map (λ (row : Row). Some row) (rows_seen net names is_restarted items ms)
  read_rows is_restarted [] ms bits = refl
  read_rows is_restarted (restart ∷ items) ms bits = read_rows true items ms bits
  read_rows is_restarted (scan now ins ∷ items) [] bits = refl
  read_rows is_restarted (scan now ins ∷ items) (m ∷ ms) bits =
      λ i. read_row is_restarted m bits.0 i ∷ read_rows false items ms bits.1 i

-- ---- All records of a text.

-- a text with a line feed after it has a byte
ended_long : (text marks later : List ℕ) → 1 + length later ≤ length ((text ++ (marks ++ 10 ∷ [])) ++ later)
ended_long text marks later =
    let end : List ℕ = 10 ∷ [] in
    omega (arith, length-append (text ++ (marks ++ end)) later, length-append text (marks ++ end), length-append marks end)

-- each record has one
rows_long : (rows : List (List (List ℕ))) → length rows ≤ length (rows_text rows)
unfolding rows_text
rows_long [] = omega arith
rows_long (row ∷ rows) =
    omega (
      arith,
      ended_long (csv.row_body default_writer row)
          (if is_blank default_writer row then 34 ∷ 34 ∷ [] else []) (rows_text rows),
      rows_long rows,
    )

-- what the writer of records wrote is read, and nothing else
all_records : (rows : List (List (List ℕ))) (n : ℕ) → length rows < n →
    records_from default_config n st.StartRecord (rows_text rows) ≡ map read_back rows
unfolding records_from rows_text next_record
all_records rows zero less = absurd (omega (arith, less))
all_records [] (suc n) less = refl
all_records (row ∷ rows) (suc n) less =
    ap (records_next (records_from default_config n)) (read-write row (rows_text rows))
    ∙ ap (λ (later : List (List (List ℕ))). read_back row ∷ later) (all_records rows n (omega (arith, less)))

records_back : (rows : List (List (List ℕ))) → records default_config (rows_text rows) ≡ map read_back rows
records_back rows = all_records rows (length (rows_text rows) + 1) (omega (arith, rows_long rows))

-- the CSV of a run is read as its table
pub table_back : (net : Network) (names : List Name) (items : List Item) (ms : List Moment) →
    AllByRecursion (IsInBits net) ms →
    table_read (head_text net Csv names ++ items_text net Csv names at_first items ms)
    ≡ Some (record { names = csv_names net names; rows = map (λ (row : Row). Some row) (rows_seen net names false items ms) })
unfolding rows_text
table_back net names items ms bits =
    let rows = rows_shown net names false items ms in
    ap (λ (text : List ℕ). table_read (head_text net Csv names ++ text)) (items_same net names at_first items ms bits)
    ∙ ap table_of (records_back (csv_names net names ∷ rows))
    ∙ ap (λ (read : List (Option Row)). Some (record { names = csv_names net names; rows = read })) (read_rows net names false items ms bits)
