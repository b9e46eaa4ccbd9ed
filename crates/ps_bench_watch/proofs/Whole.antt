-- The log of a run means the scans of the run.
use Rattle.std.proofs.Common.{◌≡◌, ◌∙◌, ◌++◌, ◌+◌, ◌-◌, ◌≤◌, ◌<◌, ◌^◌, ◌==◌, ◌&&◌, ◌||◌, ℕ, zero, suc, Bool, true, false, List, [], ◌∷◌, Ok, codes, decimal, get_or, length, map, slice_index, take, if◌then◌else◌, refl, sym, ap, append_assoc, arith}
use Rattle.std.specs.List.{list_all}
use Rattle.std.specs.Str.Lines.{strip_carriage_return}
use Rattle.std.proofs.lemmas.Bool.{le-ltb}
use Rattle.std.proofs.lemmas.Bool.Decides.{nat_tests}
use Rattle.std.proofs.lemmas.Fmt.{length-decimal-le}
use Rattle.std.proofs.lemmas.List.{length-append}
use Rattle.std.proofs.lemmas.List.Folds.{list_all-append}
use Rattle.csv.specs.Reading.{strip_bom}
use Rattle.csv.specs.Writing as csv
use Rattle.csv.specs.Writing.{default_writer, is_blank, row_text}
use Rattle.ps_bench_cases.proofs.ReadBack.{both_hold}
use Rattle.ps_lines.specs.Lines.{HasNoLineFeed, Line, kept_of, lines_from, raw_lines}
use Rattle.ps_lines.specs.Lines.Line.{Kept, Large, Long}
use Rattle.ps_lines.specs.Lines.RawLine.{Ended}
use Rattle.ps_lines.proofs.Cut.{raw_lines-ended}
use Rattle.ps_bench_logs.specs.Header.{header_said, names_said}
use Rattle.ps_bench_logs.specs.Log.{Log, before_log, columns_in, columns_of, items_of, last_after, log_behind, log_from, log_lines, log_of, onto_log, rows_of}
use Rattle.ps_bench_logs.specs.Log.End.{whole}
use Rattle.ps_bench_logs.specs.Rows.{Said, line_said}
use Rattle.ps_bench_logs.specs.Rows.Said.{scans}
use Rattle.ps_bench_logs.specs.declared.limits.TheConstants.{LARGEST_LOG, LONGEST_LOG_LINE}
use Rattle.ps_model.specs.Meaning.{Item, Past, Runs, last as ending_at, nothing}
use Rattle.ps_model.specs.Meaning.Item.{scan, restart}
use Rattle.ps_model.specs.Network.{Network, input_count}
use Rattle.ps_model.specs.Scanning.{State}
use Rattle.ps_model.specs.Sound.{IsSound}
use Rattle.ps_model.specs.Stored.{bit}
use Rattle.ps_bench_watch.specs.Logged.{HasLogNames, logged}
use Rattle.ps_bench_watch.proofs.Bytes.{all_more, bare_decimal, is_bare, is_bare_byte, is_line_byte, line_of_bare, written_plain}
use Rattle.ps_bench_watch.proofs.Columns.{found, header_names}
use Rattle.ps_bench_watch.proofs.Cutting.{fields_back, tail_text}
use Rattle.ps_bench_watch.proofs.Labels.{names_bare}
use Rattle.ps_bench_watch.proofs.Rows.{bare_later, later_fields, line_says, row_is, row_line}
use Rattle.ps_bench_watch.proofs.Sizes.{row_length}
use Rattle.ps_machine.specs.Items.{AreTimely}
use Rattle.ps_bench_judge.specs.Moments.{Moment, is_stopped}
use Rattle.ps_bench_judge.specs.Named.{value_in}
use Rattle.ps_bench_judge.specs.Runs.{moments_of, seen_as}
use Rattle.ps_bench_waves.specs.Lines.{csv_row, head_text}
use Rattle.ps_bench_waves.specs.Names.{all_names}
use Rattle.ps_bench_waves.specs.Shown.{label}
use Rattle.ps_bench_waves.specs.declared.format.Format.TheVariants.{Csv}
use Rattle.ps_bench_waves.specs.Watching.{Before, at_first, at_restart, behind_scan, cell_in, items_text, watch_text}
use Rattle.ps_world.specs.Answers.{Answer}

-- ---- Lines.

abbrev is_line : List ℕ → Bool
is_line line = list_all is_line_byte line

line_tail : (fields : List (List ℕ)) → list_all is_bare fields ≡ true → is_line (tail_text fields) ≡ true
line_tail [] bare = refl
line_tail (field ∷ fields) bare =
    let both = both_hold (is_bare field) (list_all is_bare fields) bare in
    list_all-append is_line_byte field (tail_text fields)
    ∙ (λ k. all_more is_bare_byte is_line_byte line_of_bare field both.0 k && line_tail fields both.1 k)

line_both : (field : List ℕ) (fields : List (List ℕ)) → is_bare field ≡ true → list_all is_bare fields ≡ true → is_line (field ++ tail_text fields) ≡ true
line_both field fields first later =
    list_all-append is_line_byte field (tail_text fields)
    ∙ (λ k. all_more is_bare_byte is_line_byte line_of_bare field first k && line_tail fields later k)

no_feed : (line : List ℕ) → is_line line ≡ true → HasNoLineFeed line
no_feed [] is = refl
no_feed (b ∷ line) is =
    let both = both_hold (is_line_byte b) (is_line line) is in
    λ k. feed b both.0 k || no_feed line both.1 k
  where
    feed : (b : ℕ) → is_line_byte b ≡ true → (b == 10) ≡ false
    feed b is = grind (arith, nat_tests)

not_return : (line : List ℕ) (k : ℕ) → is_line line ≡ true → (slice_index line k == 13) ≡ false
not_return [] k is = refl
not_return (b ∷ line) zero is = return b (both_hold (is_line_byte b) (is_line line) is).0
  where
    return : (b : ℕ) → is_line_byte b ≡ true → (b == 13) ≡ false
    return b is = grind (arith, nat_tests)
not_return (b ∷ line) (suc k) is = not_return line k (both_hold (is_line_byte b) (is_line line) is).1

stripped : (line : List ℕ) → is_line line ≡ true → strip_carriage_return line ≡ line
stripped line is = ap (λ (t : Bool). if t then take (length line - 1) line else line) (not_return line (length line - 1) is)

-- the lines from an offset on
abbrev lines : ℕ → List ℕ → List Line
lines at text = lines_from LARGEST_LOG LONGEST_LOG_LINE at (raw_lines text)

-- a line that is kept, and what is after it
line_front : (at : ℕ) (line rest : List ℕ) → is_line line ≡ true → length line ≤ LONGEST_LOG_LINE →
    at + length ((line ++ codes "\n") ++ rest) ≤ LARGEST_LOG →
    lines at ((line ++ codes "\n") ++ rest) ≡ Kept line ∷ lines (at + length (line ++ codes "\n")) rest
line_front at line rest one short fits =
    let size : length (line ++ codes "\n") ≡ length line + 1 = length-append line (codes "\n") in
    let all : length ((line ++ codes "\n") ++ rest) ≡ length (line ++ codes "\n") + length rest = length-append (line ++ codes "\n") rest in
    let small : at + (length line + 1) ≤ LARGEST_LOG = omega (arith, size, all, fits) in
    ap (λ (text : List ℕ). lines at text) (append_assoc line (codes "\n") rest)
    ∙ ap (lines_from LARGEST_LOG LONGEST_LOG_LINE at) (raw_lines-ended line rest (no_feed line one))
    ∙ ap (λ (t : Bool). (if t then Large else kept_of LONGEST_LOG_LINE (Ended line)) ∷ lines (at + (length line + 1)) rest) (le-ltb LARGEST_LOG (at + (length line + 1)) small)
    ∙ ap (λ (t : Bool). (if t then Long else Kept (strip_carriage_return line)) ∷ lines (at + (length line + 1)) rest) (le-ltb LONGEST_LOG_LINE (length line) short)
    ∙ ap (λ (k : List ℕ). Kept k ∷ lines (at + (length line + 1)) rest) (stripped line one)
    ∙ ap (λ (n : ℕ). Kept line ∷ lines (at + n) rest) (sym size)

-- ---- The rows.

-- each scan has an answer
abbrev pub HaveAnswers : List Item → List Answer → Type 0
HaveAnswers [] given = Unit {0}
HaveAnswers (restart ∷ items) given = HaveAnswers items given
HaveAnswers (scan now ins ∷ items) [] = ⊥
HaveAnswers (scan now ins ∷ items) (a ∷ given) = HaveAnswers items given

before_items : (is_restarted : Bool) (now : ℕ) (ins : List Bool) (items : List Item) →
    before_log (items_of now is_restarted ins) (record { items = items; end = whole }) ≡ record { items = items_of now is_restarted ins ++ items; end = whole }
before_items true now ins items = refl
before_items false now ins items = refl

module _ (net : Network) (sound : IsSound net) (named : HasLogNames net) where
  -- what a log means from an offset on
  abbrev means : (number last at : ℕ) → List ℕ → Log
  means number last at text = log_from (found net sound named) number last (lines at text)

  -- the rows of items mean the items
  abbrev text_of : Before → List Item → List Moment → List ℕ
  text_of b items ms = items_text net Csv (all_names net) b items ms

  row_short : (m : Moment) (is_restarted : Bool) → m.now < 2 ^ 32 → length (row_line net m is_restarted) ≤ LONGEST_LOG_LINE
  row_short m is_restarted small =
      let digits : length (decimal m.now) ≤ 10 = length-decimal-le 10 m.now (omega arith) (omega (arith, small)) (omega (arith, small)) in
      omega (arith, row_length net sound (value_in net m) (decimal m.now) (bit is_restarted) (bit (is_stopped m.verdict)) digits)

  row_means : (m : Moment) (b : Before) (ins : List Bool) (number last at : ℕ) (rest : List ℕ) (items : List Item) →
      ((i : ℕ) → i < input_count net → get_or m.signals i false ≡ get_or ins i false) → length ins ≡ input_count net → last ≤ m.now → m.now < 2 ^ 32 →
      at + length (csv_row m.now b.is_restarted m.verdict (map (cell_in net b m) (all_names net)) ++ rest) ≤ LARGEST_LOG →
      ((number at : ℕ) → at + length rest ≤ LARGEST_LOG → means number m.now at rest ≡ record { items = items; end = whole }) →
      means number last at (csv_row m.now b.is_restarted m.verdict (map (cell_in net b m) (all_names net)) ++ rest)
      ≡ record { items = items_of m.now b.is_restarted ins ++ items; end = whole }
  row_means m b ins number last at rest items has size on small fits later =
      let line = row_line net m b.is_restarted in
      let same : csv_row m.now b.is_restarted m.verdict (map (cell_in net b m) (all_names net)) ++ rest ≡ (line ++ codes "\n") ++ rest =
      ap (λ (row : List ℕ). row ++ rest) (row_is net m b.is_restarted b) in
      let fits_line : at + length ((line ++ codes "\n") ++ rest) ≤ LARGEST_LOG = omega (arith, fits, ap (λ (text : List ℕ). length text) same) in
      let behind = at + length (line ++ codes "\n") in
      let one = line_both (decimal m.now) (later_fields net m b.is_restarted) (bare_decimal m.now (omega (arith, small))) (bare_later net m b.is_restarted) in
      let says : line_said (found net sound named) last line ≡ scans m.now b.is_restarted ins = line_says net m b.is_restarted sound named ins has last size on small in
      ap (λ (text : List ℕ). means number last at text) same
      ∙ ap (log_from (found net sound named) number last) (line_front at line rest one (row_short m b.is_restarted small) fits_line)
      ∙ ap (λ (said : Said). onto_log said number (log_from (found net sound named) (number + 1) (last_after said last) (lines behind rest))) says
      ∙ ap (before_log (items_of m.now b.is_restarted ins)) (later (number + 1) behind (omega (arith, fits_line, length-append (line ++ codes "\n") rest)))
      ∙ before_items b.is_restarted m.now ins items

  rows_mean : (b : Before) (past : Past) (items : List Item) (given : List Answer) (ws : List State) (number last at : ℕ) →
      HaveAnswers items given → Runs net past items ws → AreTimely (input_count net) last items →
      at + length (text_of b items (moments_of net past items given ws)) ≤ LARGEST_LOG →
      means number last at (text_of b items (moments_of net past items given ws)) ≡ record { items = logged b.is_restarted items; end = whole }
  rows_mean b past [] given ws number last at answered runs timely fits = refl
  rows_mean b past (restart ∷ items) given ws number last at answered runs timely fits =
      rows_mean at_restart nothing items given ws number last at answered runs timely fits
  rows_mean b past (scan now ins ∷ items) [] ws number last at answered runs timely fits = absurd answered
  rows_mean b past (scan now ins ∷ items) (a ∷ given) [] number last at answered runs timely fits = absurd runs
  rows_mean b past (scan now ins ∷ items) (a ∷ given) (w ∷ ws) number latest at answered runs timely fits =
      let m = seen_as net past now a w in
      let later = moments_of net (ending_at now w) items given ws in
      row_means m b ins number latest at (text_of (behind_scan m) items later) (logged false items) runs.0.inputs timely.2 timely.0 timely.1 fits
      (λ next behind room. rows_mean (behind_scan m) (ending_at now w) items given ws next now behind answered runs.1 timely.3 room)

  -- ---- The header.

  -- the line of the header
  abbrev header_line : List ℕ
  header_line = codes "@time" ++ tail_text (codes "@restart" ∷ codes "@trip" ∷ map (label net) (all_names net))

  labels_bare : list_all is_bare (map (label net) (all_names net)) ≡ true
  labels_bare = names_bare net sound named

  written_fields : (fields : List (List ℕ)) → list_all is_bare fields ≡ true → csv.fields_text default_writer fields ≡ tail_text fields
  unfolding csv.fields_text
  written_fields [] bare = refl
  written_fields (field ∷ fields) bare =
      let both = both_hold (is_bare field) (list_all is_bare fields) bare in
      λ k. 44 ∷ (written_plain field both.0 k ++ written_fields fields both.1 k)

  head_is : head_text net Csv (all_names net) ≡ header_line ++ codes "\n"
  unfolding csv.fields_text is_blank
  head_is =
      ap (λ (fields : List ℕ). (codes "@time" ++ fields) ++ codes "\n")
      (written_fields (codes "@restart" ∷ codes "@trip" ∷ map (label net) (all_names net)) (λ k. labels_bare k))

  header_means : header_said net header_line ≡ Ok (found net sound named)
  unfolding strip_bom
  header_means =
      ap (names_said net) (fields_back (codes "@time") (codes "@restart" ∷ codes "@trip" ∷ map (label net) (all_names net)) refl (λ k. labels_bare k))
      ∙ header_names net sound named

  module _ (items : List Item) (given : List Answer) (ws : List State) (answered : HaveAnswers items given) (runs : Runs net nothing items ws)
      (timely : AreTimely (input_count net) 0 items) (short : length (head_text net Csv (all_names net)) ≤ LONGEST_LOG_LINE + 1)
      (fits : length (watch_text net Csv (all_names net) items given ws) ≤ LARGEST_LOG) where
    abbrev log : List ℕ
    log = watch_text net Csv (all_names net) items given ws

    abbrev rows : List ℕ
    rows = text_of at_first items (moments_of net nothing items given ws)

    lines_are : log_lines log ≡ Kept header_line ∷ lines (0 + length (header_line ++ codes "\n")) rows
    lines_are =
        let same : log ≡ (header_line ++ codes "\n") ++ rows = ap (λ (head : List ℕ). head ++ rows) head_is in
        let size : length (head_text net Csv (all_names net)) ≡ length (header_line ++ codes "\n") = ap (λ (head : List ℕ). length head) head_is in
        ap (lines 0) same
        ∙ line_front 0 header_line rows (line_both (codes "@time") (codes "@restart" ∷ codes "@trip" ∷ map (label net) (all_names net)) refl (λ k. labels_bare k))
        (omega (arith, short, size, length-append header_line (codes "\n"))) (omega (arith, fits, ap (λ (text : List ℕ). length text) same))

    -- the columns of the log of a run
    pub columns_are : columns_in net log ≡ Ok (found net sound named)
    columns_are = ap (columns_of net) lines_are ∙ header_means

    -- the log of a run means its scans
    pub log_back : log_of net log ≡ record { items = logged false items; end = whole }
    log_back =
        let offset = 0 + length (header_line ++ codes "\n") in
        let size : length (head_text net Csv (all_names net)) ≡ length (header_line ++ codes "\n") = ap (λ (head : List ℕ). length head) head_is in
        (λ k. log_behind (columns_are k) (rows_of (lines_are k)))
        ∙ rows_mean at_first nothing items given ws 2 0 offset answered runs timely (omega (arith, fits, size, length-append (head_text net Csv (all_names net)) rows))
