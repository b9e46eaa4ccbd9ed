-- A row of a run's log says its scan.
use Rattle.std.proofs.Common.{◌≡◌, ◌∙◌, ◌++◌, ◌+◌, ◌-◌, ◌≤◌, ◌<◌, ◌^◌, ◌&&◌, not, ℕ, zero, suc, Bool, true, false, List, [], ◌∷◌, Some, codes, decimal, get_or, is_some, length, map, nat_le, nat_lt, slice_index_or, unwrap_or, if◌then◌else◌, refl, sym, ap, append_assoc, eq-eqb, arith}
use Rattle.std.specs.List.{list_all, range_with_len}
use Rattle.std.proofs.lemmas.Bool.{le-ltb}
use Rattle.std.proofs.lemmas.Bool.Decides.{nat_tests}
use Rattle.std.proofs.lemmas.Fmt.{decimal_nonempty}
use Rattle.std.proofs.lemmas.List.{get_or-map, length-append, length-map}
use Rattle.ps_bench_cases.proofs.HeaderBack.{values_back}
use Rattle.ps_bench_cases.proofs.ReadBack.{number_back}
use Rattle.ps_bench_logs.specs.Rows.{are_values, field_at, line_said, restart_at, row_said, scan_said, value_at, values_at}
use Rattle.ps_bench_logs.specs.Rows.Said.{scans, breaks}
use Rattle.ps_bench_logs.specs.declared.flaw.Flaw.TheVariants.{V1, V3, V4}
use Rattle.ps_bench_logs.proofs.Rowing.{line_cut}
use Rattle.ps_model.specs.Network.{Network, input_count}
use Rattle.ps_model.specs.Sound.{IsSound}
use Rattle.ps_model.specs.Stored.{bit}
use Rattle.ps_bench_watch.specs.Logged.{HasLogNames}
use Rattle.ps_bench_watch.proofs.Bytes.{bare_code, bare_decimal, bare_truth, is_bare}
use Rattle.ps_bench_watch.proofs.Columns.{found, name_at, names-length, shown-length}
use Rattle.ps_bench_watch.proofs.Cutting.{fields_back, tail_text}
use Rattle.ps_bench_judge.specs.Moments.{Moment, is_stopped}
use Rattle.ps_bench_judge.specs.Named.{is_output, signal_in, value_in}
use Rattle.ps_bench_waves.specs.Lines.{csv_row, fields_text}
use Rattle.ps_bench_waves.specs.Names.{all_names}
use Rattle.ps_bench_waves.specs.Shown.{digit, field_text}
use Rattle.ps_bench_names.specs.Names.{truth_of}
use Rattle.ps_bench_names.specs.declared.name.Name.{Name}
use Rattle.ps_bench_names.specs.declared.name.Name.TheVariants.{Signal, Code, Pin}
use Rattle.ps_trace.specs.Words.{number_of}
use Rattle.ps_bench_waves.specs.Watching.{Before, cell_in}

truth_back : (b : Bool) → truth_of (digit (bit b)) ≡ Some b
truth_back true = refl
truth_back false = refl

bare_value : (name : Name) (v : ℕ) → is_bare (field_text name v) ≡ true
bare_value (Signal s) v = bare_truth v
bare_value (Code i) v = bare_code v
bare_value (Pin i j) v = bare_truth v

-- a scan has the values of its inputs
abbrev pub HasInputs : Network → Moment → List Bool → Type 0
HasInputs net m ins = (i : ℕ) → i < input_count net → get_or m.signals i false ≡ get_or ins i false

module _ (net : Network) (m : Moment) (is_restarted : Bool) where
  -- what a row has of the names
  abbrev pub values_shown : List Name → List (List ℕ)
  values_shown names = map (λ (name : Name). field_text name (value_in net m name)) names

  -- the fields after the time
  abbrev pub later_fields : List (List ℕ)
  later_fields = digit (bit is_restarted) ∷ digit (bit (is_stopped m.verdict)) ∷ values_shown (all_names net)

  abbrev pub row_fields : List (List ℕ)
  row_fields = decimal m.now ∷ later_fields

  -- the line of a row
  abbrev pub row_line : List ℕ
  row_line = decimal m.now ++ tail_text later_fields

  bare_values : (names : List Name) → list_all is_bare (values_shown names) ≡ true
  bare_values [] = refl
  bare_values (name ∷ names) = λ k. bare_value name (value_in net m name) k && bare_values names k

  pub bare_later : list_all is_bare later_fields ≡ true
  bare_later = λ k. bare_truth (bit is_restarted) k && (bare_truth (bit (is_stopped m.verdict)) k && bare_values (all_names net) k)

  fields_same : (b : Before) (names : List Name) → fields_text (map (cell_in net b m) names) ≡ tail_text (values_shown names)
  fields_same b [] = refl
  fields_same b (name ∷ names) = ap (λ (rest : List ℕ). 44 ∷ (field_text name (value_in net m name) ++ rest)) (fields_same b names)

  pub row_is : (b : Before) → csv_row m.now is_restarted m.verdict (map (cell_in net b m) (all_names net)) ≡ row_line ++ codes "\n"
  row_is b =
      let time = decimal m.now in
      let restarted = digit (bit is_restarted) in
      let stopped = digit (bit (is_stopped m.verdict)) in
      let mark : List ℕ = codes "," in
      let shown = fields_text (map (cell_in net b m) (all_names net)) in
      ap (λ (line : List ℕ). line ++ codes "\n")
      (append_assoc (time ++ mark ++ restarted ++ mark) stopped shown
      ∙ append_assoc (time ++ mark ++ restarted) mark (stopped ++ shown)
      ∙ append_assoc (time ++ mark) restarted (mark ++ (stopped ++ shown))
      ∙ append_assoc time mark (restarted ++ (mark ++ (stopped ++ shown)))
      ∙ ap (λ (fields : List ℕ). time ++ 44 ∷ (restarted ++ 44 ∷ (stopped ++ fields))) (fields_same b (all_names net)))

  module _ (sound : IsSound net) (named : HasLogNames net) (ins : List Bool) (has : HasInputs net m ins) where
    not_output : (i : ℕ) → i < input_count net → is_output net i ≡ false
    not_output i input = below (nat_le (input_count net) i) refl
      where
        below : (t : Bool) → nat_le (input_count net) i ≡ t → (t && nat_lt (i - input_count net) (length net.outputs)) ≡ false
        below true is = let no : ⊥ = grind (arith, nat_tests) in absurd no
        below false is = refl

    input_seen : (i : ℕ) → i < input_count net → signal_in net m i ≡ get_or ins i false
    input_seen i input =
        ap (λ (t : Bool). if t then slice_index_or m.report.outs (i - input_count net) false else slice_index_or m.signals i false) (not_output i input)
        ∙ has i input

    value_is : (i : ℕ) → i < input_count net → value_at row_fields (3 + i) ≡ Some (get_or ins i false)
    value_is i input =
        let third : 3 + i ≡ suc (suc (suc i)) = omega arith in
        let within : i < length (all_names net) = omega (arith, input, names-length net sound named) in
        ap (λ (k : ℕ). value_at row_fields k) third
        ∙ ap truth_of (get_or-map (λ (name : Name). field_text name (value_in net m name)) (all_names net) i (Signal 0) [] within)
        ∙ ap (λ (name : Name). truth_of (field_text name (value_in net m name))) (name_at net sound named i (omega (arith, input)))
        ∙ truth_back (signal_in net m i)
        ∙ ap (λ (b : Bool). Some b) (input_seen i input)

    each_some : (count from : ℕ) → from + count ≤ input_count net →
        list_all (λ k. is_some (value_at row_fields k)) (map (λ i. 3 + i) (range_with_len from count)) ≡ true
    each_some zero from within = refl
    each_some (suc count) from within =
        λ k. is_some (value_is from (omega (arith, within)) k) && each_some count (from + 1) (omega (arith, within)) k

    values_are : (count from : ℕ) → from + count ≤ input_count net →
        values_at row_fields (map (λ i. 3 + i) (range_with_len from count)) ≡ map (λ i. slice_index_or ins i false) (range_with_len from count)
    values_are zero from within = refl
    values_are (suc count) from within =
        λ k. unwrap_or (value_is from (omega (arith, within)) k) false ∷ values_are count (from + 1) (omega (arith, within)) k

    pub row_says : (last : ℕ) → length ins ≡ input_count net → last ≤ m.now → m.now < 2 ^ 32 →
        row_said (found net sound named) last row_fields ≡ scans m.now is_restarted ins
    row_says last size on small =
        let columns = found net sound named in
        let places = columns.inputs in
        let long : length row_fields ≡ columns.width =
        omega (arith, length-map (all_names net) (λ (name : Name). field_text name (value_in net m name)), shown-length net sound named) in
        let values : values_at row_fields places ≡ ins =
        values_are (input_count net) 0 (omega arith)
        ∙ ap (λ (n : ℕ). map (λ i. slice_index_or ins i false) (range_with_len 0 n)) (sym size) ∙ values_back ins in
        ap (λ (t : Bool). if not t then breaks V1 else if not (are_values row_fields places) then breaks V3 else scan_said last (number_of (field_at row_fields 0)) (restart_at row_fields (Some 1)) (values_at row_fields places))
        (eq-eqb (length row_fields) columns.width long)
        ∙ ap (λ (t : Bool). if not t then breaks V3 else scan_said last (number_of (field_at row_fields 0)) (restart_at row_fields (Some 1)) (values_at row_fields places)) (each_some (input_count net) 0 (omega arith))
        ∙ (λ k. scan_said last (number_back m.now (omega (arith, small)) k) (truth_back is_restarted k) (values k))
        ∙ ap (λ (t : Bool). if t then breaks V4 else scans m.now is_restarted ins) (le-ltb m.now last on)

    pub line_says : (last : ℕ) → length ins ≡ input_count net → last ≤ m.now → m.now < 2 ^ 32 →
        line_said (found net sound named) last row_line ≡ scans m.now is_restarted ins
    line_says last size on small =
        let wide : m.now < 2 ^ 64 = omega (arith, small) in
        line_cut (found net sound named) last row_line row_fields
        (omega (arith, decimal_nonempty m.now wide, length-append (decimal m.now) (tail_text later_fields)))
        (fields_back (decimal m.now) later_fields (bare_decimal m.now wide) bare_later)
        ∙ row_says last size on small
