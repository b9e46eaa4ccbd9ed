-- A case that is told within the limits of a case file is not refused.
use Rattle.std.proofs.Common.{◌≡◌, ◌≤◌, ◌<◌, ◌+◌, ◌-◌, ◌*◌, ◌++◌, ◌∙◌, ◌==◌, ◌||◌, ℕ, zero, suc, List, [], ◌∷◌, Bool, true, false, Option, Some, None, Result, Ok, Err, if◌then◌else◌, length, map, min, drop, fold, flat_map, replicate, codes, decimal, nat_lt, refl, sym, ap, subst, arith, append_assoc}
use Rattle.std.specs.Prelude.{slice_index_or}
use Rattle.std.specs.List.{All, filter, list_any, prefix_len, range_with_len}
use Rattle.std.specs.Str.{bytes_eq}
use Rattle.std.specs.Str.Lines.{strip_carriage_return}
use Rattle.std.proofs.lemmas.Bool.Decides.{nat_tests}
use Rattle.std.proofs.lemmas.List.{append-nil, drop_all, drop_more, length-append, length-replicate}
use Rattle.std.proofs.lemmas.List.Elements.{All-filter}
use Rattle.ps_lines.specs.Lines.{Line, RawLine, lines_from, raw_lines}
use Rattle.ps_lines.specs.Lines.Line.{Kept, Large, Long}
use Rattle.ps_lines.specs.Lines.RawLine.{Ended}
use Rattle.ps_lines.proofs.Cut.{raw_lines-ended}
use Rattle.ps_model.specs.Meaning.{Item}
use Rattle.ps_model.specs.Meaning.Item.{scan}
use Rattle.ps_model.specs.Network.{Network, input_count}
use Rattle.ps_model.specs.Sound.{IsSound}
use Rattle.ps_model.specs.declared.channel.ImageSizes.{ImageSizes}
use Rattle.ps_reach.specs.Telling.{scans_at}
use Rattle.ps_trace.specs.Words.{is_blank}
use Rattle.ps_bench_names.specs.Names.{has_equals}
use Rattle.ps_bench_names.specs.Titles.{is_case_name}
use Rattle.ps_bench_names.specs.Words.{before_blanks, words_in}
use Rattle.ps_bench_names.specs.declared.name.Setting.{Setting}
use Rattle.ps_bench_rules.specs.declared.rules.Condition.{Condition}
use Rattle.ps_bench_cases.proofs.Points.{fold_behind, text_behind}
use Rattle.ps_bench_cases.specs.Expanded.{act_text, begin_point, expanded, header_line, name_line, next_point, statements_text}
use Rattle.ps_bench_cases.specs.Expanded as trace
use Rattle.ps_bench_cases.specs.File.{act_after, bytes_after, case_after, case_begun, case_judged, cases_of, closed, closed_by, coming, ended_by, fault_left, lines_read, no_lines, no_stand, opened, said_after, stated, unless_large, unless_refused}
use Rattle.ps_bench_cases.specs.Line.{alone, asked, case_name, check_said, checks_said, expect_now, expect_said, line_said, said_by_words}
use Rattle.ps_bench_cases.specs.Meant.{set_by}
use Rattle.ps_bench_cases.specs.Parts.{and_then}
use Rattle.ps_bench_cases.specs.Stands.{is_over, one_scan, unless_over}
use Rattle.ps_bench_cases.specs.declared.case.Act.{Act}
use Rattle.ps_bench_cases.specs.declared.case.Act.TheVariants as act
use Rattle.ps_bench_cases.specs.declared.case.CaseFile.{CaseFile}
use Rattle.ps_bench_cases.specs.declared.case.Check.{Check}
use Rattle.ps_bench_cases.specs.declared.case.Statement.{Statement}
use Rattle.ps_bench_cases.specs.declared.case.Window.TheVariants.{Now}
use Rattle.ps_bench_cases.specs.declared.draft.Draft.{Draft}
use Rattle.ps_bench_cases.specs.declared.draft.Head.{Head}
use Rattle.ps_bench_cases.specs.declared.limits.TheConstants.{LARGEST_CASE_FILE, LONGEST_CASE_LINE}
use Rattle.ps_bench_cases.specs.declared.point.Point.{Point}
use Rattle.ps_bench_cases.specs.declared.rule.CaseRefusal.{CaseRefusal}
use Rattle.ps_bench_cases.specs.declared.rule.CaseRule.{CaseRule}
use Rattle.ps_bench_cases.specs.declared.rule.CaseRule.TheVariants.{K5}
use Rattle.ps_bench_never.specs.Casing.{case_text, change_text, expect_text, expected, gap_before, has_times, inputs_at, inputs_before, is_of_before, line_text, scan_line}
use Rattle.ps_bench_never.specs.Pieces.{condition_text, condition_word}
use Rattle.ps_bench_never.specs.ReadBack.{HasPlainNames, HasProperNames, HasShortValues, IsReadAsCheck, IsShortLine, IsTitle, IsWithinLimits, check_of, is_one_line, item_line, trace_of}
use Rattle.ps_bench_never.proofs.CaseBack.{all_false, before_next, condition_one, gap_next, no_feed, one_both, one_scan_line, pace_to, stripped}
use Rattle.ps_bench_never.proofs.CheckBack.{condition_is, other_word}
use Rattle.ps_bench_never.proofs.ScanBack.{ArePlain, IsPlain, all_count, plain, all_set, scan_done, settings_from, spaced}

-- ---- Lists, and tests that refuse nothing.

passes : {A : Type 0} (b : Bool) (x r : A) → b ≡ false → (if b then x else r) ≡ r
passes b x r is = ap (λ (t : Bool). if t then x else r) is

flat_both : {X : Type 0} (f : X → List ℕ) (xs ys : List X) → flat_map f (xs ++ ys) ≡ flat_map f xs ++ flat_map f ys
flat_both f [] ys = refl
flat_both f (x ∷ xs) ys = ap (λ (rest : List ℕ). f x ++ rest) (flat_both f xs ys) ∙ sym (append_assoc (f x) (flat_map f xs) (flat_map f ys))

module _ (net : Network) (sizes : ImageSizes) where
  -- a case file is not refused
  abbrev pub Taken : Result CaseFile CaseRefusal → Type 0
  Taken r = (file : CaseFile) × (r ≡ Ok file)

  abbrev pub lines : ℕ → List ℕ → List Line
  lines at text = lines_from LARGEST_CASE_FILE LONGEST_CASE_LINE at (raw_lines text)

  abbrev pub no_file : CaseFile
  no_file = record { begin = []; cases = [] }

  -- the rest of a text, whose next line has this number, is within the limits of a file
  pub record Fits (number at : ℕ) (text : List ℕ) : Type 0 where
    pub few : length (raw_lines text) + number ≤ 100001
    pub short : All IsShortLine (raw_lines text)
    pub small : at + length text ≤ 4294967295

  -- ---- A line.

  module _ (number at : ℕ) (line rest : List ℕ) (one : is_one_line line ≡ true) (fits : Fits number at (line ++ 10 ∷ rest)) where
    raw : raw_lines (line ++ 10 ∷ rest) ≡ Ended line ∷ raw_lines rest
    raw = raw_lines-ended line rest (no_feed line one)

    all_short : All IsShortLine (Ended line ∷ raw_lines rest)
    all_short = subst (All IsShortLine) raw fits.short

    own_short : length line ≤ 65536
    own_short = all_short 0 (Ended line) (omega arith)

    count : length (raw_lines (line ++ 10 ∷ rest)) ≡ length (raw_lines rest) + 1
    count = ap (λ (ls : List RawLine). length ls) raw ∙ omega arith

    bytes : length (line ++ 10 ∷ rest) ≡ length line + (length rest + 1)
    bytes = length-append line (10 ∷ rest) ∙ omega arith

    pub after_fits : Fits (number + 1) (at + (length line + 1)) rest
    after_fits = record {
      few = omega (arith, fits.few, count);
      short = λ k d inside. all_short (suc k) d (omega (arith, inside));
      small = omega (arith, fits.small, bytes);
    }

    cut : lines at (line ++ 10 ∷ rest) ≡ Kept line ∷ lines (at + (length line + 1)) rest
    cut =
        let long : nat_lt 65536 (length line) ≡ false = let short = own_short in grind (arith, nat_tests) in
        let size : at + (length line + 1) ≤ 4294967295 = omega (arith, fits.small, bytes) in
        let large : nat_lt 4294967295 (at + (length line + 1)) ≡ false = grind (arith, nat_tests) in
        let more = lines (at + (length line + 1)) rest in
        ap (λ (found : List RawLine). lines_from LARGEST_CASE_FILE LONGEST_CASE_LINE at found) raw
        ∙ ap (λ (t : Bool). (if t then Large else (if nat_lt 65536 (length line) then Long else Kept (strip_carriage_return line))) ∷ more) large
        ∙ ap (λ (t : Bool). (if t then Long else Kept (strip_carriage_return line)) ∷ more) long
        ∙ ap (λ (kept : List ℕ). Kept kept ∷ more) (stripped line one)

    pub step : (d next : Draft) → said_after sizes d number (line_said net line) ≡ Ok next → length (expanded net (closed next)) ≤ 67108864 →
        lines_read net sizes d number (lines at (line ++ 10 ∷ rest)) ≡ lines_read net sizes next (number + 1) (lines (at + (length line + 1)) rest)
    step d next said room =
        let more = lines (at + (length line + 1)) rest in
        let within : number ≤ 100000 = omega (arith, fits.few, count) in
        let few : nat_lt 100000 number ≡ false = grind (arith, nat_tests) in
        let fit : nat_lt 67108864 (length (expanded net (closed next))) ≡ false = grind (arith, nat_tests) in
        let kept : unless_large net number (Ok next) ≡ Ok next = passes _ _ (Ok next) fit in
        let tried : bytes_after net sizes d number line ≡ unless_large net number (said_after sizes d number (line_said net line)) = passes _ _ _ few in
        let read : bytes_after net sizes d number line ≡ Ok next =
        tried ∙ ap (unless_large net number) said ∙ kept in
        ap (lines_read net sizes d number) cut ∙ ap (λ (r : Result Draft CaseRefusal). unless_refused r (λ behind. lines_read net sizes behind (number + 1) more)) read

  -- ---- How a draft stands.

  abbrev from_start : Point
  from_start = begin_point (input_count net) 0

  -- what is so of what was read: one case has begun, of this name, and these scans were made, so many, with these
  -- inputs in the end
  pub record Stands (name : List ℕ) (d : Draft) (n time : ℕ) (items : List Item) (ins : List Bool) : Type 0 where
    pub file : d.file ≡ no_file
    pub head : d.head ≡ Some (record { line = 1; name = name })
    pub base : d.stand.base ≡ 0
    pub last : d.stand.time ≡ time
    pub scans : d.stand.scans ≡ n
    pub made : d.stand.made ≡ n
    pub faults : d.stand.faults ≡ 0
    pub waiting : d.stand.waiting ≡ 0
    pub point : fold next_point from_start d.statements ≡ record { base = 0; time = time; ins = ins; held = [] }
    pub text : statements_text from_start d.statements ≡ flat_map item_line items

  -- the bytes of its trace
  closed_size : (name : List ℕ) (file : CaseFile) (head : Option Head) (statements : List Statement) → file ≡ no_file → head ≡ Some (record { line = 1; name = name }) →
      expanded net (closed_by file head statements) ≡ header_line net ++ (name_line name ++ statements_text from_start statements)
  closed_size name file head statements none begun =
      ap (λ (f : CaseFile). expanded net (closed_by f head statements)) none ∙ ap (λ (h : Option Head). expanded net (closed_by no_file h statements)) begun
      ∙ ap (λ (bytes : List ℕ). header_line net ++ bytes) (append-nil (name_line name ++ statements_text from_start statements))

  module _ (name : List ℕ) (total : List Item) (traced : length (trace_of net name total) ≤ 67108864) where
    pub room : (d : Draft) (n time : ℕ) (items rest : List Item) (ins : List Bool) → Stands name d n time items ins → items ++ rest ≡ total →
        length (expanded net (closed d)) ≤ 67108864
    room d n time items rest ins stands all =
        let own = header_line net in
        let title = name_line name in
        let size = ap (λ (bytes : List ℕ). length bytes)
        (closed_size name d.file d.head d.statements stands.file stands.head ∙ ap (λ (bytes : List ℕ). own ++ (title ++ bytes)) stands.text) in
        let whole = ap (λ (xs : List Item). length (flat_map item_line xs)) (sym all) ∙ ap (λ (bytes : List ℕ). length bytes) (flat_both item_line items rest)
        ∙ length-append (flat_map item_line items) (flat_map item_line rest) in
        omega (
          arith,
          traced,
          size,
          whole,
          length-append own (title ++ flat_map item_line items),
          length-append title (flat_map item_line items),
          length-append (own ++ title) (flat_map item_line total),
          length-append own title,
        )

  -- one statement more
  stated_text : (name : List ℕ) (d : Draft) (n time : ℕ) (items : List Item) (ins : List Bool) → Stands name d n time items ins → (s : Statement) →
      statements_text from_start (d.statements ++ s ∷ []) ≡ flat_map item_line items ++ statements_text (record { base = 0; time = time; ins = ins; held = [] }) (s ∷ [])
  stated_text name d n time items ins stands s =
      text_behind d.statements (s ∷ []) from_start ∙ ap (λ (bytes : List ℕ). bytes ++ statements_text (fold next_point from_start d.statements) (s ∷ [])) stands.text
      ∙ ap (λ (p : Point). flat_map item_line items ++ statements_text p (s ∷ [])) stands.point

  stated_point : (name : List ℕ) (d : Draft) (n time : ℕ) (items : List Item) (ins : List Bool) → Stands name d n time items ins → (s : Statement) →
      fold next_point from_start (d.statements ++ s ∷ []) ≡ next_point (record { base = 0; time = time; ins = ins; held = [] }) s
  stated_point name d n time items ins stands s = fold_behind d.statements (s ∷ []) from_start ∙ ap (λ (p : Point). next_point p s) stands.point

  -- ---- The `case` line.

  abbrev first : (name : List ℕ) → Draft
  first name = record {
    file = no_file;
    head = Some (record { line = 1; name = name });
    statements = [];
    start = no_stand;
    stand = opened 1 (coming no_lines);
  }

  title_kept : (name : List ℕ) → IsTitle name → case_name (codes "case " ++ name) ≡ name
  title_kept name title =
      let next : 1 + prefix_len is_blank name ≡ suc (prefix_len is_blank name) = omega arith in
      ap (λ (k : ℕ). before_blanks (drop k (32 ∷ name))) next ∙ title.bare

  judged : (name : List ℕ) → IsTitle name → case_judged name (coming no_lines) ≡ None
  judged name title =
      let may : is_case_name name ≡ true = title.may in
      let size : length name ≤ 200 = title.short in
      let short : nat_lt 200 (length name) ≡ false = grind (arith, nat_tests) in
      rw (may, short) refl

  begun : (name : List ℕ) → IsTitle name → said_after sizes no_lines 1 (line_said net (codes "case " ++ name)) ≡ Ok (first name)
  begun name title =
      ap (λ (own : List ℕ). case_after no_lines 1 own) (title_kept name title)
      ∙ ap (λ (rule : Option CaseRule). case_begun no_lines 1 name (coming no_lines) rule) (judged name title)

  first_stands : (name : List ℕ) → Stands name (first name) 0 0 [] (replicate (input_count net) false)
  first_stands name = record {
    file = refl;
    head = refl;
    base = refl;
    last = refl;
    scans = refl;
    made = refl;
    faults = refl;
    waiting = refl;
    point = refl;
    text = refl;
  }

  -- ---- A scan.

  scan_settled : (d : Draft) (gap : ℕ) → d.stand.base ≡ 0 → d.stand.time + gap ≤ 4294967295 →
      one_scan d.stand (d.stand.time + gap) ≡ Ok (act.Scans (pace_to d.stand.time (d.stand.time + gap)))
  scan_settled d gap base near =
      let t = d.stand.time in
      let later : nat_lt (t + gap) t ≡ false = grind (arith, nat_tests) in
      let whole : d.stand.base + (t + gap) ≤ 4294967295 = omega (arith, base, near) in
      let early : nat_lt 4294967295 (d.stand.base + (t + gap)) ≡ false = grind (arith, nat_tests) in
      rw (later, early) refl

  not_over : (d : Draft) (a : Act) (n m : ℕ) → is_over d.stand a ≡ (nat_lt 1000000 n || nat_lt 1000 m) → n ≤ 1000000 → m ≤ 1000 → is_over d.stand a ≡ false
  not_over d a n m is few less =
      let first : nat_lt 1000000 n ≡ false = grind (arith, nat_tests) in
      let second : nat_lt 1000 m ≡ false = grind (arith, nat_tests) in
      is ∙ ap (λ (t : Bool). t || nat_lt 1000 m) first ∙ second

  act_goes : (d : Draft) (number : ℕ) (settings : List Setting) (r : Result Act CaseRule) (a : Act) → r ≡ Ok a → is_over d.stand a ≡ false →
      act_after d number settings (unless_over d.stand r) ≡ Ok (stated d number settings a)
  act_goes d number settings r a is over =
      let does : unless_over d.stand (Ok a) ≡ Ok a = passes _ _ (Ok a) over in
      ap (λ (x : Result Act CaseRule). act_after d number settings (unless_over d.stand x)) is ∙ ap (act_after d number settings) does

  module _ (sound : IsSound net) (plain_names : HasPlainNames net) where
    scan_goes : (name : List ℕ) (d : Draft) (number gap n time : ℕ) (before values : List Bool) (items : List Item) → gap ≤ 4294967295 →
        length before ≡ input_count net → length values ≡ input_count net → Stands name d n time items before → time + gap ≤ 4294967295 → n + 1 ≤ 1000000 →
        said_after sizes d number (line_said net (scan_line net gap before values))
        ≡ Ok (stated d number (settings_from net sound plain_names before values 0 (length values)) (act.Scans (pace_to d.stand.time (d.stand.time + gap))))
    scan_goes name d number gap n time before values items small size size' stands near few =
        let settings = settings_from net sound plain_names before values 0 (length values) in
        let a : Act = act.Scans (pace_to d.stand.time (d.stand.time + gap)) in
        scan_done net sound plain_names sizes d number gap small before values size size'
        ∙ act_goes d number settings (one_scan d.stand (d.stand.time + gap)) a (scan_settled d gap stands.base (omega (arith, near, stands.last)))
        (not_over d a (d.stand.made + 1) (d.stand.faults + 0) refl (omega (arith, few, stands.made)) (omega (arith, stands.faults)))

    scan_stands : (name : List ℕ) (d : Draft) (number gap n time : ℕ) (before values : List Bool) (items : List Item) →
        length before ≡ input_count net → length values ≡ input_count net → Stands name d n time items before →
        Stands name (stated d number (settings_from net sound plain_names before values 0 (length values)) (act.Scans (pace_to d.stand.time (d.stand.time + gap))))
        (n + 1) (time + gap) (items ++ scan (time + gap) values ∷ []) values
    scan_stands name d number gap n time before values items size size' stands =
        let settings = settings_from net sound plain_names before values 0 (length values) in
        let pace = pace_to d.stand.time (d.stand.time + gap) in
        let s : Statement = record { line = number; settings = settings; act = act.Scans pace } in
        let sets : set_by before settings ≡ values = all_set net sound plain_names before values 0 (length values) (omega arith) before
        record { new = λ j below. absurd (omega (arith, below)); old = λ j above. refl; size = size ∙ sym size' } in
        let now : min (d.stand.time + 1 * (d.stand.time + gap - d.stand.time)) (d.stand.time + gap) ≡ time + gap = omega (arith, stands.last) in
        let when : 0 + min (d.stand.time + 1 * (d.stand.time + gap - d.stand.time)) (d.stand.time + gap) ≡ time + gap = omega (arith, stands.last) in
        record {
          file = stands.file;
          head = stands.head;
          base = stands.base;
          last = ap (λ (t : ℕ). t + gap) stands.last;
          scans = ap (λ (k : ℕ). k + 1) stands.scans;
          made = ap (λ (k : ℕ). k + 1) stands.made;
          faults = stands.faults;
          waiting = refl;
          point = stated_point name d n time items before stands s
              ∙ ap (λ (t : ℕ). record { base = 0; time = t; ins = set_by before settings; held = [] }) now
              ∙ ap (λ (ins : List Bool). record { base = 0; time = time + gap; ins = ins; held = [] }) sets;
          text = stated_text name d n time items before stands s
              ∙ ap (λ (t : ℕ). flat_map item_line items ++ ((trace.scan_line t (set_by before settings) ++ []) ++ [])) when
              ∙ ap (λ (ins : List Bool). flat_map item_line items ++ ((trace.scan_line (time + gap) ins ++ []) ++ [])) sets
              ∙ ap (λ (bytes : List ℕ). flat_map item_line items ++ bytes) (append-nil (trace.scan_line (time + gap) values ++ []))
              ∙ sym (flat_both item_line items (scan (time + gap) values ∷ []));
        }

  -- ---- What is expected.

  module _ {X : Type 0} (word : X → List ℕ) (check : X → Check) where
    -- a word that is a check
    pub record IsExpected (x : X) : Type 0 where
      pub says : check_said net (word x) ≡ Ok (check x)
      pub equals : has_equals (word x) ≡ true
      pub plain : IsPlain (word x)

    spaces : (xs : List X) → flat_map (λ x. 32 ∷ word x) xs ≡ spaced (map word xs)
    spaces [] = refl
    spaces (x ∷ xs) = ap (λ (rest : List ℕ). (32 ∷ word x) ++ rest) (spaces xs)

    all_words : (xs : List X) → All IsExpected xs → ArePlain (map word xs)
    all_words [] each = tt
    all_words (x ∷ xs) each = ((each 0 x (omega arith)).plain, all_words xs (λ k d inside. each (suc k) d (omega (arith, inside))))

    all_checks : (xs : List X) (done : List Check) → All IsExpected xs → fold (λ found w. and_then found (check_said net w)) (Ok done) (map word xs) ≡ Ok (done ++ map check xs)
    all_checks [] done each = ap (λ (all : List Check). Ok all) (sym (append-nil done))
    all_checks (x ∷ xs) done each =
        ap (λ (r : Result Check CaseRule). fold (λ found w. and_then found (check_said net w)) (and_then (Ok done) r) (map word xs)) (each 0 x (omega arith)).says
        ∙ all_checks xs (done ++ check x ∷ []) (λ k d inside. each (suc k) d (omega (arith, inside)))
        ∙ ap (λ (all : List Check). Ok all) (append_assoc done (check x ∷ []) (map check xs))

    abbrev pub expect_act : Draft → List X → Act
    expect_act d xs = act.Expect record { scan = d.stand.scans; window = Now; checks = map check xs }

    expect_is : (x : X) (xs : List X) → All IsExpected (x ∷ xs) → expect_said net (map word (x ∷ xs)) ≡ expect_now (Ok (map check (x ∷ xs)))
    expect_is x xs each =
        let one : IsExpected x = each 0 x (omega arith) in
        let within : bytes_eq (word x) (codes "within") ≡ false = other_word (word x) (codes "within") one.equals refl in
        let throughout : bytes_eq (word x) (codes "for") ≡ false = other_word (word x) (codes "for") one.equals refl in
        let read : checks_said net (map word (x ∷ xs)) ≡ Ok (map check (x ∷ xs)) = all_checks (x ∷ xs) [] each in
        let early : expect_said net (map word (x ∷ xs)) ≡ expect_now (checks_said net (map word (x ∷ xs))) = passes _ _ _ within ∙ passes _ _ _ throughout in
        early ∙ ap expect_now read

    expect_words : (xs : List X) → All IsExpected xs → words_in (codes "  expect" ++ flat_map (λ x. 32 ∷ word x) xs) ≡ codes "expect" ∷ map word xs
    expect_words xs each =
        ap (λ (rest : List ℕ). words_in (codes "  expect" ++ rest)) (spaces xs) ∙ all_count (codes "expect" ∷ map word xs) (plain 101 (codes "xpect") refl refl, all_words xs each)

    pub expect_goes : (name : List ℕ) (x : X) (xs : List X) → All IsExpected (x ∷ xs) → (d : Draft) (number n time : ℕ) (items : List Item) (ins : List Bool) →
        Stands name d n time items ins → 0 < n → n ≤ 1000000 →
        said_after sizes d number (line_said net (codes "  expect" ++ flat_map (λ x. 32 ∷ word x) (x ∷ xs))) ≡ Ok (stated d number [] (expect_act d (x ∷ xs)))
    expect_goes name x xs each d number n time items ins stands some few =
        let line = codes "  expect" ++ flat_map (λ x. 32 ∷ word x) (x ∷ xs) in
        let made : 0 < d.stand.scans = omega (arith, stands.scans, some) in
        let none : (d.stand.scans == 0) ≡ false = grind (arith, nat_tests) in
        let a : Act = expect_act d (x ∷ xs) in
        ap (λ (ws : List (List ℕ)). said_after sizes d number (said_by_words net line ws)) (expect_words (x ∷ xs) each)
        ∙ ap (λ (r : _). said_after sizes d number (asked (alone r))) (expect_is x xs each)
        ∙ act_goes d number [] (if d.stand.scans == 0 then Err K5 else Ok a) a (ap (λ (t : Bool). if t then Err K5 else Ok a) none)
        (not_over d a (d.stand.made + 0) (d.stand.faults + 0) refl (omega (arith, stands.made, few)) (omega (arith, stands.faults)))

    pub expect_stands : (name : List ℕ) (xs : List X) (d : Draft) (number n time : ℕ) (items : List Item) (ins : List Bool) → Stands name d n time items ins →
        Stands name (stated d number [] (expect_act d xs)) n time items ins
    expect_stands name xs d number n time items ins stands =
        let s : Statement = record { line = number; settings = []; act = expect_act d xs } in
        record {
          file = stands.file;
          head = stands.head;
          base = stands.base;
          last = stands.last;
          scans = stands.scans;
          made = stands.made;
          faults = stands.faults;
          waiting = stands.waiting;
          point = stated_point name d n time items ins stands s;
          text = stated_text name d n time items ins stands s ∙ append-nil (flat_map item_line items);
        }

  -- ---- All lines.

  -- conditions
  abbrev pub IsGood : Condition → Type 0
  IsGood c = IsExpected (condition_word net) check_of c × (is_one_line (condition_text net c) ≡ true)

  one_line_all : (cs : List Condition) → All IsGood cs → is_one_line (flat_map (condition_text net) cs) ≡ true
  one_line_all [] each = refl
  one_line_all (c ∷ cs) each =
      one_both (condition_text net c) (flat_map (condition_text net) cs) (each 0 c (omega arith)).1 (one_line_all cs (λ k d inside. each (suc k) d (omega (arith, inside))))

  some_kept : (p : Condition → Bool) (cs : List Condition) → list_any p cs ≡ true → 0 < length (filter p cs)
  some_kept p [] is = let no : ⊥ = cc in absurd no
  some_kept p (c ∷ cs) is = chosen (p c) is (some_kept p cs)
    where
      chosen : (b : Bool) → (b || list_any p cs) ≡ true → (list_any p cs ≡ true → 0 < length (filter p cs)) → 0 < length (if b then c ∷ filter p cs else filter p cs)
      chosen true is later = omega arith
      chosen false is later = later is

  module _ (sound : IsSound net) (plain_names : HasPlainNames net) (name : List ℕ) (every : ℕ) (small : every ≤ 4294967295) (cs : List Condition) (good : All IsGood cs)
      (scans : List (List Bool)) (sizes_are : All (λ ins. length ins ≡ input_count net) scans) (total : List Item) (traced : length (trace_of net name total) ≤ 67108864)
      (tail : List ℕ)
      (ends : (d : Draft) (number at n time : ℕ) (ins : List Bool) → Stands name d n time total ins → (0 < length scans → 0 < n) → n + 2 ≤ number → Fits number at tail →
      Taken (lines_read net sizes d number (lines at tail))) where
    -- what comes after a line
    abbrev After : (n time : ℕ) (items : List Item) (ins : List Bool) (rest : List ℕ) → Type 0
    After n time items ins rest = (d : Draft) (number at : ℕ) → Stands name d n time items ins → n + 2 ≤ number → Fits number at rest → Taken (lines_read net sizes d number (lines at rest))

    expect_line : (kept : List Condition) → All IsGood kept → 0 < length kept → (d : Draft) (number at n time : ℕ) (items left : List Item) (ins : List Bool) (rest : List ℕ) →
        Stands name d n time items ins → 0 < n → n + 2 ≤ number → items ++ left ≡ total → Fits number at ((codes "  expect" ++ flat_map (condition_text net) kept) ++ 10 ∷ rest) → After n time items ins rest →
        Taken (lines_read net sizes d number (lines at ((codes "  expect" ++ flat_map (condition_text net) kept) ++ 10 ∷ rest)))
    expect_line [] each some d number at n time items left ins rest stands many far all fits next = absurd (omega (arith, some))
    expect_line (c ∷ kept) each some d number at n time items left ins rest stands many far all fits next =
        let line = codes "  expect" ++ flat_map (condition_text net) (c ∷ kept) in
        let one : is_one_line line ≡ true = one_both (codes "  expect") (flat_map (condition_text net) (c ∷ kept)) refl (one_line_all (c ∷ kept) each) in
        let later = after_fits number at line rest one fits in
        let behind : Draft = stated d number [] (expect_act (condition_word net) check_of d (c ∷ kept)) in
        let stands' = expect_stands (condition_word net) check_of name (c ∷ kept) d number n time items ins stands in
        let said = expect_goes (condition_word net) check_of name c kept (λ k e inside. (each k e inside).0) d number n time items ins stands many (omega (arith, later.few, far)) in
        subst Taken (sym (step number at line rest one fits d behind said (room name total traced behind n time items left ins stands' all)))
        (next behind (number + 1) (at + (length line + 1)) stands' (omega (arith, far)) later)

    expect_step : (before some : Bool) → list_any (is_of_before before) cs ≡ some → (d : Draft) (number at n time : ℕ) (items left : List Item) (ins : List Bool) (rest : List ℕ) →
        Stands name d n time items ins → 0 < n → n + 2 ≤ number → items ++ left ≡ total →
        Fits number at ((if some then codes "  expect" ++ flat_map (condition_text net) (filter (is_of_before before) cs) ++ codes "\n" else []) ++ rest) → After n time items ins rest →
        Taken (lines_read net sizes d number (lines at ((if some then codes "  expect" ++ flat_map (condition_text net) (filter (is_of_before before) cs) ++ codes "\n" else []) ++ rest)))
    expect_step before true is d number at n time items left ins rest stands many far all fits next =
        let kept = filter (is_of_before before) cs in
        let line = codes "  expect" ++ flat_map (condition_text net) kept in
        let text : (line ++ codes "\n") ++ rest ≡ line ++ 10 ∷ rest = append_assoc line (10 ∷ []) rest in
        subst (λ (t : List ℕ). Taken (lines_read net sizes d number (lines at t))) (sym text)
        (expect_line kept (All-filter (is_of_before before) IsGood cs good) (some_kept (is_of_before before) cs is) d number at n time items left ins rest stands many far all
        (subst (Fits number at) text fits) next)
    expect_step before false is d number at n time items left ins rest stands many far all fits next = next d number at stands far fits

    expected_step : (last one : Bool) (d : Draft) (number at n time : ℕ) (items left : List Item) (ins : List Bool) (rest : List ℕ) → Stands name d n time items ins → 0 < n →
        n + 2 ≤ number → items ++ left ≡ total → Fits number at ((if last then expect_text net false cs else if one then expect_text net true cs else []) ++ rest) → After n time items ins rest →
        Taken (lines_read net sizes d number (lines at ((if last then expect_text net false cs else if one then expect_text net true cs else []) ++ rest)))
    expected_step true one d number at n time items left ins rest stands many far all fits next =
        expect_step false (list_any (is_of_before false) cs) refl d number at n time items left ins rest stands many far all fits next
    expected_step false true d number at n time items left ins rest stands many far all fits next =
        expect_step true (list_any (is_of_before true) cs) refl d number at n time items left ins rest stands many far all fits next
    expected_step false false d number at n time items left ins rest stands many far all fits next = next d number at stands far fits

    same_line : (gap : ℕ) (before ins values : List Bool) → ((j : ℕ) → slice_index_or before j false ≡ slice_index_or ins j false) →
        scan_line net gap before values ≡ scan_line net gap ins values
    same_line gap before ins values same = λ x.
        codes "  +" ++ decimal gap ++ flat_map (λ j. change_text net j (same j x) (slice_index_or values j false)) (range_with_len 0 (length values))

    gap_small : (b : Bool) → (if b then 0 else every) ≤ 4294967295
    gap_small true = omega arith
    gap_small false = small

    pub lines_go : (n i : ℕ) → i + n ≡ length scans → (d : Draft) (number at time now : ℕ) (items : List Item) (ins : List Bool) → Stands name d i time items ins →
        time + gap_before every i ≡ now → length ins ≡ input_count net → ((j : ℕ) → slice_index_or (inputs_before scans i) j false ≡ slice_index_or ins j false) →
        items ++ scans_at now every (drop i scans) ≡ total → ((m : ℕ) → suc m ≡ n → now + every * m ≤ 4294967295) → i + 2 ≤ number →
        Fits number at (flat_map (line_text net every cs scans) (range_with_len i n) ++ tail) →
        Taken (lines_read net sizes d number (lines at (flat_map (line_text net every cs scans) (range_with_len i n) ++ tail)))
    lines_go zero i all d number at time now items ins stands when size same left near far fits =
        let none : drop i scans ≡ [] = drop_all i scans (omega (arith, all)) in
        ends d number at i time ins
        (subst (λ (whole : List Item). Stands name d i time whole ins)
        (sym (append-nil items) ∙ ap (λ (more : List (List Bool)). items ++ scans_at now every more) (sym none) ∙ left) stands)
        (λ some. omega (arith, all, some)) far fits
    lines_go (suc n) i all d number at time now items ins stands when size same left near far fits =
        let inside : i < length scans = omega (arith, all) in
        let values = inputs_at scans i in
        let gap = gap_before every i in
        let line = scan_line net gap (inputs_before scans i) values in
        let own = scan_line net gap ins values in
        let after = expected net cs (length scans - 1 - i) in
        let others = flat_map (line_text net every cs scans) (range_with_len (i + 1) n) in
        let rest = others ++ tail in
        let is_line : line ≡ own = same_line gap (inputs_before scans i) ins values same in
        let text : ((line ++ codes "\n" ++ after) ++ others) ++ tail ≡ own ++ 10 ∷ (after ++ rest) =
        append_assoc (line ++ codes "\n" ++ after) others tail ∙ append_assoc (line ++ codes "\n") after rest ∙ append_assoc line (10 ∷ []) (after ++ rest) ∙ ap (λ (l : List ℕ). l ++ 10 ∷ (after ++ rest)) is_line in
        let few : gap ≤ 4294967295 = gap_small (i == 0) in
        let size' : length values ≡ input_count net = sizes_are i [] inside in
        let next_before : inputs_before scans (i + 1) ≡ values = before_next scans i in
        let next_gap : gap_before every (i + 1) ≡ every = gap_next every i in
        let more : drop i scans ≡ values ∷ drop (i + 1) scans = drop_more scans i [] inside in
        let left' : (items ++ scan now values ∷ []) ++ scans_at (now + every) every (drop (i + 1) scans) ≡ total =
        append_assoc items (scan now values ∷ []) (scans_at (now + every) every (drop (i + 1) scans))
        ∙ ap (λ (xs : List (List Bool)). items ++ scans_at now every xs) (sym more) ∙ left in
        let one : is_one_line own ≡ true = one_scan_line net sizes total sound plain_names gap few ins values in
        let fits' : Fits number at (own ++ 10 ∷ (after ++ rest)) = subst (Fits number at) text fits in
        let later = after_fits number at own (after ++ rest) one fits' in
        let behind : Draft = stated d number (settings_from net sound plain_names ins values 0 (length values)) (act.Scans (pace_to d.stand.time (d.stand.time + gap))) in
        let stands' : Stands name behind (i + 1) now (items ++ scan now values ∷ []) values =
        subst (λ (t : ℕ). Stands name behind (i + 1) t (items ++ scan t values ∷ []) values) when (scan_stands sound plain_names name d number gap i time ins values items size size' stands) in
        let here : now + every * n ≤ 4294967295 = near n refl in
        let said = scan_goes sound plain_names name d number gap i time ins values items few size size' stands (omega (arith, when, here)) (omega (arith, later.few, far)) in
        subst (λ (t : List ℕ). Taken (lines_read net sizes d number (lines at t))) (sym text)
        (subst Taken
        (sym (step number at own (after ++ rest) one fits' d behind said
        (room name total traced behind (i + 1) now (items ++ scan now values ∷ []) (scans_at (now + every) every (drop (i + 1) scans)) values stands' left')))
        (expected_step (length scans - 1 - i == 0) (length scans - 1 - i == 1) behind (number + 1) (at + (length own + 1)) (i + 1) now (items ++ scan now values ∷ [])
        (scans_at (now + every) every (drop (i + 1) scans)) values rest stands' (omega arith) (omega (arith, far)) left' later
        (λ d' number' at' again far' fits''. lines_go n (i + 1) (omega (arith, all)) d' number' at' now (now + every) (items ++ scan now values ∷ []) values again
        (ap (λ (g : ℕ). now + g) next_gap) size' (λ j. ap (λ (b : List Bool). slice_index_or b j false) next_before) left'
        (λ m is. let h : now + every * suc m ≤ 4294967295 = subst (λ (k : ℕ). now + every * k ≤ 4294967295) (sym is) here in omega (arith, h)) far' fits'')))

  -- ---- The end.

  ended : (file : CaseFile) (head : Option Head) (h : Head) (waiting number : ℕ) → head ≡ Some h → waiting ≡ 0 → ended_by number file head (fault_left head waiting) ≡ Ok file
  ended file head h waiting number is none =
      ap (λ (x : Option Head). ended_by number file x (fault_left x waiting)) is ∙ ap (λ (k : ℕ). ended_by number file (Some h) (fault_left (Some h) k)) none

  pub at_end : (name : List ℕ) (d : Draft) (number at n time : ℕ) (items : List Item) (ins : List Bool) → Stands name d n time items ins → Taken (lines_read net sizes d number (lines at []))
  at_end name d number at n time items ins stands =
      (closed d, ended (closed d) d.head (record { line = 1; name = name }) d.stand.waiting number stands.head stands.waiting)

-- what is within the limits fits
pub within_fits : (net : Network) (sizes : ImageSizes) (name : List ℕ) (items : List Item) (text : List ℕ) → IsWithinLimits net name items text → Fits net sizes 1 0 text
within_fits net sizes name items text within = record { few = omega (arith, within.few); short = within.short; small = omega (arith, within.small) }

module _ (net : Network) (sizes : ImageSizes) (sound : IsSound net) (proper : HasProperNames net) (plain_names : HasPlainNames net) (every : ℕ) (small : every ≤ 4294967295)
    (scans : List (List Bool)) (sizes_are : All (λ ins. length ins ≡ input_count net) scans) (timed : has_times every (length scans) ≡ true) where
  good_of : (c : Condition) → HasShortValues c → IsReadAsCheck net c → IsGood net sizes c
  good_of c short read =
      let word = condition_is net proper c short in
      (record { says = read; equals = word.1; plain = word.0 }, condition_one net sound plain_names c short)

  in_time : (m : ℕ) → suc m ≡ length scans → 0 + every * m ≤ 4294967295
  in_time m is =
      let near : every * (length scans - 1) ≤ 4294967295 = grind (arith, nat_tests) in
      let last : length scans - 1 ≡ m = omega (arith, is) in
      let here : every * m ≤ 4294967295 = subst (λ (k : ℕ). every * k ≤ 4294967295) last near in
      omega (arith, here)

  pub case_goes : (name : List ℕ) → IsTitle name → is_one_line name ≡ true → (cs : List Condition) → All (IsGood net sizes) cs → (tail : List ℕ) →
      length (trace_of net name (scans_at 0 every scans)) ≤ 67108864 →
      ((d : Draft) (number at n time : ℕ) (ins : List Bool) → Stands net sizes name d n time (scans_at 0 every scans) ins → (0 < length scans → 0 < n) → n + 2 ≤ number →
      Fits net sizes number at tail → Taken net sizes (lines_read net sizes d number (lines net sizes at tail))) →
      Fits net sizes 1 0 (case_text net name every cs scans ++ tail) → Taken net sizes (cases_of net sizes (case_text net name every cs scans ++ tail))
  case_goes name title one cs good tail traced ends fits =
      let total = scans_at 0 every scans in
      let head = codes "case " ++ name in
      let others = flat_map (line_text net every cs scans) (range_with_len 0 (length scans)) in
      let text : ((head ++ codes "\n") ++ others) ++ tail ≡ head ++ 10 ∷ (others ++ tail) =
      append_assoc (head ++ codes "\n") others tail ∙ append_assoc head (10 ∷ []) (others ++ tail) in
      let one_head : is_one_line head ≡ true = one_both (codes "case ") name refl one in
      let fits' : Fits net sizes 1 0 (head ++ 10 ∷ (others ++ tail)) = subst (Fits net sizes 1 0) text fits in
      let later = after_fits net sizes 1 0 head (others ++ tail) one_head fits' in
      let first_stands' = first_stands net sizes name in
      subst (λ (t : List ℕ). Taken net sizes (lines_read net sizes no_lines 1 (lines net sizes 0 t))) (sym text)
      (subst (Taken net sizes)
      (sym (step net sizes 1 0 head (others ++ tail) one_head fits' no_lines (first net sizes name) (begun net sizes name title)
      (room net sizes name total traced (first net sizes name) 0 0 [] total (replicate (input_count net) false) first_stands' refl)))
      (lines_go net sizes sound plain_names name every small cs good scans sizes_are total traced tail ends (length scans) 0 (omega arith) (first net sizes name) 2 _ 0 0 []
      (replicate (input_count net) false) first_stands' refl (length-replicate (input_count net) false) (all_false (input_count net)) refl in_time (omega arith) later))

  pub case_taken : (name : List ℕ) → IsTitle name → is_one_line name ≡ true → (cs : List Condition) → All HasShortValues cs → All (IsReadAsCheck net) cs →
      IsWithinLimits net name (scans_at 0 every scans) (case_text net name every cs scans) → Taken net sizes (cases_of net sizes (case_text net name every cs scans))
  case_taken name title one cs short read within =
      let text = case_text net name every cs scans in
      subst (λ (t : List ℕ). Taken net sizes (cases_of net sizes t)) (append-nil text)
      (case_goes name title one cs (λ k d inside. good_of _ (short k d inside) (read k d inside)) [] within.traced
      (λ d number at n time ins stands some far fits. at_end net sizes name d number at n time (scans_at 0 every scans) ins stands)
      (subst (Fits net sizes 1 0) (sym (append-nil text)) (within_fits net sizes name (scans_at 0 every scans) text within)))
