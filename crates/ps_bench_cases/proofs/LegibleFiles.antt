-- The trace of all cases of a file that was read is legible.
use Rattle.std.proofs.Common.{◌≡◌, ◌≤◌, ◌+◌, ◌++◌, ◌∷◌, ◌||◌, ◌==◌, ◌-◌, ◌*◌, max, ℕ, zero, suc, List, [], Option, Some, None, Result, Ok, Err, IfOk, Bool, true, false, if◌then◌else◌, nat_lt, length, map, replicate, refl, sym, subst, arith}
use Rattle.std.specs.List.{All}
use Rattle.std.proofs.lemmas.Grind.{common_steps}
use Rattle.std.proofs.lemmas.Bool.Decides.{nat_tests}
use Rattle.std.proofs.lemmas.List.{map-append}
use Rattle.std.proofs.lemmas.List.Elements.{All-nil, All-push, All-append}
use Rattle.ps_base.specs.declared.limits.TheConstants.{LARGEST_TIME, LARGEST_TRACE, LONGEST_TRACE_LINE}
use Rattle.ps_lines.specs.Lines.{Line, HasNoLineFeed}
use Rattle.ps_lines.specs.Lines.Line.{Kept, KeptLast, Long, Large}
use Rattle.ps_model.specs.Meaning.{Item}
use Rattle.ps_model.specs.Meaning.Item.{scan, restart}
use Rattle.ps_model.specs.declared.channel.Fault.{Fault as Strike}
use Rattle.ps_model.specs.declared.channel.ImageSizes.{ImageSizes}
use Rattle.ps_model.specs.Network.{Network, input_count}
use Rattle.ps_trace.specs.Header.{input_names}
use Rattle.ps_bench_cases.specs.declared.limits.TheConstants.{LARGEST_CASE_FILE, LONGEST_CASE_LINE, MOST_CASE_LINES}
use Rattle.ps_bench_cases.specs.declared.rule.CaseRule.{CaseRule}
use Rattle.ps_bench_cases.specs.declared.rule.CaseRule.TheVariants.{K4, K5, K6, K7}
use Rattle.ps_bench_cases.specs.declared.rule.CaseRefusal.{CaseRefusal}
use Rattle.ps_bench_cases.specs.declared.case.Act.{Act}
use Rattle.ps_bench_cases.specs.declared.case.Act.TheVariants as act
use Rattle.ps_bench_names.specs.declared.name.Setting.{Setting}
use Rattle.ps_bench_cases.specs.declared.case.Statement.{Statement}
use Rattle.ps_bench_cases.specs.declared.case.Case.{Case}
use Rattle.ps_bench_cases.specs.declared.case.CaseFile.{CaseFile}
use Rattle.ps_bench_cases.specs.declared.deed.Deed.{Deed}
use Rattle.ps_bench_cases.specs.declared.deed.Deed.TheVariants.{Set, At, After, Times, For, Until, Restart, Fault, Expect}
use Rattle.ps_bench_cases.specs.declared.stand.Stand.{Stand}
use Rattle.ps_bench_cases.specs.declared.stand.Coming.{Coming}
use Rattle.ps_bench_cases.specs.declared.draft.Head.{Head}
use Rattle.ps_bench_cases.specs.declared.draft.Draft.{Draft}
use Rattle.ps_bench_cases.specs.Expanded.{end_point, expanded, header_line, name_line}
use Rattle.ps_bench_cases.specs.File.{act_after, at, bytes_after, case_begun, case_judged, case_lines, cases_of, closed, closed_by, coming, ended_by, fault_left, file_ended, line_after, lines_read, no_lines, said_after, unless_large, unless_left, unless_refused}
use Rattle.ps_bench_cases.specs.Joined.{later, later_item, joined, items_of_file}
use Rattle.ps_bench_cases.specs.Legible.{IsInTime, IsLegible, IsLine, IsOneLine, IsSeen}
use Rattle.ps_bench_cases.specs.Line.{Said, line_said}
use Rattle.ps_bench_cases.specs.Line.Said.{nothing, begins, asks, breaks}
use Rattle.ps_bench_cases.specs.Meant.{items_from, items_made, items_of, set_by, times_in, times_made, times_of}
use Rattle.ps_bench_cases.specs.Rooms.{base_behind}
use Rattle.ps_bench_cases.specs.Stands.{deed_settled, is_over, rounds, scans_to, stand_after, strikes_wrongly, unless_over}
use Rattle.ps_bench_cases.proofs.OneLines.{AreCut, IsCut, IsSmallDeed, SaysOne, fault_one, line_one, name_one, text_cut}
use Rattle.ps_bench_cases.proofs.Running.{IsBehind, settled_behind, unless_behind}
use Rattle.ps_bench_cases.proofs.RunningFiles.{CanRun, IsSoundBy, no_lines_run, said_runs}
use Rattle.ps_bench_cases.proofs.SaidInputs.{either_has, line_has}
use Rattle.ps_bench_cases.proofs.TraceBack.{InTime}

-- ---- Times.

-- these times are early enough in a case that begins at this time
abbrev Early : ℕ → List ℕ → Type 0
Early base [] = Unit {0}
Early base (t ∷ ts) = (base + t ≤ LARGEST_TIME) × Early base ts

early_by : (base upto : ℕ) (ts : List ℕ) → base + upto ≤ LARGEST_TIME → All (λ t. t ≤ upto) ts → Early base ts
early_by base upto [] small each = tt
early_by base upto (t ∷ ts) small each = (omega (arith, small, each 0 0 (omega arith)), early_by base upto ts small (λ k d within. each (suc k) d (omega (arith, within))))

early_first : (base : ℕ) (xs ys : List ℕ) → Early base (xs ++ ys) → Early base xs
early_first base [] ys early = tt
early_first base (x ∷ xs) ys early = (early.0, early_first base xs ys early.1)

early_second : (base : ℕ) (xs ys : List ℕ) → Early base (xs ++ ys) → Early base ys
early_second base [] ys early = early
early_second base (x ∷ xs) ys early = early_second base xs ys early.1

in_time_both : (xs ys : List Item) → InTime xs → InTime ys → InTime (xs ++ ys)
in_time_both [] ys first second = second
in_time_both (x ∷ xs) ys first second = (first.0, in_time_both xs ys first.1 second)

all_in_time : (items : List Item) → InTime items → All IsInTime items
all_in_time [] each k d within = absurd (omega (arith, within))
all_in_time (item ∷ items) each zero d within = each.0
all_in_time (item ∷ items) each (suc k) d within = all_in_time items each.1 k d (omega (arith, within))

scans_in_time : (base : ℕ) (ins : List Bool) (ts : List ℕ) → Early base ts → InTime (later base (map (λ now. scan now ins) ts))
scans_in_time base ins [] early = tt
scans_in_time base ins (t ∷ ts) early = (omega (arith, early.0), scans_in_time base ins ts early.1)

made_in_time : (base : ℕ) (ins : List Bool) (a : Act) → Early base (times_made a) → InTime (later base (items_made ins a))
made_in_time base ins (act.Scans pace) early = scans_in_time base ins (times_of pace) early
made_in_time base ins (act.Fault fault) early = tt
made_in_time base ins act.Set early = tt
made_in_time base ins act.Restart early = (tt, tt)
made_in_time base ins (act.Expect what) early = tt

items_in_time : (base : ℕ) (ss : List Statement) (ins : List Bool) → Early base (times_in ss) → InTime (later base (items_from ins ss))
items_in_time base [] ins early = tt
items_in_time base (s ∷ ss) ins early =
    let set = set_by ins s.settings in
    subst InTime (sym (map-append (later_item base) (items_made set s.act) (items_from set ss)))
    (in_time_both (later base (items_made set s.act)) (later base (items_from set ss)) (made_in_time base set s.act (early_first base (times_made s.act) (times_in ss) early))
    (items_in_time base ss set (early_second base (times_made s.act) (times_in ss) early)))

module _ (net : Network) (begin : List Statement) where
  -- cases with one more after them
  joined_push : (cases : List Case) (c : Case) (leading : List Item) (base : ℕ) → InTime leading → InTime (joined net begin leading base cases) →
      InTime (later (base_behind (input_count net) begin base cases) (items_of net (begin ++ c.statements))) → InTime (joined net begin leading base (cases ++ c ∷ []))
  joined_push [] c leading base leads before more =
      in_time_both (leading ++ later base (items_of net (begin ++ c.statements))) [] (in_time_both leading (later base (items_of net (begin ++ c.statements))) leads more) tt
  joined_push (d ∷ cases) c leading base leads before more =
      let own = leading ++ later base (items_of net (begin ++ d.statements)) in
      let next = base + (end_point (input_count net) base (begin ++ d.statements)).time in
      let rest = joined net begin (restart ∷ []) next cases in
      in_time_both own (joined net begin (restart ∷ []) next (cases ++ c ∷ [])) (first own rest before)
      (joined_push cases c (restart ∷ []) next (tt, tt) (second own rest before) more)
    where
      first : (xs ys : List Item) → InTime (xs ++ ys) → InTime xs
      first [] ys all = tt
      first (x ∷ xs) ys all = (all.0, first xs ys all.1)

      second : (xs ys : List Item) → InTime (xs ++ ys) → InTime ys
      second [] ys all = all
      second (x ∷ xs) ys all = second xs ys all.1

-- ---- What is kept from line to line.

abbrev AreOne : List Statement → Type 0
AreOne = All (λ (s : Statement). IsOneLine s.act)

module _ (net : Network) where
  -- of a file with a case that is read now
  record IsWell (file : CaseFile) (name : List ℕ) (statements : List Statement) (start stand : Stand) : Type 0 where
    names : All (λ (c : Case). IsLine (name_line c.name)) file.cases
    name_is : IsLine (name_line name)
    begin : AreOne file.begin
    cases : All (λ (c : Case). AreOne (file.begin ++ c.statements)) file.cases
    now : AreOne statements
    times : InTime (joined net file.begin [] 0 file.cases)
    early : stand.base + stand.time ≤ LARGEST_TIME

  abbrev IsWellBy : Option Head → CaseFile → List Statement → Stand → Stand → Type 0
  IsWellBy None file statements start stand = AreOne statements
  IsWellBy (Some head) file statements start stand = IsWell file head.name statements start stand

  -- what was read can be run, and its trace is legible
  abbrev Keeps : Draft → Type 0
  Keeps d = CanRun net d × IsWellBy d.head d.file d.statements d.start d.stand

  -- ---- A line that asks for something.

  early_after : (number : ℕ) (stand : Stand) (a : Act) → IsBehind stand a → stand.base + stand.time ≤ LARGEST_TIME → (stand_after number stand a).base + (stand_after number stand a).time ≤ LARGEST_TIME
  early_after number stand (act.Scans pace) behind early = behind.early
  early_after number stand (act.Fault fault) behind early = early
  early_after number stand act.Set behind early = early
  early_after number stand act.Restart behind early = early
  early_after number stand (act.Expect what) behind early = early

  stated_well : (head : Option Head) (file : CaseFile) (statements : List Statement) (start stand : Stand) (number : ℕ) (settings : List Setting) (a : Act) →
      IsWellBy head file statements start stand → IsOneLine a → IsBehind stand a →
      IsWellBy head file (statements ++ record { line = number; settings = settings; act = a } ∷ []) start (stand_after number stand a)
  stated_well None file statements start stand number settings a well one behind = All-push (λ (s : Statement). IsOneLine s.act) statements (record { line = number; settings = settings; act = a }) well one
  stated_well (Some head) file statements start stand number settings a well one behind = record {
    names = well.names;
    name_is = well.name_is;
    begin = well.begin;
    cases = well.cases;
    now = All-push (λ (s : Statement). IsOneLine s.act) statements (record { line = number; settings = settings; act = a }) well.now one;
    times = well.times;
    early = early_after number stand a behind well.early;
  }

  act_well : (d : Draft) (number : ℕ) (settings : List Setting) (a : Result Act CaseRule) → IsWellBy d.head d.file d.statements d.start d.stand → IfOk a IsOneLine → IfOk a (IsBehind d.stand) →
      IfOk (act_after d number settings a) (λ e. IsWellBy e.head e.file e.statements e.start e.stand)
  act_well d number settings (Err rule) well one behind = tt
  act_well d number settings (Ok a) well one behind = stated_well d.head d.file d.statements d.start d.stand number settings a well one behind

  scans_one : (s : Stand) (step target count : ℕ) → IfOk (scans_to s step target count) IsOneLine
  scans_one s step target count = either_has IsOneLine (nat_lt target s.time || nat_lt LARGEST_TIME (s.base + target)) (Err K4) (Ok (act.Scans record { from = s.time; step = step; upto = target; count = count })) tt tt

  settled_one : (sizes : ImageSizes) (s : Stand) (deed : Deed) → IsSmallDeed deed → IfOk (deed_settled sizes s deed) IsOneLine
  settled_one sizes s Set small = tt
  settled_one sizes s (At t) small = scans_one s (s.origin + t - s.time) (s.origin + t) 1
  settled_one sizes s (After t) small = scans_one s (s.time + t - s.time) (s.time + t) 1
  settled_one sizes s (Times step count) small = scans_one s step (s.time + count * step) count
  settled_one sizes s (For step span) small = scans_one s (max step 1) (s.time + span) (rounds step (s.time + span - s.time))
  settled_one sizes s (Until step t) small = scans_one s (max step 1) (s.origin + t) (rounds step (s.origin + t - s.time))
  settled_one sizes s Restart small = tt
  settled_one sizes s (Fault fault) small =
      let made : Strike = record { scan = s.scans + 1; turn = fault.turn; channel = fault.channel; region = fault.region; at = fault.at; bytes = fault.bytes } in
      either_has IsOneLine (strikes_wrongly sizes s fault) (Err K6) (Ok (act.Fault made)) tt (fault_one made record { turn = small.turn; at = small.at; bytes = small.bytes })
  settled_one sizes s (Expect window checks) small = either_has IsOneLine (s.scans == 0) (Err K5) _ tt tt

  over_one : (s : Stand) (r : Result Act CaseRule) → IfOk r IsOneLine → IfOk (unless_over s r) IsOneLine
  over_one s (Err rule) one = tt
  over_one s (Ok a) one = either_has IsOneLine (is_over s a) (Err K7) (Ok a) tt one

  -- ---- A `case` line.

  -- of the cases that ended, with the one that ends here
  record IsEnded (file : CaseFile) : Type 0 where
    names : All (λ (c : Case). IsLine (name_line c.name)) file.cases
    begin : AreOne file.begin
    cases : All (λ (c : Case). AreOne (file.begin ++ c.statements)) file.cases
    times : InTime (joined net file.begin [] 0 file.cases)

  ended_well : (head : Option Head) (file : CaseFile) (statements : List Statement) (start stand : Stand) → IsSoundBy net head file statements start stand → IsWellBy head file statements start stand →
      IsEnded (closed_by file head statements)
  ended_well None file statements start stand sound well = record {
    names = subst (All (λ (c : Case). IsLine (name_line c.name))) (sym sound.none) (All-nil (λ (c : Case). IsLine (name_line c.name)));
    begin = well;
    cases = subst (All (λ (c : Case). AreOne (statements ++ c.statements))) (sym sound.none) (All-nil (λ (c : Case). AreOne (statements ++ c.statements)));
    times = subst (λ (cases : List Case). InTime (joined net statements [] 0 cases)) (sym sound.none) tt;
  }
  ended_well (Some head) file statements start stand sound well =
      let c : Case = record { line = head.line; name = head.name; statements = statements } in
      let early : Early stand.base (times_in (file.begin ++ statements)) = early_by stand.base stand.time (times_in (file.begin ++ statements)) well.early sound.now.times in
      record {
        names = All-push (λ (c : Case). IsLine (name_line c.name)) file.cases c well.names well.name_is;
        begin = well.begin;
        cases = All-push (λ (c : Case). AreOne (file.begin ++ c.statements)) file.cases c well.cases (All-append (λ (s : Statement). IsOneLine s.act) file.begin statements well.begin well.now);
        times = joined_push net file.begin file.cases c [] 0 tt well.times
            (subst (λ (base : ℕ). InTime (later base (items_of net (file.begin ++ statements)))) sound.base (items_in_time stand.base (file.begin ++ statements) (replicate (input_count net) false) early));
      }

  judged_well : (name : List ℕ) (c : Coming) → case_judged name c ≡ None → (c.base + c.start.time ≤ LARGEST_TIME) × (length name ≤ 200)
  judged_well name c is = (grind (arith, common_steps), grind (arith, common_steps))

  begun_well : (d : Draft) (number : ℕ) (name : List ℕ) (judged : Option CaseRule) → (judged ≡ None → ((coming d).base + (coming d).start.time ≤ LARGEST_TIME) × (length name ≤ 200)) → HasNoLineFeed name → Keeps d →
      IfOk (case_begun d number name (coming d) judged) (λ e. IsWellBy e.head e.file e.statements e.start e.stand)
  begun_well d number name (Some rule) small none keeps = tt
  begun_well d number name None small none keeps =
      let ended = ended_well d.head d.file d.statements d.start d.stand keeps.0 keeps.1 in
      let judged = small refl in
      record {
        names = ended.names;
        name_is = name_one name none judged.1;
        begin = ended.begin;
        cases = ended.cases;
        now = All-nil (λ (s : Statement). IsOneLine s.act);
        times = ended.times;
        early = judged.0;
      }

  left_well : (left : Option CaseRefusal) (r : Result Draft CaseRefusal) → IfOk r (λ e. IsWellBy e.head e.file e.statements e.start e.stand) → IfOk (unless_left left r) (λ e. IsWellBy e.head e.file e.statements e.start e.stand)
  left_well (Some refusal) r well = tt
  left_well None r well = well

  -- ---- All lines.

  said_well : (sizes : ImageSizes) (d : Draft) (number : ℕ) (said : Said) → Keeps d → SaysOne net said → IfOk (said_after sizes d number said) (λ e. IsWellBy e.head e.file e.statements e.start e.stand)
  said_well sizes d number nothing keeps says = keeps.1
  said_well sizes d number (begins name) keeps says = left_well (fault_left d.head d.stand.waiting) _ (begun_well d number name (case_judged name (coming d)) (judged_well name (coming d)) says keeps)
  said_well sizes d number (asks deed settings) keeps says =
      act_well d number settings (unless_over d.stand (deed_settled sizes d.stand deed)) keeps.1 (over_one d.stand (deed_settled sizes d.stand deed) (settled_one sizes d.stand deed says))
      (unless_behind d.stand (deed_settled sizes d.stand deed) (settled_behind sizes d.stand deed))
  said_well sizes d number (breaks rule) keeps says = tt

  -- after a line the trace of what was read is not too large
  abbrev Stays : Draft → Type 0
  Stays d = Keeps d × (length (expanded net (closed d)) ≤ LARGEST_TRACE)

  both_keep : (r : Result Draft CaseRefusal) → IfOk r (CanRun net) → IfOk r (λ e. IsWellBy e.head e.file e.statements e.start e.stand) → IfOk r Keeps
  both_keep (Ok d) runs well = (runs, well)
  both_keep (Err refusal) runs well = tt

  large_stays : (number : ℕ) (d : Draft) (large : Bool) → (large ≡ false → length (expanded net (closed d)) ≤ LARGEST_TRACE) → Keeps d → IfOk (if large then Err (at K7 number) else Ok d) Stays
  large_stays number d true small keeps = tt
  large_stays number d false small keeps = (keeps, small refl)

  not_large : (n : ℕ) → nat_lt LARGEST_TRACE n ≡ false → n ≤ LARGEST_TRACE
  not_large n is = grind (arith, nat_tests)

  unless_large_stays : (number : ℕ) (r : Result Draft CaseRefusal) → IfOk r Keeps → IfOk (unless_large net number r) Stays
  unless_large_stays number (Err refusal) keeps = tt
  unless_large_stays number (Ok d) keeps = large_stays number d (nat_lt LARGEST_TRACE (length (expanded net (closed d)))) (not_large (length (expanded net (closed d)))) keeps

  few_stay : (number : ℕ) (many : Bool) (r : Result Draft CaseRefusal) → IfOk r Stays → IfOk (if many then Err (at K7 number) else r) Stays
  few_stay number true r stays = tt
  few_stay number false r stays = stays

  bytes_stay : (sizes : ImageSizes) (d : Draft) (number : ℕ) (bytes : List ℕ) → HasNoLineFeed bytes → Keeps d → IfOk (bytes_after net sizes d number bytes) Stays
  bytes_stay sizes d number bytes none keeps =
      few_stay number (nat_lt MOST_CASE_LINES number) _ (unless_large_stays number (said_after sizes d number (line_said net bytes))
      (both_keep (said_after sizes d number (line_said net bytes)) (said_runs net sizes d number (line_said net bytes) keeps.0 (line_has net bytes)) (said_well sizes d number (line_said net bytes) keeps (line_one net bytes none))))

  line_stays : (sizes : ImageSizes) (d : Draft) (number : ℕ) (line : Line) → IsCut line → Keeps d → IfOk (line_after net sizes d number line) Stays
  line_stays sizes d number (Kept bytes) cut keeps = bytes_stay sizes d number bytes cut keeps
  line_stays sizes d number (KeptLast bytes) cut keeps = bytes_stay sizes d number bytes cut keeps
  line_stays sizes d number Long cut keeps = tt
  line_stays sizes d number Large cut keeps = tt

  -- the file that ends is legible but for what stands of its inputs
  record IsRead (file : CaseFile) : Type 0 where
    pub ended : IsEnded file
    pub size : length (expanded net file) ≤ LARGEST_TRACE

  ended_read : (number : ℕ) (head : Option Head) (left : Option CaseRefusal) (file : CaseFile) → IsEnded file → length (expanded net file) ≤ LARGEST_TRACE → IfOk (ended_by number file head left) IsRead
  ended_read number None left file ended small = tt
  ended_read number (Some head) (Some refusal) file ended small = tt
  ended_read number (Some head) None file ended small = record { ended = ended; size = small }

  file_read : (d : Draft) (number : ℕ) → Stays d → IfOk (file_ended d number) IsRead
  file_read d number stays = ended_read number d.head (fault_left d.head d.stand.waiting) (closed d) (ended_well d.head d.file d.statements d.start d.stand stays.0.0 stays.0.1) stays.1

  rest_read : (sizes : ImageSizes) (lines : List Line) (number : ℕ) (r : Result Draft CaseRefusal) → ((d : Draft) → Stays d → IfOk (lines_read net sizes d number lines) IsRead) → IfOk r Stays →
      IfOk (unless_refused r (λ d. lines_read net sizes d number lines)) IsRead
  rest_read sizes lines number (Err refusal) later stays = tt
  rest_read sizes lines number (Ok d) later stays = later d stays

  lines_are_read : (sizes : ImageSizes) (lines : List Line) (d : Draft) (number : ℕ) → AreCut lines → Stays d → IfOk (lines_read net sizes d number lines) IsRead
  lines_are_read sizes [] d number cut stays = file_read d number stays
  lines_are_read sizes (line ∷ lines) d number cut stays =
      rest_read sizes lines (number + 1) (line_after net sizes d number line) (λ e kept. lines_are_read sizes lines e (number + 1) cut.1 kept) (line_stays sizes d number line cut.0 stays.0)

  -- no line was read
  first_read : (sizes : ImageSizes) (lines : List Line) → AreCut lines → IfOk (lines_read net sizes no_lines 1 lines) IsRead
  first_read sizes [] cut = tt
  first_read sizes (line ∷ lines) cut =
      rest_read sizes lines 2 (line_after net sizes no_lines 1 line) (λ e kept. lines_are_read sizes lines e 2 cut.1 kept)
      (line_stays sizes no_lines 1 line cut.0 (no_lines_run net, All-nil (λ (s : Statement). IsOneLine s.act)))

  legible_by : (file : CaseFile) → All IsSeen (input_names net) → length (header_line net) ≤ LONGEST_TRACE_LINE + 1 → IsRead file → IsLegible net file
  legible_by file inputs header read = record {
    inputs = inputs;
    header = header;
    names = read.ended.names;
    faults = read.ended.cases;
    size = read.size;
    times = all_in_time (items_of_file net file) read.ended.times;
  }

  legible_if : (r : Result CaseFile CaseRefusal) → All IsSeen (input_names net) → length (header_line net) ≤ LONGEST_TRACE_LINE + 1 → IfOk r IsRead → IfOk r (IsLegible net)
  legible_if (Ok file) inputs header read = legible_by file inputs header read
  legible_if (Err refusal) inputs header read = tt

  -- the trace of all cases of a file is legible where that of its header is
  pub cases_legible : (sizes : ImageSizes) (text : List ℕ) → All IsSeen (input_names net) → length (header_line net) ≤ LONGEST_TRACE_LINE + 1 → IfOk (cases_of net sizes text) (IsLegible net)
  cases_legible sizes text inputs header =
      legible_if (cases_of net sizes text) inputs header (first_read sizes (case_lines text) (text_cut LARGEST_CASE_FILE LONGEST_CASE_LINE text))
