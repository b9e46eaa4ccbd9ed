-- What is kept from line to line of a file: each case of it can be run.
use Rattle.std.proofs.Common.{◌≡◌, ◌≤◌, ◌<◌, ◌+◌, ◌++◌, ◌∷◌, ℕ, zero, suc, List, [], Option, Some, None, Result, Ok, Err, IfOk, Bool, true, false, if◌then◌else◌, nat_lt, length, get_or, refl, sym, ap, ◌∙◌, subst, arith}
use Rattle.std.specs.List.{All}
use Rattle.std.proofs.lemmas.Grind.{common_steps}
use Rattle.std.proofs.lemmas.List.{append-nil, append_assoc, length_push}
use Rattle.std.proofs.lemmas.List.Elements.{All-nil, All-push}
use Rattle.ps_model.specs.declared.channel.ImageSizes.{ImageSizes}
use Rattle.ps_model.specs.Network.{Network, input_count}
use Rattle.ps_lines.specs.Lines.{Line}
use Rattle.ps_lines.specs.Lines.Line.{Kept, KeptLast, Long, Large}
use Rattle.ps_base.specs.declared.limits.TheConstants.{LARGEST_TRACE}
use Rattle.ps_bench_cases.specs.declared.limits.TheConstants.{MOST_CASE_LINES, MOST_CASES}
use Rattle.ps_bench_cases.specs.declared.rule.CaseRule.{CaseRule}
use Rattle.ps_bench_cases.specs.declared.rule.CaseRule.TheVariants.{K7}
use Rattle.ps_bench_cases.specs.declared.rule.CaseRefusal.{CaseRefusal}
use Rattle.ps_bench_cases.specs.declared.case.Act.{Act}
use Rattle.ps_bench_cases.specs.declared.case.Act.TheVariants as act
use Rattle.ps_bench_names.specs.declared.name.Setting.{Setting}
use Rattle.ps_bench_cases.specs.declared.case.Statement.{Statement}
use Rattle.ps_bench_cases.specs.declared.case.Case.{Case}
use Rattle.ps_bench_cases.specs.declared.case.CaseFile.{CaseFile}
use Rattle.ps_bench_cases.specs.declared.stand.Stand.{Stand}
use Rattle.ps_bench_cases.specs.declared.stand.Coming.{Coming}
use Rattle.ps_bench_cases.specs.declared.draft.Head.{Head}
use Rattle.ps_bench_cases.specs.declared.draft.Draft.{Draft}
use Rattle.ps_bench_cases.specs.Line.{Said, line_said}
use Rattle.ps_bench_cases.specs.Line.Said.{nothing, begins, asks, breaks}
use Rattle.ps_bench_cases.specs.Stands.{deed_settled, unless_over, stand_after}
use Rattle.ps_bench_cases.specs.Expanded.{end_point, expanded}
use Rattle.ps_bench_cases.specs.Rooms.{base_behind, IsPlacedBy, IsPlaced}
use Rattle.ps_bench_cases.specs.Meant.{whole_case}
use Rattle.ps_bench_cases.specs.Runnable.{IsRunnable}
use Rattle.ps_bench_cases.specs.File.{at, no_lines, act_after, closed, closed_by, coming, coming_by, opened, case_judged, case_begun, fault_left, unless_left, ended_by, file_ended, unless_refused, unless_large, said_after, bytes_after, line_after, lines_read, case_lines, cases_of}
use Rattle.ps_bench_cases.proofs.Running.{RunsUpTo, IsBehind, runs_more, settled_behind, unless_behind}
use Rattle.ps_bench_cases.proofs.Placing.{time_more, time_anywhere, base_push}
use Rattle.ps_bench_cases.proofs.SaidInputs.{AreOfInputs, SaysInputs, line_has}

-- a line leaves when the case begins
pub same_base : (number : ℕ) (stand : Stand) (act : Act) → (stand_after number stand act).base ≡ stand.base
same_base number stand (act.Scans pace) = refl
same_base number stand (act.Fault fault) = refl
same_base number stand act.Set = refl
same_base number stand act.Restart = refl
same_base number stand (act.Expect what) = refl

module _ (net : Network) where
  -- each case that ended can be run
  abbrev pub AreRunnable : CaseFile → Type 0
  AreRunnable file = All (λ (c : Case). IsRunnable net (whole_case file c)) file.cases

  -- The lines before the first case can be run, and so can what is read now, which begins in the expanded trace where
  -- the cases before it end.
  pub record IsSound (file : CaseFile) (statements : List Statement) (start stand : Stand) : Type 0 where
    pub cases : AreRunnable file
    pub few : length file.cases + 1 ≤ MOST_CASES
    pub begin : RunsUpTo net file.begin start
    pub now : RunsUpTo net (file.begin ++ statements) stand
    pub base : stand.base ≡ base_behind (input_count net) file.begin 0 file.cases
    pub time : stand.time ≡ (end_point (input_count net) stand.base (file.begin ++ statements)).time
    pub begin_time : start.time ≡ (end_point (input_count net) 0 file.begin).time

  -- before the first case no case ended
  pub record IsFirst (file : CaseFile) (statements : List Statement) (stand : Stand) : Type 0 where
    pub none : file.cases ≡ []
    pub now : RunsUpTo net statements stand
    pub base : stand.base ≡ 0
    pub time : stand.time ≡ (end_point (input_count net) 0 statements).time

  abbrev pub IsSoundBy : Option Head → CaseFile → List Statement → Stand → Stand → Type 0
  IsSoundBy None file statements start stand = IsFirst file statements stand
  IsSoundBy (Some head) file statements start stand = IsSound file statements start stand

  -- what was read of a file can be run
  abbrev pub CanRun : Draft → Type 0
  CanRun d = IsSoundBy d.head d.file d.statements d.start d.stand

  placed_by : (d : Draft) (head : Option Head) → IsSoundBy head d.file d.statements d.start d.stand → IsPlacedBy net d head
  placed_by d None first = (first.none, first.base, first.time)
  placed_by d (Some head) sound = (sound.base, sound.time, sound.begin_time)

  -- it stands where it does in the expanded trace
  pub placed : (d : Draft) → CanRun d → IsPlaced net d
  placed d runs = placed_by d d.head runs

  -- nothing was read
  pub no_lines_run : CanRun no_lines
  no_lines_run = record {
    none = refl;
    now = record {
      runs = record {
        ordered = λ i j d below within. absurd (omega arith);
        one_channel = λ i j d below within. absurd (omega arith);
        rising = λ i j d below within. all_zero i j d within below;
        inputs = λ k d within. absurd (omega arith);
      };
      faults = λ k d within. absurd (omega arith);
      times = λ k d within. absurd (omega arith);
    };
    base = refl;
    time = refl;
  }
    where
      all_zero : (i j d : ℕ) → j < 1 → i ≤ j → get_or (0 ∷ []) i d ≤ get_or (0 ∷ []) j d
      all_zero zero zero d within below = omega arith
      all_zero (suc i) zero d within below = absurd (omega arith)
      all_zero i (suc j) d within below = absurd (omega arith)

  -- ---- A line that asks for something.

  stated_runs : (head : Option Head) (file : CaseFile) (statements : List Statement) (start stand : Stand) (number : ℕ) (settings : List Setting) (act : Act) →
      IsSoundBy head file statements start stand → AreOfInputs net settings → IsBehind stand act →
      IsSoundBy head file (statements ++ record { line = number; settings = settings; act = act } ∷ []) start (stand_after number stand act)
  stated_runs None file statements start stand number settings act sound of_inputs behind = record {
    none = sound.none;
    now = runs_more net statements stand number settings sound.now of_inputs act behind;
    base = same_base number stand act ∙ sound.base;
    time = time_more (input_count net) 0 statements number stand (record { line = number; settings = settings; act = act }) behind sound.time;
  }
  stated_runs (Some head) file statements start stand number settings act sound of_inputs behind =
      let s : Statement = record { line = number; settings = settings; act = act } in
      record {
        cases = sound.cases;
        few = sound.few;
        begin = sound.begin;
        now = subst (λ (ss : List Statement). RunsUpTo net ss (stand_after number stand act)) (append_assoc file.begin statements (s ∷ []))
            (runs_more net (file.begin ++ statements) stand number settings sound.now of_inputs act behind);
        base = same_base number stand act ∙ sound.base;
        time = subst (λ (base : ℕ). (stand_after number stand act).time ≡ (end_point (input_count net) base (file.begin ++ (statements ++ s ∷ []))).time) (sym (same_base number stand act))
            (subst (λ (ss : List Statement). (stand_after number stand act).time ≡ (end_point (input_count net) stand.base ss).time) (append_assoc file.begin statements (s ∷ []))
            (time_more (input_count net) stand.base (file.begin ++ statements) number stand s behind sound.time));
        begin_time = sound.begin_time;
      }

  act_runs : (d : Draft) (number : ℕ) (settings : List Setting) (act : Result Act CaseRule) → CanRun d → AreOfInputs net settings → IfOk act (IsBehind d.stand) → IfOk (act_after d number settings act) CanRun
  act_runs d number settings (Err rule) runs of_inputs behind = tt
  act_runs d number settings (Ok act) runs of_inputs behind = stated_runs d.head d.file d.statements d.start d.stand number settings act runs of_inputs behind

  -- ---- A `case` line.

  -- after the case that ends the file can be run
  closed_runs : (head : Option Head) (file : CaseFile) (statements : List Statement) (start stand : Stand) → IsSoundBy head file statements start stand → AreRunnable (closed_by file head statements)
  closed_runs None file statements start stand sound = subst (All (λ (c : Case). IsRunnable net (statements ++ c.statements))) (sym sound.none) (All-nil (λ (c : Case). IsRunnable net (statements ++ c.statements)))
  closed_runs (Some head) file statements start stand sound = All-push (λ (c : Case). IsRunnable net (file.begin ++ c.statements)) file.cases _ sound.cases sound.now.runs

  -- the lines before the first case stand as they did
  begin_stands : (head : Option Head) (d : Draft) → IsSoundBy head d.file d.statements d.start d.stand → RunsUpTo net (closed_by d.file head d.statements).begin (coming_by d head).start
  begin_stands None d sound = sound.now
  begin_stands (Some head) d sound = sound.begin

  -- they end where they did
  begin_ends : (head : Option Head) (d : Draft) → IsSoundBy head d.file d.statements d.start d.stand → (coming_by d head).start.time ≡ (end_point (input_count net) 0 (closed_by d.file head d.statements).begin).time
  begin_ends None d sound = sound.time
  begin_ends (Some head) d sound = sound.begin_time

  -- the next case begins in the expanded trace where the cases before it end
  pub comes_behind : (head : Option Head) (d : Draft) → IsPlacedBy net d head →
      (coming_by d head).base ≡ base_behind (input_count net) (closed_by d.file head d.statements).begin 0 (closed_by d.file head d.statements).cases
  comes_behind None d placed = ap (base_behind (input_count net) d.statements 0) (sym placed.0)
  comes_behind (Some head) d placed =
      let c : Case = record { line = head.line; name = head.name; statements = d.statements } in
      ap (λ (t : ℕ). d.stand.base + t) placed.1
      ∙ ap (λ (b : ℕ). b + (end_point (input_count net) b (d.file.begin ++ d.statements)).time) placed.0
      ∙ sym (base_push (input_count net) d.file.begin 0 d.file.cases c)

  -- a case begins as they stand
  opened_stands : (statements : List Statement) (number : ℕ) (c : Coming) → RunsUpTo net statements c.start → RunsUpTo net (statements ++ []) (opened number c)
  opened_stands statements number c upto = subst (λ (ss : List Statement). RunsUpTo net ss (opened number c)) (sym (append-nil statements)) record {
    runs = upto.runs;
    faults = λ k d within. let is = upto.faults k d within in record { scan = is.scan; turn = is.turn; first = is.first };
    times = upto.times;
  }

  -- it is not one too many
  judged_few : (name : List ℕ) (c : Coming) → case_judged name c ≡ None → c.cases < MOST_CASES
  judged_few name c is = grind (arith, common_steps)

  -- the cases that ended
  closed_few : (head : Option Head) (d : Draft) → IsSoundBy head d.file d.statements d.start d.stand → length (closed_by d.file head d.statements).cases ≡ (coming_by d head).cases
  closed_few None d sound = ap (λ (cases : List Case). length cases) sound.none
  closed_few (Some head) d sound = length_push d.file.cases (record { line = head.line; name = head.name; statements = d.statements })

  begun_runs : (d : Draft) (number : ℕ) (name : List ℕ) (judged : Option CaseRule) → (judged ≡ None → (coming d).cases < MOST_CASES) → CanRun d → IfOk (case_begun d number name (coming d) judged) CanRun
  begun_runs d number name (Some rule) few runs = tt
  begun_runs d number name None few runs =
      let begin = begin_stands d.head d runs in
      let more = few refl in
      let ended = closed_few d.head d runs in
      let at_end = begin_ends d.head d runs in
      record {
        cases = closed_runs d.head d.file d.statements d.start d.stand runs;
        few = omega arith;
        begin = begin;
        now = opened_stands (closed d).begin number (coming d) begin;
        base = comes_behind d.head d (placed d runs);
        time = at_end ∙ ap (λ (ss : List Statement). (end_point (input_count net) 0 ss).time) (sym (append-nil (closed d).begin)) ∙ time_anywhere (input_count net) 0 (coming d).base ((closed d).begin ++ []);
        begin_time = at_end;
      }

  unless_left_runs : (left : Option CaseRefusal) (r : Result Draft CaseRefusal) → IfOk r CanRun → IfOk (unless_left left r) CanRun
  unless_left_runs (Some refusal) r runs = tt
  unless_left_runs None r runs = runs

  -- ---- All lines.

  -- after a line what was read can be run
  pub said_runs : (sizes : ImageSizes) (d : Draft) (number : ℕ) (said : Said) → CanRun d → SaysInputs net said → IfOk (said_after sizes d number said) CanRun
  said_runs sizes d number nothing runs says = runs
  said_runs sizes d number (begins name) runs says = unless_left_runs (fault_left d.head d.stand.waiting) _ (begun_runs d number name (case_judged name (coming d)) (judged_few name (coming d)) runs)
  said_runs sizes d number (asks deed settings) runs says = act_runs d number settings (unless_over d.stand (deed_settled sizes d.stand deed)) runs says
      (unless_behind d.stand (deed_settled sizes d.stand deed) (settled_behind sizes d.stand deed))
  said_runs sizes d number (breaks rule) runs says = tt

  -- what is promised of a file that is given
  pub record IsGiven (file : CaseFile) : Type 0 where
    pub run : AreRunnable file
    pub few : length file.cases ≤ MOST_CASES

  ended_runs : (number : ℕ) (head : Option Head) (left : Option CaseRefusal) (file : CaseFile) (statements : List Statement) (start stand : Stand) →
      IsSoundBy head file statements start stand → IfOk (ended_by number (closed_by file head statements) head left) IsGiven
  ended_runs number None left file statements start stand sound = tt
  ended_runs number (Some head) (Some refusal) file statements start stand sound = tt
  ended_runs number (Some head) None file statements start stand sound =
      record { run = closed_runs (Some head) file statements start stand sound; few = omega (arith, sound.few, length_push file.cases (record { line = head.line; name = head.name; statements = statements })) }

  -- the file can be run where it ends
  pub file_runs : (d : Draft) (number : ℕ) → CanRun d → IfOk (file_ended d number) IsGiven
  file_runs d number runs = ended_runs number d.head (fault_left d.head d.stand.waiting) d.file d.statements d.start d.stand runs

  -- ---- The whole text.

  -- what is refused for its size leaves nothing
  large_runs : (number : ℕ) (d : Draft) (large : Bool) → CanRun d → IfOk (if large then Err (at K7 number) else Ok d) CanRun
  large_runs number d true runs = tt
  large_runs number d false runs = runs

  pub unless_large_runs : (number : ℕ) (behind : Result Draft CaseRefusal) → IfOk behind CanRun → IfOk (unless_large net number behind) CanRun
  unless_large_runs number (Err refusal) runs = tt
  unless_large_runs number (Ok d) runs = large_runs number d (nat_lt LARGEST_TRACE (length (expanded net (closed d)))) runs

  -- nor does a line that is one too many
  few_runs : (number : ℕ) (many : Bool) (behind : Result Draft CaseRefusal) → IfOk behind CanRun → IfOk (if many then Err (at K7 number) else behind) CanRun
  few_runs number true behind runs = tt
  few_runs number false behind runs = runs

  bytes_run : (sizes : ImageSizes) (d : Draft) (number : ℕ) (bytes : List ℕ) → CanRun d → IfOk (bytes_after net sizes d number bytes) CanRun
  bytes_run sizes d number bytes runs =
      few_runs number (nat_lt MOST_CASE_LINES number) _ (unless_large_runs number _ (said_runs sizes d number (line_said net bytes) runs (line_has net bytes)))

  line_runs : (sizes : ImageSizes) (d : Draft) (number : ℕ) (line : Line) → CanRun d → IfOk (line_after net sizes d number line) CanRun
  line_runs sizes d number (Kept bytes) runs = bytes_run sizes d number bytes runs
  line_runs sizes d number (KeptLast bytes) runs = bytes_run sizes d number bytes runs
  line_runs sizes d number Long runs = tt
  line_runs sizes d number Large runs = tt

  rest_runs : (sizes : ImageSizes) (lines : List Line) (number : ℕ) (behind : Result Draft CaseRefusal) → ((d : Draft) → CanRun d → IfOk (lines_read net sizes d number lines) IsGiven) →
      IfOk behind CanRun → IfOk (unless_refused behind (λ d. lines_read net sizes d number lines)) IsGiven
  rest_runs sizes lines number (Err refusal) later runs = tt
  rest_runs sizes lines number (Ok d) later runs = later d runs

  lines_run : (sizes : ImageSizes) (lines : List Line) (d : Draft) (number : ℕ) → CanRun d → IfOk (lines_read net sizes d number lines) IsGiven
  lines_run sizes [] d number runs = file_runs d number runs
  lines_run sizes (line ∷ lines) d number runs =
      rest_runs sizes lines (number + 1) (line_after net sizes d number line) (λ after kept. lines_run sizes lines after (number + 1) kept) (line_runs sizes d number line runs)

  -- what a text says can be run
  pub cases_run : (sizes : ImageSizes) (text : List ℕ) → IfOk (cases_of net sizes text) IsGiven
  cases_run sizes text = lines_run sizes (case_lines text) no_lines 1 no_lines_run
