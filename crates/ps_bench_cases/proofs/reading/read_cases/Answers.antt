use Rattle.std.proofs.Common.{length, ◌≡◌, ◌≢◌, ◌≤◌, ◌<◌, ◌∙◌, ℕ, List, [], Option, None, Result, Ok, Err, IfOk, IfNone, IsTrue, IsSome, refl, subst, sym, ap, arith}
use Rattle.std.proofs.lemmas.Grind.{common_steps}
use Rattle.ps_lines.specs.Reader.{Gives, IsFresh, left, line_of, begin_of, read_of, name_of, limits_of}
use Rattle.ps_lines.specs.declared.reader.Limits.{Limits}
use Rattle.ps_lines.specs.declared.reader.Got.{Got}
use Rattle.ps_lines.specs.declared.reader.Got.TheVariants.{TooLong, TooLarge, End}
use Rattle.ps_trace.proofs.FaultLemmas.{found_either}
use Rattle.ps_bench_cases.specs.declared.limits.TheConstants.{LARGEST_CASE_FILE, LONGEST_CASE_LINE, MOST_CASE_LINES, MOST_CASES}
use Rattle.ps_bench_cases.specs.declared.rule.CaseRefusal.{CaseRefusal}
use Rattle.ps_bench_cases.specs.declared.rule.CasesFail.{CasesFail}
use Rattle.ps_bench_cases.specs.declared.case.CaseFile.{CaseFile}
use Rattle.ps_bench_cases.specs.declared.draft.Draft.{Draft}
use Rattle.ps_bench_cases.specs.Line.{Said, line_said}
use Rattle.ps_bench_cases.specs.LineSays.{said_by}
use Rattle.ps_bench_cases.specs.DraftSays.{after_by}
use Rattle.ps_bench_cases.specs.File.{cases_of, lines_read, no_lines, unless_large, said_after, file_ended}
use Rattle.ps_bench_cases.specs.Rooms.{HasRoom}
use Rattle.ps_bench_cases.proofs.ReadLines.{line_taken, line_refused, lines_ended, goes_past}
use Rattle.ps_bench_cases.proofs.SaidInputs.{line_has}
use Rattle.ps_bench_cases.proofs.RunningFiles.{AreRunnable, CanRun, IsGiven, no_lines_run, said_runs, unless_large_runs, placed, file_runs}
use Rattle.ps_bench_cases.proofs.reading.read_cases.Goals as goal
use Rattle.ps_bench_cases.proofs.reading.read_cases.Goals.{in-Ok, in-Err}

pub lines-init : goal.lines-init
lines-init g c =
    let fresh : IsFresh (record { longest = LONGEST_CASE_LINE; largest = LARGEST_CASE_FILE }) c.in_ok-lines.lines = c.in_ok-lines.ensures.fresh in
    record {
      reads = λ tells text is. fresh.reads text;
      says = λ tells text is. ap (lines_read c.args.app.now c.args.sizes.now no_lines 1) (sym (fresh.all_left text)) ∙ ap (λ d. lines_read c.args.app.now c.args.sizes.now d 1 (left c.in_ok-lines.lines text)) (sym c.new-measured.ensures.none);
      small = c.new-measured.ensures.small;
      run = subst (CanRun c.args.app.now) (sym c.new-measured.ensures.none) (no_lines_run c.args.app.now);
      room = c.new-measured.ensures.room;
      found = λ tells some. absurd (omega (arith, fresh.nothing));
      fresh = λ none. fresh.nothing;
      few = omega arith;
      near = omega (arith, fresh.nothing);
      limited = ap (λ (limits : Limits). limits.largest) fresh.limits;
      named = c.in_ok-lines.ensures.name;
      exact = λ other. refl;
      kept = refl;
      telling = refl;
    }

pub returns-then-eq-clause-gives : goal.returns-then-eq-clause-gives
returns-then-eq-clause-gives g c = λ tells text is.
    let here = ap (λ (held : List ℕ → Option (List ℕ)). held (name_of c.lines.lines)) c.lines.invariant.kept ∙ ap (g.F.Files.held c.args.files.now) c.lines.invariant.named in
    let ends : c.in_ok-got.got ≡ End = grind (arith, common_steps) in
    let gives : Gives (left c.lines.lines text) c.in_ok-got.got (line_of c.next_line.new.self) (left c.next_line.new.self text) =
    c.in_ok-got.ensures.gives (subst IsTrue (sym c.lines.invariant.telling) tells) text (here ∙ is) (c.lines.invariant.reads tells text is) in
    let none : left c.lines.lines text ≡ [] = (subst (λ (got : Got). Gives (left c.lines.lines text) got (line_of c.next_line.new.self) (left c.next_line.new.self text)) ends gives).0 in
    let whole : cases_of c.args.app.now c.args.sizes.now text ≡ file_ended c.lines.measured.draft c.lines.number =
    c.lines.invariant.says tells text is ∙ lines_ended c.args.app.now c.args.sizes.now c.lines.measured.draft c.lines.number (left c.lines.lines text) none in
    elim c.match-branch-4.branch [
      | in-Ok w ↦ subst (λ (r : Result CaseFile CasesFail). IfOk r (λ file. cases_of c.args.app.now c.args.sizes.now text ≡ Ok file)) (sym w.result-is) (whole ∙ sym c.in_ok-file.ensures ∙ w.in-Ok.is)
      | in-Err w ↦ subst (λ (r : Result CaseFile CasesFail). IfOk r (λ file. cases_of c.args.app.now c.args.sizes.now text ≡ Ok file)) (sym w.result-is) tt
    ]

pub returns-then-eq-clause-runnable : goal.returns-then-eq-clause-runnable
returns-then-eq-clause-runnable g c =
    let runs = file_runs c.args.app.now c.lines.measured.draft c.lines.number c.lines.invariant.run in
    elim c.match-branch-4.branch [
      | in-Ok w ↦ subst (λ (r : Result CaseFile CasesFail). IfOk r (AreRunnable c.args.app.now)) (sym w.result-is)
          (subst (λ (r : Result CaseFile CaseRefusal). IfOk r (IsGiven c.args.app.now)) (sym c.in_ok-file.ensures ∙ w.in-Ok.is) runs).run
      | in-Err w ↦ subst (λ (r : Result CaseFile CasesFail). IfOk r (AreRunnable c.args.app.now)) (sym w.result-is) tt
    ]

pub returns-then-eq-clause-few : goal.returns-then-eq-clause-few
returns-then-eq-clause-few g c =
    let runs = file_runs c.args.app.now c.lines.measured.draft c.lines.number c.lines.invariant.run in
    let IsFew : CaseFile → Type 0 = λ file. length file.cases ≤ MOST_CASES in
    elim c.match-branch-4.branch [
      | in-Ok w ↦ subst (λ (r : Result CaseFile CasesFail). IfOk r IsFew) (sym w.result-is)
          (subst (λ (r : Result CaseFile CaseRefusal). IfOk r (IsGiven c.args.app.now)) (sym c.in_ok-file.ensures ∙ w.in-Ok.is) runs).few
      | in-Err w ↦ subst (λ (r : Result CaseFile CasesFail). IfOk r IsFew) (sym w.result-is) tt
    ]

pub returns-in-Some-clause-refuses : goal.returns-in-Some-clause-refuses
returns-in-Some-clause-refuses g c = λ tells text is refusal same.
    let here = ap (λ (held : List ℕ → Option (List ℕ)). held (name_of c.lines.lines)) c.lines.invariant.kept ∙ ap (g.F.Files.held c.args.files.now) c.lines.invariant.named in
    let more : c.in_ok-got.got ≢ End = grind (arith, common_steps) in
    let short : c.in_ok-got.got ≢ TooLong = grind (arith, common_steps) in
    let small : c.in_ok-got.got ≢ TooLarge = grind (arith, common_steps) in
    let few : c.lines.number ≤ MOST_CASE_LINES = omega arith in
    let says : unless_large c.args.app.now c.lines.number (said_after c.args.sizes.now c.lines.measured.draft c.lines.number (line_said c.args.app.now (line_of c.next_line.new.self))) ≡ Err c.in-Some.refusal =
    ap (λ (said : Said). unless_large c.args.app.now c.lines.number (said_after c.args.sizes.now c.lines.measured.draft c.lines.number said)) (ap (line_said c.args.app.now) (sym c.line.ensures) ∙ c.in_ok-says.ensures ∙ ap (said_by c.in_ok-says.says) (c.line.ensures ∙ sym c.line-line.ensures)) ∙ c.in_ok-refusal.ensures.after
    ∙ ap (λ (r : Option CaseRefusal). after_by r c.take.new.self.draft) c.in-Some.is in
    let which : c.in-Some.refusal ≡ refusal = cc in
    c.lines.invariant.says tells text is
    ∙ line_refused c.args.app.now c.args.sizes.now c.in_ok-got.got c.lines.measured.draft c.in-Some.refusal c.lines.number _ _ (line_of c.next_line.new.self) (c.in_ok-got.ensures.gives (subst IsTrue (sym c.lines.invariant.telling) tells) text (here ∙ is) (c.lines.invariant.reads tells text is)) more short small few says
    ∙ ap Err which

pub returns-in-Some-clause-found : goal.returns-in-Some-clause-found
returns-in-Some-clause-found g c = λ tells read.
    let here = ap (λ (held : List ℕ → Option (List ℕ)). held (name_of c.lines.lines)) c.lines.invariant.kept ∙ ap (g.F.Files.held c.args.files.now) c.lines.invariant.named in
    found_either (begin_of c.lines.lines) (read_of c.lines.lines) (c.lines.invariant.found tells)
    (λ none. subst IsSome here (c.in_ok-got.ensures.found (subst IsTrue (sym c.lines.invariant.telling) tells) none))
    c.lines.invariant.fresh

pub take-requires-clause-placed : goal.take-requires-clause-placed
take-requires-clause-placed g c = placed c.args.app.now c.lines.measured.draft c.lines.invariant.run

pub lines-preserved : goal.lines-preserved
lines-preserved g c =
    let here = ap (λ (held : List ℕ → Option (List ℕ)). held (name_of c.lines.lines)) c.lines.invariant.kept ∙ ap (g.F.Files.held c.args.files.now) c.lines.invariant.named in
    let more : c.in_ok-got.got ≢ End = grind (arith, common_steps) in
    let short : c.in_ok-got.got ≢ TooLong = grind (arith, common_steps) in
    let small : c.in_ok-got.got ≢ TooLarge = grind (arith, common_steps) in
    let few : c.lines.number ≤ MOST_CASE_LINES = omega arith in
    let none : c.in_ok-refusal.field-0 ≡ None = grind (arith, common_steps) in
    let limited : (limits_of c.next_line.new.self).largest ≡ LARGEST_CASE_FILE = ap (λ (limits : Limits). limits.largest) c.next_line.ensures.limits ∙ c.lines.invariant.limited in
    let on : begin_of c.lines.lines < begin_of c.next_line.new.self = goes_past c.in_ok-got.got c.lines.lines c.next_line.new.self c.in_ok-got.ensures.goes_on more small in
    let says : unless_large c.args.app.now c.lines.number (said_after c.args.sizes.now c.lines.measured.draft c.lines.number (line_said c.args.app.now (line_of c.next_line.new.self))) ≡ Ok c.take.new.self.draft =
    ap (λ (said : Said). unless_large c.args.app.now c.lines.number (said_after c.args.sizes.now c.lines.measured.draft c.lines.number said)) (ap (line_said c.args.app.now) (sym c.line.ensures) ∙ c.in_ok-says.ensures ∙ ap (said_by c.in_ok-says.says) (c.line.ensures ∙ sym c.line-line.ensures)) ∙ c.in_ok-refusal.ensures.after
    ∙ ap (λ (r : Option CaseRefusal). after_by r c.take.new.self.draft) none in
    record {
      reads = λ tells text is. c.next_line.ensures.reads (subst IsTrue (sym c.lines.invariant.telling) tells) text (here ∙ is) (c.lines.invariant.reads tells text is);
      says = λ tells text is. c.lines.invariant.says tells text is
          ∙ line_taken c.args.app.now c.args.sizes.now c.in_ok-got.got c.lines.measured.draft c.take.new.self.draft c.lines.number _ _ (line_of c.next_line.new.self) (c.in_ok-got.ensures.gives (subst IsTrue (sym c.lines.invariant.telling) tells) text (here ∙ is) (c.lines.invariant.reads tells text is)) more short small few says;
      small = c.in_ok-refusal.ensures.small;
      run = subst (λ (r : Result Draft CaseRefusal). IfOk r (CanRun c.args.app.now)) says
          (unless_large_runs c.args.app.now c.lines.number _
          (said_runs c.args.app.now c.args.sizes.now c.lines.measured.draft c.lines.number (line_said c.args.app.now (line_of c.next_line.new.self)) c.lines.invariant.run (line_has c.args.app.now (line_of c.next_line.new.self))));
      room = subst (λ (r : Option CaseRefusal). IfNone r (HasRoom c.args.app.now c.take.new.self.draft c.take.new.self.room)) none c.in_ok-refusal.ensures.room;
      found = λ tells some. found_either (begin_of c.lines.lines) (read_of c.lines.lines) (c.lines.invariant.found tells)
          (λ none. subst IsSome here (c.in_ok-got.ensures.found (subst IsTrue (sym c.lines.invariant.telling) tells) none))
          c.lines.invariant.fresh;
      fresh = λ none. absurd (omega (arith, none, on));
      few = omega (arith, few);
      near = subst (λ (most : ℕ). begin_of c.next_line.new.self ≤ most) limited c.next_line.ensures.within;
      limited = limited;
      named = cc;
      exact = λ other. c.in_ok-got.ensures.exact other ∙ c.lines.invariant.exact other;
      kept = cc;
      telling = cc;
    }

pub returns-in_err-file-clause-exact : goal.returns-in_err-file-clause-exact
returns-in_err-file-clause-exact g c = λ whole other. c.in_ok-got.ensures.exact other ∙ c.lines.invariant.exact other

pub returns-then-eq-clause-exact : goal.returns-then-eq-clause-exact
returns-then-eq-clause-exact g c = λ whole other. c.in_ok-got.ensures.exact other ∙ c.lines.invariant.exact other

pub returns-then-number-gt-MOST_CASE_LINES-clause-exact : goal.returns-then-number-gt-MOST_CASE_LINES-clause-exact
returns-then-number-gt-MOST_CASE_LINES-clause-exact g c = λ whole other. c.in_ok-got.ensures.exact other ∙ c.lines.invariant.exact other

pub returns-in_err-says-clause-exact : goal.returns-in_err-says-clause-exact
returns-in_err-says-clause-exact g c = λ whole other. c.in_ok-got.ensures.exact other ∙ c.lines.invariant.exact other

pub returns-in_err-refusal-clause-exact : goal.returns-in_err-refusal-clause-exact
returns-in_err-refusal-clause-exact g c = λ whole other. c.in_ok-got.ensures.exact other ∙ c.lines.invariant.exact other

pub returns-in-Some-clause-exact : goal.returns-in-Some-clause-exact
returns-in-Some-clause-exact g c = λ whole other. c.in_ok-got.ensures.exact other ∙ c.lines.invariant.exact other

pub returns-in_err-file-clause-counts : goal.returns-in_err-file-clause-counts
returns-in_err-file-clause-counts g c = λ other. omega (arith, c.next_line.ensures.counts other, c.lines.invariant.exact other)

pub returns-in_err-file-clause-kept : goal.returns-in_err-file-clause-kept
returns-in_err-file-clause-kept g c = c.next_line.ensures.kept ∙ c.lines.invariant.kept

pub returns-in_err-file-clause-telling : goal.returns-in_err-file-clause-telling
returns-in_err-file-clause-telling g c = c.next_line.ensures.telling ∙ c.lines.invariant.telling

pub returns-then-eq-clause-counts : goal.returns-then-eq-clause-counts
returns-then-eq-clause-counts g c = λ other. omega (arith, c.next_line.ensures.counts other, c.lines.invariant.exact other)

pub returns-then-eq-clause-kept : goal.returns-then-eq-clause-kept
returns-then-eq-clause-kept g c = c.next_line.ensures.kept ∙ c.lines.invariant.kept

pub returns-then-eq-clause-telling : goal.returns-then-eq-clause-telling
returns-then-eq-clause-telling g c = c.next_line.ensures.telling ∙ c.lines.invariant.telling

pub returns-then-number-gt-MOST_CASE_LINES-clause-counts : goal.returns-then-number-gt-MOST_CASE_LINES-clause-counts
returns-then-number-gt-MOST_CASE_LINES-clause-counts g c = λ other. omega (arith, c.next_line.ensures.counts other, c.lines.invariant.exact other)

pub returns-then-number-gt-MOST_CASE_LINES-clause-kept : goal.returns-then-number-gt-MOST_CASE_LINES-clause-kept
returns-then-number-gt-MOST_CASE_LINES-clause-kept g c = c.next_line.ensures.kept ∙ c.lines.invariant.kept

pub returns-then-number-gt-MOST_CASE_LINES-clause-telling : goal.returns-then-number-gt-MOST_CASE_LINES-clause-telling
returns-then-number-gt-MOST_CASE_LINES-clause-telling g c = c.next_line.ensures.telling ∙ c.lines.invariant.telling

pub returns-in_err-says-clause-counts : goal.returns-in_err-says-clause-counts
returns-in_err-says-clause-counts g c = λ other. omega (arith, c.next_line.ensures.counts other, c.lines.invariant.exact other)

pub returns-in_err-says-clause-kept : goal.returns-in_err-says-clause-kept
returns-in_err-says-clause-kept g c = c.next_line.ensures.kept ∙ c.lines.invariant.kept

pub returns-in_err-says-clause-telling : goal.returns-in_err-says-clause-telling
returns-in_err-says-clause-telling g c = c.next_line.ensures.telling ∙ c.lines.invariant.telling

pub returns-in_err-refusal-clause-counts : goal.returns-in_err-refusal-clause-counts
returns-in_err-refusal-clause-counts g c = λ other. omega (arith, c.next_line.ensures.counts other, c.lines.invariant.exact other)

pub returns-in_err-refusal-clause-kept : goal.returns-in_err-refusal-clause-kept
returns-in_err-refusal-clause-kept g c = c.next_line.ensures.kept ∙ c.lines.invariant.kept

pub returns-in_err-refusal-clause-telling : goal.returns-in_err-refusal-clause-telling
returns-in_err-refusal-clause-telling g c = c.next_line.ensures.telling ∙ c.lines.invariant.telling

pub returns-in-Some-clause-counts : goal.returns-in-Some-clause-counts
returns-in-Some-clause-counts g c = λ other. omega (arith, c.next_line.ensures.counts other, c.lines.invariant.exact other)

pub returns-in-Some-clause-kept : goal.returns-in-Some-clause-kept
returns-in-Some-clause-kept g c = c.next_line.ensures.kept ∙ c.lines.invariant.kept

pub returns-in-Some-clause-telling : goal.returns-in-Some-clause-telling
returns-in-Some-clause-telling g c = c.next_line.ensures.telling ∙ c.lines.invariant.telling

pub returns-in_err-got-clause-counts : goal.returns-in_err-got-clause-counts
returns-in_err-got-clause-counts g c = λ other. omega (arith, c.next_line.ensures.counts other, c.lines.invariant.exact other)

pub returns-in_err-got-clause-kept : goal.returns-in_err-got-clause-kept
returns-in_err-got-clause-kept g c = c.next_line.ensures.kept ∙ c.lines.invariant.kept

pub returns-in_err-got-clause-telling : goal.returns-in_err-got-clause-telling
returns-in_err-got-clause-telling g c = c.next_line.ensures.telling ∙ c.lines.invariant.telling

pub returns-then-eq-clause-found : goal.returns-then-eq-clause-found
returns-then-eq-clause-found g c = λ tells read.
    let here = ap (λ (held : List ℕ → Option (List ℕ)). held (name_of c.lines.lines)) c.lines.invariant.kept ∙ ap (g.F.Files.held c.args.files.now) c.lines.invariant.named in
    found_either (begin_of c.lines.lines) (read_of c.lines.lines) (c.lines.invariant.found tells)
    (λ none. subst IsSome here (c.in_ok-got.ensures.found (subst IsTrue (sym c.lines.invariant.telling) tells) none))
    c.lines.invariant.fresh

pub returns-then-number-gt-MOST_CASE_LINES-clause-found : goal.returns-then-number-gt-MOST_CASE_LINES-clause-found
returns-then-number-gt-MOST_CASE_LINES-clause-found g c = λ tells read.
    let here = ap (λ (held : List ℕ → Option (List ℕ)). held (name_of c.lines.lines)) c.lines.invariant.kept ∙ ap (g.F.Files.held c.args.files.now) c.lines.invariant.named in
    found_either (begin_of c.lines.lines) (read_of c.lines.lines) (c.lines.invariant.found tells)
    (λ none. subst IsSome here (c.in_ok-got.ensures.found (subst IsTrue (sym c.lines.invariant.telling) tells) none))
    c.lines.invariant.fresh
