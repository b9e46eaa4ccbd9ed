-- How the loop over the lines of a stream comes to do them all.
use Rattle.std.proofs.Common.{◌≡◌, ◌∙◌, ◌++◌, ◌+◌, ◌≤◌, [], ◌∷◌, ◌⊎◌, ℕ, List, Bool, Result, Ok, Err, length, inl, inr, refl, sym, ap, subst, append_assoc, append-nil, arith}
use Rattle.std.proofs.lemmas.List.{length-append}
use Rattle.std.proofs.Math.Seq.{take-length}
use Rattle.ps_base.specs.declared.failing.Refusal.{Refusal}
use Rattle.ps_lines.specs.Lines.{Line}
use Rattle.ps_model.specs.Meaning.{Item, scan, restart}
use Rattle.ps_model.specs.declared.report.Scan.{Scan}
use Rattle.ps_outside.specs.Outside.{last_count}
use Rattle.ps_runs.specs.Outcomes.{Outcome}
use Rattle.ps_runs.specs.Doing.{DoesItem, DoesItems, refused}
use Rattle.ps_runs.specs.declared.items.Cut.{Cut}
use Rattle.ps_runs.specs.declared.items.Cut.TheVariants.{Refused, Unread, Unwritten}
use Rattle.ps_runs.proofs.Doing.{Leads, leads_first, leads_on, rest_done, item_cut, all_done}
use Rattle.ps_trace.specs.Reading.{Begins}
use Rattle.ps_trace.specs.Scans.{at_line, inputs_of, last_after, number_after, onto_scans, said_of, scans_from}
use Rattle.ps_trace.specs.Trace.{Said}
use Rattle.ps_trace.specs.Trace.Said.{skips, restarts, scans, breaks}
use Rattle.ps_trace.specs.declared.trace.TraceStop.{TraceStop}
use Rattle.ps_trace.specs.declared.trace.TraceStop.TheVariants.{Refused as IsRefused, Fault as IsFault}
use Rattle.ps_runs.specs.Cutting.{cut_of}
use Rattle.ps_bench_watch.specs.Feeding.{Breaks, Comes, Gives}
use Rattle.ps_bench_watch.specs.Coming.{told_number}
use Rattle.ps_bench_watch.specs.declared.feed.Fed.{Fed}
use Rattle.ps_bench_watch.specs.declared.feed.Fed.TheVariants.{Nothing, Restart, Scan as AScan, End as NoLine}
use Rattle.ps_bench_watch.specs.declared.feed.Feed.{Feed}
use Rattle.ps_bench_watch.specs.Answering.{AnswersFrom, DoesFed, HasDone, due_by}
use Rattle.ps_bench_watch.specs.Leaving.{HowHanded}

-- An item was done, and what was written is handed on, or that failed.
handed : {P T V : Type 0} (performs : P → Item → Outcome V → P → Type 0) (said : T → P → Outcome V → List ℕ)
    (takes : T → P → Outcome V → T → Type 0)
    (item : Item) (p p' : P) (t t' : T) (tells : Bool) (before mid after : List ℕ) (done ended : Result (Unit {0}) Cut) (at at' : ℕ) →
    DoesItem performs said takes item p p' t t' tells before mid done → after ≡ mid → HowHanded done ended at at' →
    DoesItem performs said takes item p p' t t' tells before after ended
handed performs said takes item p p' t t' tells before mid after done ended at at' does same (inl is) =
    subst (λ (r : Result (Unit {0}) Cut). DoesItem performs said takes item p p' t t' tells before after r) (sym is)
    (subst (λ (bytes : List ℕ). DoesItem performs said takes item p p' t t' tells before bytes done) (sym same) does)
handed performs said takes item p p' t t' tells before mid after done ended at at' does same (inr cut) =
    let whole : DoesItem performs said takes item p p' t t' tells before mid (Ok tt) =
    subst (λ (r : Result (Unit {0}) Cut). DoesItem performs said takes item p p' t t' tells before mid r) cut.0 does in
    subst (λ (r : Result (Unit {0}) Cut). DoesItem performs said takes item p p' t t' tells before after r) (sym cut.1)
    (record {
      outcome = whole.outcome;
      done = whole.done;
      size = length (said t p' whole.outcome);
      written = λ on. same ∙ whole.written on ∙ ap (λ (bytes : List ℕ). before ++ bytes) (sym (take-length (said t p' whole.outcome)));
    })

-- What a line gave was done: nothing, a scan, or a restart.
module _ {P T V : Type 0} (performs : P → Item → Outcome V → P → Type 0) (said : T → P → Outcome V → List ℕ)
    (takes : T → P → Outcome V → T → Type 0) (fed : Fed) where
  pub did_nothing : (fed ≡ Nothing) ⊎ (fed ≡ NoLine) → (read : Scan) (p : P) (t : T) (tells : Bool) (bytes : List ℕ) →
      DoesFed performs said takes fed read p p t t tells bytes bytes (Ok tt)
  did_nothing (inl is) read p t tells bytes =
      subst (λ (f : Fed). DoesFed performs said takes f read p p t t tells bytes bytes (Ok tt)) (sym is)
      (record { performer = refl; taker = refl; unwritten = refl; whole = refl })
  did_nothing (inr is) read p t tells bytes =
      subst (λ (f : Fed). DoesFed performs said takes f read p p t t tells bytes bytes (Ok tt)) (sym is)
      (record { performer = refl; taker = refl; unwritten = refl; whole = refl })

  pub did_scan : fed ≡ AScan → (read : Scan) (p p' : P) (t t' : T) (tells : Bool) (before mid after : List ℕ) (done ended : Result (Unit {0}) Cut) (at at' : ℕ) →
      HowHanded done ended at at' → DoesItem performs said takes (scan read.now read.ins) p p' t t' tells before mid done → after ≡ mid →
      DoesFed performs said takes fed read p p' t t' tells before after ended
  did_scan is read p p' t t' tells before mid after done ended at at' how does same =
      subst (λ (f : Fed). DoesFed performs said takes f read p p' t t' tells before after ended) (sym is)
      (handed performs said takes (scan read.now read.ins) p p' t t' tells before mid after done ended at at' does same how)

  pub did_restart : fed ≡ Restart → (read : Scan) (p p' : P) (t t' : T) (tells : Bool) (before mid after : List ℕ) (done ended : Result (Unit {0}) Cut) (at at' : ℕ) →
      HowHanded done ended at at' → DoesItem performs said takes restart p p' t t' tells before mid done → after ≡ mid →
      DoesFed performs said takes fed read p p' t t' tells before after ended
  did_restart is read p p' t t' tells before mid after done ended at at' how does same =
      subst (λ (f : Fed). DoesFed performs said takes f read p p' t t' tells before after ended) (sym is)
      (handed performs said takes restart p p' t t' tells before mid after done ended at at' does same how)

-- when the next scan can be at the earliest, after what a line gave
pub due_nothing : (fed : Fed) → (fed ≡ Nothing) ⊎ (fed ≡ NoLine) → (earliest now : ℕ) → earliest ≤ due_by fed earliest now
due_nothing fed (inl is) earliest now = subst (λ (f : Fed). earliest ≤ due_by f earliest now) (sym is) (omega arith)
due_nothing fed (inr is) earliest now = subst (λ (f : Fed). earliest ≤ due_by f earliest now) (sym is) (omega arith)

pub due_scan : (fed : Fed) → fed ≡ AScan → (earliest now next : ℕ) → next ≤ now → next ≤ due_by fed earliest now
due_scan fed is earliest now next most = subst (λ (f : Fed). next ≤ due_by f earliest now) (sym is) most

pub due_restart : (fed : Fed) → fed ≡ Restart → (earliest now next : ℕ) → next ≤ earliest → next ≤ due_by fed earliest now
due_restart fed is earliest now next most = subst (λ (f : Fed). next ≤ due_by f earliest now) (sym is) most

-- and that is not after the time of the last scan
pub due_on : (fed : Fed) (earliest now last last' : ℕ) → earliest ≤ last → last ≤ last' → (fed ≡ AScan → last' ≡ now) → due_by fed earliest now ≤ last'
due_on Nothing earliest now last last' most rises time = omega (arith, most, rises)
due_on Restart earliest now last last' most rises time = omega (arith, most, rises)
due_on AScan earliest now last last' most rises time = let at = time refl in omega (arith, at)
due_on NoLine earliest now last last' most rises time = omega (arith, most, rises)

-- So many lines were done; whatever comes, what is done of it ends the whole.
pub record Went {P T V : Type 0} (performs : P → Item → Outcome V → P → Type 0) (said : T → P → Outcome V → List ℕ)
    (takes : T → P → Outcome V → T → Type 0)
    (first : Feed) (number : ℕ) (p : P) (t : T) (lines : List Line) (tells : Bool) (before : List ℕ)
    (count : ℕ) (feed : Feed) (p' : P) (t' : T) (rest : List Line) (now : List ℕ) : Type 0 where
  pub done : List Line
  pub next : ℕ
  pub split : lines ≡ done ++ rest
  pub shown : feed.number ≡ told_number next
  pub counted : length done ≡ count
  pub leads : (more : List Line) → Leads performs said takes first.last p t (scans_from first.places.items number first.last (done ++ more)) tells before
      feed.last p' t' (scans_from first.places.items next feed.last more) now

module _ {P T V : Type 0} (performs : P → Item → Outcome V → P → Type 0) (said : T → P → Outcome V → List ℕ)
    (takes : T → P → Outcome V → T → Type 0) (first : Feed) (number : ℕ) (p : P) (t : T) (lines : List Line) (tells : Bool) (before : List ℕ) where
  -- at first all lines are left
  pub went_first : first.number ≡ told_number number → Went performs said takes first number p t lines tells before 0 first p t lines before
  went_first shown = record {
    done = [];
    next = number;
    split = refl;
    shown = shown;
    counted = refl;
    leads = λ more. leads_first performs said takes first.last p t (scans_from first.places.items number first.last more) tells before;
  }

  module _ (count : ℕ) (feed : Feed) (p' : P) (t' : T) (rest : List Line) (now : List ℕ)
      (went : Went performs said takes first number p t lines tells before count feed p' t' rest now) (same : feed.places.items ≡ first.places.items) where
    -- what leads from the lines so far, with one more, to those after it
    leads_line : (line : Line) (more : List Line) →
        Leads performs said takes first.last p t (scans_from first.places.items number first.last ((went.done ++ line ∷ []) ++ more)) tells before
        feed.last p' t' (onto_scans first.places.items (said_of (length first.places.items) feed.last line) went.next
        (scans_from first.places.items (number_after line went.next) (last_after (said_of (length first.places.items) feed.last line) feed.last) more)) now
    leads_line line more =
        subst (λ (ls : List Line). Leads performs said takes first.last p t (scans_from first.places.items number first.last ls) tells before
        feed.last p' t' (scans_from first.places.items went.next feed.last (line ∷ more)) now)
        (sym (append_assoc went.done (line ∷ []) more)) (went.leads (line ∷ more))

    split_line : (line : Line) (rest' : List Line) → rest ≡ line ∷ rest' → lines ≡ (went.done ++ line ∷ []) ++ rest'
    split_line line rest' is = went.split ∙ ap (λ (r : List Line). went.done ++ r) is ∙ sym (append_assoc went.done (line ∷ []) rest')

    count_line : (line : Line) → length (went.done ++ line ∷ []) ≡ count + 1
    count_line line = length-append went.done (line ∷ []) ∙ ap (λ (n : ℕ). n + 1) went.counted

    -- what a line says to one reader, it says to the other
    says_first : (line : Line) (said : Said) → said_of (length feed.places.items) feed.last line ≡ said → said_of (length first.places.items) feed.last line ≡ said
    says_first line said is = subst (λ (found : List ℕ). said_of (length found) feed.last line ≡ said) same is

    -- what leads on, where this is what the line says
    leads_said : (line : Line) (more : List Line) (said' : Said) → said_of (length feed.places.items) feed.last line ≡ said' →
        Leads performs said takes first.last p t (scans_from first.places.items number first.last ((went.done ++ line ∷ []) ++ more)) tells before
        feed.last p' t' (onto_scans first.places.items said' went.next
        (scans_from first.places.items (number_after line went.next) (last_after said' feed.last) more)) now
    leads_said line more said' is =
        subst (λ (s : Said). Leads performs said takes first.last p t (scans_from first.places.items number first.last ((went.done ++ line ∷ []) ++ more)) tells before
        feed.last p' t' (onto_scans first.places.items s went.next
        (scans_from first.places.items (number_after line went.next) (last_after s feed.last) more)) now)
        (says_first line said' is) (leads_line line more)

    -- a line was skipped
    went_by : (feed' : Feed) (scan_before scan_after : Scan) (rest' : List Line) → Comes Nothing feed feed' scan_before scan_after rest rest' →
        Went performs said takes first number p t lines tells before (count + 1) feed' p' t' rest' now
    went_by feed' scan_before scan_after rest' comes = record {
      done = went.done ++ comes.line ∷ [];
      next = number_after comes.line went.next;
      split = split_line comes.line rest' comes.first;
      shown = comes.shown went.next went.shown;
      counted = count_line comes.line;
      leads = λ more.
          subst (λ (n : ℕ). Leads performs said takes first.last p t (scans_from first.places.items number first.last ((went.done ++ comes.line ∷ []) ++ more)) tells before
          n p' t' (scans_from first.places.items (number_after comes.line went.next) n more) now)
          (sym comes.says.2) (leads_said comes.line more skips comes.says.0);
    }

    -- a restart was done
    went_restart : (x : Unit {0}) (feed' : Feed) (scan_before scan_after : Scan) (rest' : List Line) → Comes Restart feed feed' scan_before scan_after rest rest' →
        (tells' : Bool) (p'' : P) (t'' : T) (after : List ℕ) → tells' ≡ tells →
        DoesItem performs said takes restart p' p'' t' t'' tells' now after (Ok x) →
        Went performs said takes first number p t lines tells before (count + 1) feed' p'' t'' rest' after
    went_restart x feed' scan_before scan_after rest' comes tells' p'' t'' after telling does = record {
      done = went.done ++ comes.line ∷ [];
      next = number_after comes.line went.next;
      split = split_line comes.line rest' comes.first;
      shown = comes.shown went.next went.shown;
      counted = count_line comes.line;
      leads = λ more.
          subst (λ (n : ℕ). Leads performs said takes first.last p t (scans_from first.places.items number first.last ((went.done ++ comes.line ∷ []) ++ more)) tells before
          n p'' t'' (scans_from first.places.items (number_after comes.line went.next) n more) after)
          (sym comes.says.2)
          (leads_on performs said takes first.last p t _ tells before feed.last p' t' _ now (leads_said comes.line more restarts comes.says.0)
          x tells' restart (scans_from first.places.items (number_after comes.line went.next) feed.last more) feed.last p'' t'' after telling refl tt refl does);
    }

    -- what a scan's line gives, in front of more
    begins_scan : (feed' : Feed) (scan_before scan_after : Scan) (line : Line) (more : List Line) (values : List Bool) →
        scan_after.ins ≡ inputs_of feed.places.items values → feed'.last ≡ scan_after.now →
        Begins (onto_scans first.places.items (scans scan_after.now values) went.next (scans_from first.places.items (number_after line went.next) scan_after.now more))
        (scan scan_after.now scan_after.ins) (scans_from first.places.items (number_after line went.next) feed'.last more)
    begins_scan feed' scan_before scan_after line more values ins last =
        (λ i. let later = scans_from first.places.items (number_after line went.next) (sym last i) more in
        record { items = scan scan_after.now (sym (ins ∙ ap (λ (found : List ℕ). inputs_of found values) same) i) ∷ later.items; end = later.end })

    -- a scan was done
    went_scan : (x : Unit {0}) (feed' : Feed) (scan_before scan_after : Scan) (rest' : List Line) → Comes AScan feed feed' scan_before scan_after rest rest' →
        feed.last ≤ scan_after.now → (tells' : Bool) (p'' : P) (t'' : T) (after : List ℕ) → tells' ≡ tells →
        DoesItem performs said takes (scan scan_after.now scan_after.ins) p' p'' t' t'' tells' now after (Ok x) →
        Went performs said takes first number p t lines tells before (count + 1) feed' p'' t'' rest' after
    went_scan x feed' scan_before scan_after rest' comes due tells' p'' t'' after telling does = record {
      done = went.done ++ comes.line ∷ [];
      next = number_after comes.line went.next;
      split = split_line comes.line rest' comes.first;
      shown = comes.shown went.next went.shown;
      counted = count_line comes.line;
      leads = λ more.
          leads_on performs said takes first.last p t _ tells before feed.last p' t' _ now
          (leads_said comes.line more (scans scan_after.now comes.says.0) comes.says.1)
          x tells' (scan scan_after.now scan_after.ins) (scans_from first.places.items (number_after comes.line went.next) feed'.last more) feed'.last p'' t'' after telling
          (begins_scan feed' scan_before scan_after comes.line more comes.says.0 comes.says.2 comes.says.3) due comes.says.3 does;
    }

    -- all lines before those that are left were done
    has_done : (x : Unit {0}) → HasDone performs said takes first number p p' t t' lines rest tells before now (Ok x)
    has_done x = record {
      done = went.done;
      split = went.split;
      does = subst (λ (ls : List Line). DoesItems performs said takes first.last p t (scans_from first.places.items number first.last ls) tells before now (Ok x) p' t')
          (append-nil went.done)
          (all_done performs said takes first.last p t _ tells before feed.last p' t' _ now (went.leads []) x refl);
    }

    -- a scan cut the run short
    scan_cut : (cut : Cut) (feed' : Feed) (scan_before scan_after : Scan) (rest' : List Line) → Comes AScan feed feed' scan_before scan_after rest rest' →
        feed.last ≤ scan_after.now → (tells' : Bool) (p'' : P) (t'' : T) (after : List ℕ) → tells' ≡ tells →
        DoesItem performs said takes (scan scan_after.now scan_after.ins) p' p'' t' t'' tells' now after (Err cut) →
        HasDone performs said takes first number p p'' t t'' lines rest' tells before after (Err cut)
    scan_cut cut feed' scan_before scan_after rest' comes due tells' p'' t'' after telling does = record {
      done = went.done ++ comes.line ∷ [];
      split = split_line comes.line rest' comes.first;
      does = subst (λ (ls : List Line). DoesItems performs said takes first.last p t (scans_from first.places.items number first.last ls) tells before after (Err cut) p'' t'')
          (append-nil (went.done ++ comes.line ∷ []))
          (item_cut performs said takes first.last p t _ tells before feed.last p' t' _ now
          (leads_said comes.line [] (scans scan_after.now comes.says.0) comes.says.1)
          cut tells' (scan scan_after.now scan_after.ins) (scans_from first.places.items (number_after comes.line went.next) feed'.last []) p'' t'' after telling
          (begins_scan feed' scan_before scan_after comes.line [] comes.says.0 comes.says.2 comes.says.3) due does);
    }

    -- a restart cut the run short
    restart_cut : (cut : Cut) (feed' : Feed) (scan_before scan_after : Scan) (rest' : List Line) → Comes Restart feed feed' scan_before scan_after rest rest' →
        (tells' : Bool) (p'' : P) (t'' : T) (after : List ℕ) → tells' ≡ tells →
        DoesItem performs said takes restart p' p'' t' t'' tells' now after (Err cut) →
        HasDone performs said takes first number p p'' t t'' lines rest' tells before after (Err cut)
    restart_cut cut feed' scan_before scan_after rest' comes tells' p'' t'' after telling does = record {
      done = went.done ++ comes.line ∷ [];
      split = split_line comes.line rest' comes.first;
      does = subst (λ (ls : List Line). DoesItems performs said takes first.last p t (scans_from first.places.items number first.last ls) tells before after (Err cut) p'' t'')
          (append-nil (went.done ++ comes.line ∷ []))
          (item_cut performs said takes first.last p t _ tells before feed.last p' t' _ now (leads_said comes.line [] restarts comes.says.0)
          cut tells' restart (scans_from first.places.items (number_after comes.line went.next) feed.last []) p'' t'' after telling refl tt does);
    }

    -- what a line gave was done
    pub went_fed : (fed : Fed) → ¬ (fed ≡ NoLine) → (feed' : Feed) (scan_before scan_after : Scan) (rest' : List Line) →
        Gives fed feed feed' scan_before scan_after rest rest' → feed.last ≤ feed'.last → (x : Unit {0}) (tells' : Bool) (p'' : P) (t'' : T) (after : List ℕ) → tells' ≡ tells →
        DoesFed performs said takes fed scan_after p' p'' t' t'' tells' now after (Ok x) →
        Went performs said takes first number p t lines tells before (count + 1) feed' p'' t'' rest' after
    went_fed Nothing more feed' scan_before scan_after rest' comes rises x tells' p'' t'' after telling does =
        subst (λ (q : P). Went performs said takes first number p t lines tells before (count + 1) feed' q t'' rest' after) (sym does.performer)
        (subst (λ (u : T). Went performs said takes first number p t lines tells before (count + 1) feed' p' u rest' after) (sym does.taker)
        (subst (λ (bytes : List ℕ). Went performs said takes first number p t lines tells before (count + 1) feed' p' t' rest' bytes) (sym does.unwritten)
        (went_by feed' scan_before scan_after rest' comes)))
    went_fed Restart more feed' scan_before scan_after rest' comes rises x tells' p'' t'' after telling does =
        went_restart x feed' scan_before scan_after rest' comes tells' p'' t'' after telling does
    went_fed AScan more feed' scan_before scan_after rest' comes rises x tells' p'' t'' after telling does =
        went_scan x feed' scan_before scan_after rest' comes (omega (arith, rises, comes.says.3)) tells' p'' t'' after telling does
    went_fed NoLine more feed' scan_before scan_after rest' comes rises x tells' p'' t'' after telling does = absurd (more refl)

    -- a line is refused
    line_refused : (refusal : Refusal) → Breaks feed rest refusal → (left : List Line) →
        AnswersFrom performs said takes first number p p' t t' lines left tells before now (Err (Refused refusal))
    line_refused refusal broken left =
        let cause = at_line broken.is_broken.rule went.next in (
          broken.more,
          cause,
          record {
            done = went.done ++ broken.line ∷ [];
            split = split_line broken.line broken.more broken.first;
            does = subst (λ (ls : List Line). DoesItems performs said takes first.last p t (scans_from first.places.items number first.last ls) tells before now (Err (Refused cause)) p' t')
                (append-nil (went.done ++ broken.line ∷ []))
                (rest_done performs said takes first.last p t _ tells before feed.last p' t' _ now
                (leads_said broken.line [] (breaks broken.is_broken.rule) broken.is_broken.broken)
                [] (Err (Refused cause)) p' t' now (refused feed.last p' t' _ cause refl) (λ on. sym (append-nil now)));
          },
          inl (broken.is_broken.told_so ∙ ap (λ (n : ℕ). at_line broken.is_broken.rule n) went.shown),
        )

    -- an item cut the run short
    item_answers : (cut : Cut) (item : Item) (tells' : Bool) (p'' : P) (t'' : T) (after : List ℕ) →
        DoesItem performs said takes item p' p'' t' t'' tells' now after (Err cut) → (left rest' : List Line) →
        HasDone performs said takes first number p p'' t t'' lines left tells before after (Err cut) →
        AnswersFrom performs said takes first number p p'' t t'' lines rest' tells before after (Err cut)
    item_answers Unwritten item tells' p'' t'' after does left rest' done = (left, done)
    item_answers (Refused refusal) item tells' p'' t'' after does left rest' done = (left, refusal, done, inr (refl, (p', item, p'', does.done)))
    item_answers Unread item tells' p'' t'' after does left rest' done = absurd does

    -- what a line gave cut the run short
    pub fed_answers : (fed : Fed) (feed' : Feed) (scan_before scan_after : Scan) (rest' : List Line) →
        Gives fed feed feed' scan_before scan_after rest rest' → feed.last ≤ feed'.last → (cut : Cut) (tells' : Bool) (p'' : P) (t'' : T) (after : List ℕ) → tells' ≡ tells →
        DoesFed performs said takes fed scan_after p' p'' t' t'' tells' now after (Err cut) → (last : List Line) →
        AnswersFrom performs said takes first number p p'' t t'' lines last tells before after (Err cut)
    fed_answers Nothing feed' scan_before scan_after rest' comes rises cut tells' p'' t'' after telling does last = let no = does.whole in cc
    fed_answers Restart feed' scan_before scan_after rest' comes rises cut tells' p'' t'' after telling does last =
        item_answers cut restart tells' p'' t'' after does rest' last (restart_cut cut feed' scan_before scan_after rest' comes tells' p'' t'' after telling does)
    fed_answers AScan feed' scan_before scan_after rest' comes rises cut tells' p'' t'' after telling does last =
        item_answers cut (scan scan_after.now scan_after.ins) tells' p'' t'' after does rest' last
        (scan_cut cut feed' scan_before scan_after rest' comes (omega (arith, rises, comes.says.3)) tells' p'' t'' after telling does)
    fed_answers NoLine feed' scan_before scan_after rest' comes rises cut tells' p'' t'' after telling does last = let no = does.whole in cc

    -- all lines were done, or as many as are counted
    pub all_answers : (x : Unit {0}) (rest' : List Line) → (rest ≡ []) ⊎ (last_count ≤ count) →
        AnswersFrom performs said takes first number p p' t t' lines rest' tells before now (Ok x)
    all_answers x rest' (inl is) = (rest, has_done x, inl is)
    all_answers x rest' (inr most) = (rest, has_done x, inr (omega (arith, most, went.counted, ap (λ (ls : List Line). length ls) went.split, length-append went.done rest)))

    -- no line came
    pub stop_answers : (rest' : List Line) (stop : TraceStop) → ((refusal : Refusal) → stop ≡ IsRefused refusal → Breaks feed rest refusal) → (stop ≡ IsFault → rest' ≡ rest) →
        AnswersFrom performs said takes first number p p' t t' lines rest' tells before now (Err (cut_of stop))
    stop_answers rest' (IsRefused refusal) broken stays = line_refused refusal (broken refusal refl) rest'
    stop_answers rest' IsFault broken stays =
        subst (λ (r : List Line). HasDone performs said takes first number p p' t t' lines r tells before now (Ok tt)) (sym (stays refl)) (has_done tt)
