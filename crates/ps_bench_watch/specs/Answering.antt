-- What is done of the lines of a trace that comes as a stream, one after another.
use Rattle.std.specs.Prelude.{◌≡◌, ◌⊎◌, ◌≤◌, [], ◌++◌, ℕ, Bool, List, Result, Ok, Err, length}
use Rattle.ps_base.specs.declared.failing.Refusal.{Refusal}
use Rattle.ps_lines.specs.Lines.{Line}
use Rattle.ps_model.specs.Meaning.{Item, scan, restart}
use Rattle.ps_model.specs.declared.report.Scan.{Scan}
use Rattle.ps_outside.specs.Outside.{last_count}
use Rattle.ps_runs.specs.Doing.{DoesItem, DoesItems}
use Rattle.ps_runs.specs.Outcomes.{Outcome, refuses}
use Rattle.ps_runs.specs.declared.items.Cut.{Cut}
use Rattle.ps_runs.specs.declared.items.Cut.TheVariants.{Refused, Unread, Unwritten}
use Rattle.ps_trace.specs.Scans.{scans_from}
use Rattle.ps_bench_watch.specs.Saying.{told}
use Rattle.ps_bench_watch.specs.Coming.{told_number}
use Rattle.ps_bench_watch.specs.declared.feed.Fed.{Fed}
use Rattle.ps_bench_watch.specs.declared.feed.Fed.TheVariants.{Nothing, Restart, Scan as AScan, End}
use Rattle.ps_bench_watch.specs.declared.feed.Feed.{Feed}

-- Of these lines, which come to a feed and of which the first has this number, those before the ones that are left were
-- done: what the scans and restarts of a trace with these lines alone come to.
pub record HasDone {P T V : Type 0} (performs : P → Item → Outcome V → P → Type 0) (said : T → P → Outcome V → List ℕ)
    (takes : T → P → Outcome V → T → Type 0)
    (feed : Feed) (number : ℕ) (p p' : P) (t t' : T) (lines rest : List Line) (tells : Bool) (before after : List ℕ)
    (ended : Result (Unit {0}) Cut) : Type 0 where
  pub done : List Line
  pub split : lines ≡ done ++ rest
  pub does : DoesItems performs said takes feed.last p t (scans_from feed.places.items number feed.last done)
      tells before after ended p' t'

-- an item is refused so by its performer
abbrev pub IsRefusing : {P V : Type 0} → (P → Item → Outcome V → P → Type 0) → Refusal → Type 0
IsRefusing {P} performs refusal = (p : P) × (item : Item) × (after : P) × performs p item (refuses refusal) after

-- What was done of the lines that come to a feed, of which the first has this number, by how it ended.
abbrev pub AnswersFrom : {P T V : Type 0} → (P → Item → Outcome V → P → Type 0) → (T → P → Outcome V → List ℕ) →
    (T → P → Outcome V → T → Type 0) → Feed → (number : ℕ) → P → P → T → T → (lines rest : List Line) → Bool →
    (before after : List ℕ) → Result (Unit {0}) Cut → Type 0
-- all of them, or as many as are counted
AnswersFrom performs said takes feed number p p' t t' lines rest tells before after (Ok x) =
    (left : List Line) × HasDone performs said takes feed number p p' t t' lines left tells before after (Ok x)
    × ((left ≡ []) ⊎ (last_count ≤ length lines))
-- up to a read that failed
AnswersFrom performs said takes feed number p p' t t' lines rest tells before after (Err Unread) =
    HasDone performs said takes feed number p p' t t' lines rest tells before after (Ok tt)
-- up to a line that is refused, with the number that is told of it, or to a scan that the performer refuses
AnswersFrom performs said takes feed number p p' t t' lines rest tells before after (Err (Refused refusal)) =
    (left : List Line) × (cause : Refusal)
    × HasDone performs said takes feed number p p' t t' lines left tells before after (Err (Refused cause))
    × ((refusal ≡ told cause) ⊎ ((refusal ≡ cause) × IsRefusing performs cause))
-- up to a write that failed
AnswersFrom performs said takes feed number p p' t t' lines rest tells before after (Err Unwritten) =
    (left : List Line) × HasDone performs said takes feed number p p' t t' lines left tells before after (Err Unwritten)

-- What was done of the lines that come to a feed, by how it ended.
abbrev pub AnswersLines : {P T V : Type 0} → (P → Item → Outcome V → P → Type 0) → (T → P → Outcome V → List ℕ) →
    (T → P → Outcome V → T → Type 0) → Feed → P → P → T → T → (lines rest : List Line) → Bool →
    (before after : List ℕ) → Result (Unit {0}) Cut → Type 0
AnswersLines performs said takes feed p p' t t' lines rest tells before after ended =
    (number : ℕ) → feed.number ≡ told_number number →
    AnswersFrom performs said takes feed number p p' t t' lines rest tells before after ended

-- Nothing was done.
pub record DoesNothing {P T : Type 0} (p p' : P) (t t' : T) (before after : List ℕ) (ended : Result (Unit {0}) Cut) :
    Type 0 where
  pub performer : p' ≡ p
  pub taker : t' ≡ t
  pub unwritten : after ≡ before
  pub whole : ended ≡ Ok tt

-- What was done of what a line gave: of a scan that stands here, of a restart, or nothing.
abbrev pub DoesFed : {P T V : Type 0} → (P → Item → Outcome V → P → Type 0) → (T → P → Outcome V → List ℕ) →
    (T → P → Outcome V → T → Type 0) → Fed → Scan → P → P → T → T → Bool → (before after : List ℕ) →
    Result (Unit {0}) Cut → Type 0
DoesFed performs said takes AScan read p p' t t' tells before after ended =
    DoesItem performs said takes (scan read.now read.ins) p p' t t' tells before after ended
DoesFed performs said takes Restart read p p' t t' tells before after ended =
    DoesItem performs said takes restart p p' t t' tells before after ended
DoesFed performs said takes Nothing read p p' t t' tells before after ended = DoesNothing p p' t t' before after ended
DoesFed performs said takes End read p p' t t' tells before after ended = DoesNothing p p' t t' before after ended

-- the earliest time of a scan after what a line gave: that of a scan that was made
abbrev pub due_by : Fed → (earliest now : ℕ) → ℕ
due_by AScan earliest now = now
due_by _ earliest now = earliest
