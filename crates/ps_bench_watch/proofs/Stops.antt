-- What a run that is cut short tells of failures, by what cut it short.
use Rattle.std.proofs.Common.{◌≡◌, ◌∙◌, ◌≤◌, [], ℕ, Bool, Result, Ok, Err, inl, inr, refl, sym, subst, arith}
use Rattle.std.specs.Prelude.{OnOk}
use Rattle.ps_bench_frame.proofs.Stopped.{rose_since}
use Rattle.ps_outside.specs.Outside.{Rose}
use Rattle.ps_runs.specs.declared.items.Cut.{Cut}
use Rattle.ps_runs.specs.declared.items.Cut.TheVariants.{Refused as IsRefused, Unread as IsUnread, Unwritten as IsUnwritten}
use Rattle.ps_runs.specs.Cutting.{cut_of}
use Rattle.ps_outside.specs.declared.text_fail.TextFail.{TextFail}
use Rattle.ps_outside.specs.declared.text_fail.TextFail.TheVariants.{Refused as NoHeader, Fault as NoRead, Memory as NoRoom}
use Rattle.ps_trace.specs.declared.trace.TraceStop.{TraceStop}
use Rattle.ps_trace.specs.declared.trace.TraceStop.TheVariants.{Refused as LineRefused, Fault}
use Rattle.ps_bench_watch.specs.Leaving.{HandsOn, HowHanded, IsHandedOn, Leaves, Side, headless_by, ran_by}
use Rattle.ps_bench_watch.specs.declared.living.LiveStop.{LiveStop}
use Rattle.ps_bench_watch.specs.declared.living.LiveStop.TheVariants.{Unread, Unwritten}

-- a run stops at a read or at a write only where its lines were cut short by it
pub ran_unread : (trips : Bool) (ended : Result (Unit {0}) Cut) → ran_by trips ended ≡ Err Unread → ended ≡ Err IsUnread
ran_unread trips (Ok x) is = cc
ran_unread trips (Err (IsRefused refusal)) is = cc
ran_unread trips (Err IsUnread) is = refl
ran_unread trips (Err IsUnwritten) is = cc

pub ran_unwritten : (trips : Bool) (ended : Result (Unit {0}) Cut) → ran_by trips ended ≡ Err Unwritten → ended ≡ Err IsUnwritten
ran_unwritten trips (Ok x) is = cc
ran_unwritten trips (Err (IsRefused refusal)) is = cc
ran_unwritten trips (Err IsUnread) is = cc
ran_unwritten trips (Err IsUnwritten) is = refl

-- what its lines left, the run leaves
pub leaves_ran : (trips : Bool) (ended : Result (Unit {0}) Cut) (ran : Result Bool LiveStop) → ran ≡ ran_by trips ended → (reads reads' : ℕ) (before after : Side) →
    Leaves (ended ≡ Err IsUnread) (ended ≡ Err IsUnwritten) reads reads' before after → Leaves (ran ≡ Err Unread) (ran ≡ Err Unwritten) reads reads' before after
leaves_ran trips ended ran by reads reads' before after leaves = record {
  handed_on = λ none is. leaves.handed_on none (ran_unread trips ended (sym by ∙ is));
  unread = λ is. leaves.unread (ran_unread trips ended (sym by ∙ is));
  unwritten = λ is. leaves.unwritten (ran_unwritten trips ended (sym by ∙ is));
  writes = leaves.writes;
  telling = leaves.telling;
}

-- a run without a feed stops at a read that failed, and at no write
pub headless_unread : (of : TextFail) → headless_by of ≡ Unread → of ≡ NoRead
headless_unread (NoHeader refusal) is = cc
headless_unread NoRead is = refl
headless_unread NoRoom is = cc

pub headless_unwritten : (of : TextFail) → headless_by of ≡ Unwritten → ⊥
headless_unwritten (NoHeader refusal) is = cc
headless_unwritten NoRead is = cc
headless_unwritten NoRoom is = cc

-- no line came, since a read failed
pub cut_unread : (stop : TraceStop) → cut_of stop ≡ IsUnread → stop ≡ Fault
cut_unread (LineRefused refusal) is = cc
cut_unread Fault is = cc

-- that no line came is no write that failed
pub cut_unwritten : (stop : TraceStop) → cut_of stop ≡ IsUnwritten → ⊥
cut_unwritten (LineRefused refusal) is = cc
cut_unwritten Fault is = cc

-- a count that rose, and goes on to rise
rose_until : (before mid after : ℕ) → Rose before mid → mid ≤ after → Rose before after
rose_until before mid after (inl more) on = inl (omega (arith, more, on))
rose_until before mid after (inr last) on = inr (omega (arith, last, on))

-- what holds in any case holds where an item was done
pub in_any_case : (P : Type 0) (done : Result (Unit {0}) Cut) → P → OnOk done P
in_any_case P (Ok x) holds = holds
in_any_case P (Err cut) holds = tt

-- what holds where an item was done holds where that was handed on
pub where_handed : (P : Type 0) (done ended : Result (Unit {0}) Cut) (before after : ℕ) → HowHanded done ended before after → OnOk done P → OnOk ended P
where_handed P done ended before after (inl is) holds = subst (λ (r : Result (Unit {0}) Cut). OnOk r P) (sym is) holds
where_handed P done ended before after (inr cut) holds = subst (λ (r : Result (Unit {0}) Cut). OnOk r P) (sym cut.1) tt

-- no read failed, if none did in doing it
none_read : (done ended : Result (Unit {0}) Cut) (before after : ℕ) → HowHanded done ended before after → ¬ (done ≡ Err IsUnread) → ¬ (ended ≡ Err IsUnread)
none_read done ended before after (inl same) never is = never (sym same ∙ is)
none_read done ended before after (inr cut) never is = let here = cut.1 in cc

-- a write failed in doing it, or in handing it on
rose_handed : (done ended : Result (Unit {0}) Cut) (first mid last : ℕ) → HowHanded done ended mid last → first ≤ mid → mid ≤ last →
    (done ≡ Err IsUnwritten → Rose first mid) → ended ≡ Err IsUnwritten → Rose first last
rose_handed done ended first mid last (inl same) rises on unwritten is = rose_until first mid last (unwritten (sym same ∙ is)) on
rose_handed done ended first mid last (inr cut) rises on unwritten is = rose_since first mid last rises cut.2

-- what is left of an output after an item that was done and handed on
pub hands_on : (done ended : Result (Unit {0}) Cut) (first mid last : Side) → IsHandedOn done ended mid last → ¬ (done ≡ Err IsUnread) →
    (done ≡ Err IsUnwritten → Rose first.writes mid.writes) → first.writes ≤ mid.writes → mid.tells ≡ first.tells → HandsOn ended first last
hands_on done ended first mid last on no_read unwritten rises telling = record {
  handed_on = λ none. on.handed_on;
  no_read = none_read done ended mid.writes last.writes on.comes no_read;
  unwritten = rose_handed done ended first.writes mid.writes last.writes on.comes rises on.writes unwritten;
  writes = omega (arith, rises, on.writes);
  telling = on.telling ∙ telling;
}

-- what is left where a line was cut short, in front of which all is well
pub leaves_cut : (ended : Result (Unit {0}) Cut) (reads reads' : ℕ) (first mid last : Side) → first.writes ≤ mid.writes → mid.tells ≡ first.tells → HandsOn ended mid last →
    Leaves (ended ≡ Err IsUnread) (ended ≡ Err IsUnwritten) reads reads' first last
leaves_cut ended reads reads' first mid last rises telling on = record {
  handed_on = λ none is. absurd (on.no_read is);
  unread = λ is. absurd (on.no_read is);
  unwritten = λ is. rose_since first.writes mid.writes last.writes rises (on.unwritten is);
  writes = omega (arith, rises, on.writes);
  telling = on.telling ∙ telling;
}

-- what is left where no line came any more
pub leaves_stopped : (stop : TraceStop) (ended : Result (Unit {0}) Cut) → ended ≡ Err (cut_of stop) → (reads mid reads' : ℕ) (first last : Side) → reads ≤ mid →
    (stop ≡ Fault → Rose mid reads') → (first.held_back ≡ [] → last.held_back ≡ []) → first.writes ≤ last.writes → last.tells ≡ first.tells →
    Leaves (ended ≡ Err IsUnread) (ended ≡ Err IsUnwritten) reads reads' first last
leaves_stopped stop ended so reads mid reads' first last on failed handed_on writes telling = record {
  handed_on = λ none is. handed_on none;
  unread = λ is. let at : cut_of stop ≡ IsUnread = cc in rose_since reads mid reads' on (failed (cut_unread stop at));
  unwritten = λ is. let at : cut_of stop ≡ IsUnwritten = cc in absurd (cut_unwritten stop at);
  writes = writes;
  telling = telling;
}

-- what is left after all lines
pub leaves_whole : (ended : Result (Unit {0}) Cut) → ended ≡ Ok tt → (reads reads' : ℕ) (first last : Side) → first.writes ≤ last.writes → last.tells ≡ first.tells →
    Leaves (ended ≡ Err IsUnread) (ended ≡ Err IsUnwritten) reads reads' first last
leaves_whole ended so reads reads' first last writes telling = record {
  handed_on = λ none is. cc;
  unread = λ is. cc;
  unwritten = λ is. cc;
  writes = writes;
  telling = telling;
}
