-- What is told of failures where the items of a trace end.
use Rattle.std.proofs.Common.{◌≡◌, ◌≤◌, ◌≢◌, ◌∙◌, ℕ, List, Result, Ok, Err, refl, sym, subst, arith}
use Rattle.std.proofs.lemmas.Result.{IfErr-at_err}
use Rattle.ps_outside.specs.Outside.{Rose, CountsStay}
use Rattle.ps_trace.specs.declared.trace.TraceStop.{TraceStop}
use Rattle.ps_trace.specs.declared.trace.TraceStop.TheVariants.{Refused as IsRefused, Fault as IsFault}
use Rattle.ps_runs.specs.Cutting.{cut_of, TellsFailures}
use Rattle.ps_runs.specs.declared.items.Cut.{Cut}
use Rattle.ps_runs.specs.declared.items.Cut.TheVariants.{Unread, Unwritten}

-- the items were cut short so
abbrev pub cut_short : Cut → Result (Unit {0}) Cut
cut_short cut = Err cut

-- a result has one reason
pub same_reason : {A : Type 0} (given : Result A TraceStop) (stop other : TraceStop) → given ≡ Err stop → given ≡ Err other → stop ≡ other
same_reason given stop other is same = IfErr-at_err (λ (s : TraceStop). s ≡ other) (sym same ∙ is) refl

module _ (file : List ℕ) (reads mid reads' : List ℕ → ℕ) (writes middle : ℕ) (same : CountsStay reads mid) (alike : middle ≡ writes) where
  -- all was done, and nothing failed
  pub all_tell : (x : Unit {0}) → CountsStay mid reads' → TellsFailures file reads reads' writes middle (Ok x)
  all_tell x read = record {
    unread = λ is. cc;
    all_read = λ not. λ name. read name ∙ same name;
    unwritten = λ is. cc;
    all_written = λ not. alike;
    reads_rise = λ name. omega (arith, read name, same name);
    writes_rise = omega (arith, alike);
  }

  -- the reader stopped
  pub stop_tells : (stop : TraceStop) (name : List ℕ) → name ≡ file → (stop ≡ IsFault → Rose (mid name) (reads' name)) →
      (stop ≢ IsFault → CountsStay mid reads') → ((other : List ℕ) → mid other ≤ reads' other) →
      TellsFailures file reads reads' writes middle (Err (cut_of stop))
  stop_tells (IsRefused refusal) name is rose read rise = record {
    unread = λ is. cc;
    all_read = λ not. λ other. read (λ is. cc) other ∙ same other;
    unwritten = λ is. cc;
    all_written = λ not. alike;
    reads_rise = λ other. omega (arith, rise other, same other);
    writes_rise = omega (arith, alike);
  }
  stop_tells IsFault name is rose read rise = record {
    unread = λ unread. subst (λ (n : ℕ). Rose n (reads' file)) (same file) (subst (λ (f : List ℕ). Rose (mid f) (reads' f)) is (rose refl));
    all_read = λ not. absurd (not refl);
    unwritten = λ is. cc;
    all_written = λ not. alike;
    reads_rise = λ other. omega (arith, rise other, same other);
    writes_rise = omega (arith, alike);
  }

  -- an item cut the run short
  pub item_tells : (cut : Cut) (writes' : ℕ) → cut_short cut ≢ Err Unread → CountsStay mid reads' →
      (cut_short cut ≡ Err Unwritten → Rose middle writes') → (cut_short cut ≢ Err Unwritten → writes' ≡ middle) → middle ≤ writes' →
      TellsFailures file reads reads' writes writes' (Err cut)
  item_tells cut writes' not_unread read rose wrote rise = record {
    unread = λ is. absurd (not_unread is);
    all_read = λ not. λ name. read name ∙ same name;
    unwritten = λ is. subst (λ (n : ℕ). Rose n writes') alike (rose is);
    all_written = λ not. wrote not ∙ alike;
    reads_rise = λ name. omega (arith, read name, same name);
    writes_rise = omega (arith, rise, alike);
  }
