-- How a call comes to have run the trace of a name, or to have stopped before.
use Rattle.std.proofs.Common.{◌≡◌, ◌∙◌, ℕ, Bool, List, Option, Some, IsTrue, Result, Ok, Err, refl, sym, ap, subst}
use Rattle.ps_model.specs.Meaning.{Item}
use Rattle.ps_model.specs.Network.{Network}
use Rattle.ps_outside.specs.declared.text_fail.TextFail.{TextFail}
use Rattle.ps_outside.specs.declared.text_fail.TextFail.TheVariants.{Memory, Fault, Refused}
use Rattle.ps_report.specs.Short.{refusal_text}
use Rattle.ps_runs.specs.Outcomes.{Outcome}
use Rattle.ps_trace.specs.Reading.{IsReadingTrace, file_of, items_left, last_of}
use Rattle.ps_trace.specs.Scans.{Scans, scans_of}
use Rattle.ps_trace.specs.declared.trace.TraceReader.{TraceReader}
use Rattle.ps_top.specs.Calls.{OutputSeen, CallSeen, ReadsName}
use Rattle.ps_top.specs.Meets.{Gives}
use Rattle.ps_top.specs.Opening.{OpensTrace, IsOpened}
use Rattle.ps_top.specs.Program.{answer}
use Rattle.ps_top.specs.Refusing.{Fails}
use Rattle.ps_top.specs.Running.{EndsItems, RunsTrace, StopsTrace, short, unread, headless, cut}
use Rattle.ps_top.specs.declared.Status.{Status}
use Rattle.ps_top.specs.declared.Status.TheVariants.{BadInput}

module _ {P T V : Type 0} (performs : P → Item → Outcome V → P → Type 0) (said : T → P → Outcome V → List ℕ) (takes : T → P → Outcome V → T → Type 0)
    (net : Network) (name : List ℕ) (p p' : P) (t t' : T) (old mid new : CallSeen) where
  -- the items of the text that is held were done
  runs_of : (text : List ℕ) → old.files.held name ≡ Some text → (result : Result (Unit {0}) Status) →
      EndsItems performs said takes 0 (scans_of text net) p p' t t' old.out.tells old.out.taken new.out.taken result → RunsTrace performs said takes net name p p' t t' old new result
  runs_of text is (Ok x) ends = (text, is, ends)
  runs_of text is (Err status) ends = cut text ends.0 ends.1 is ends.2 ends.3

  -- a reader was opened, and the items that were to come were done
  pub trace_ran : {failed : Type 0} (reader : TraceReader) (result : Result (Unit {0}) Status) → IsTrue old.files.tells → OpensTrace net (old.files.held name) (Ok reader) → IsOpened net name reader →
      ReadsName name failed old mid →
      (IsTrue mid.files.tells → (text : List ℕ) → mid.files.held (file_of reader) ≡ Some text → IsReadingTrace reader text →
      EndsItems performs said takes (last_of reader) (items_left reader text) p p' t t' mid.out.tells mid.out.taken new.out.taken result) →
      RunsTrace performs said takes net name p p' t t' old new result
  trace_ran reader result tells opens opened reads does =
      let text = opens.0 in
      let mid_tells = subst (λ (b : Bool). IsTrue b) (sym reads.keeps.telling) tells in
      let held : mid.files.held (file_of reader) ≡ Some text = ap (λ h. h (file_of reader)) reads.keeps.held ∙ ap old.files.held opened.file ∙ opens.1 in
      let ends = does mid_tells text held opens.2 in
      let first = subst (λ (n : ℕ). EndsItems performs said takes n (items_left reader text) p p' t t' mid.out.tells mid.out.taken new.out.taken result) opened.fresh ends in
      let items = subst (λ (s : Scans). EndsItems performs said takes 0 s p p' t t' mid.out.tells mid.out.taken new.out.taken result) opens.3 first in
      runs_of text opens.1 result
      (subst (λ (o : OutputSeen). EndsItems performs said takes 0 (scans_of text net) p p' t t' o.tells o.taken new.out.taken result) reads.out items)

  -- no reader was opened
  pub none_opened : (why : TextFail) (status : Status) → OpensTrace net (old.files.held name) (Err why) → mid.out ≡ old.out → Fails BadInput why mid new status →
      StopsTrace performs said takes net (old.files.held name) p p t t old.out.tells old.out.taken new.out.taken status
  none_opened (Refused refusal) status opens same says =
      headless opens.0 refusal opens.1 opens.2 refl
      (record { ends = says.ends; gives = subst (λ (o : OutputSeen). Gives (λ a. a ≡ answer (refusal_text refusal) BadInput) o.tells o.taken new.out.taken status) same says.gives })
  none_opened Memory status opens same says = short says.0 (ap (λ (c : CallSeen). c.out.taken) says.1 ∙ ap (λ (o : OutputSeen). o.taken) same)
  none_opened Fault status opens same says = unread says.0 (ap (λ (c : CallSeen). c.out.taken) says.1 ∙ ap (λ (o : OutputSeen). o.taken) same)
