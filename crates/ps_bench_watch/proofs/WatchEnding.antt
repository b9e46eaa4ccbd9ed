-- How a call ends after a run.
use Rattle.std.proofs.Common.{◌≡◌, ◌∙◌, ◌++◌, ℕ, Bool, List, [], Err, take, drop, sym, ap, subst, inl, inr, append_assoc}
use Rattle.std.proofs.lemmas.List.{append-nil, take-append-drop}
use Rattle.ps_base.specs.declared.failing.Refusal.{Refusal}
use Rattle.ps_report.specs.Short.{refusal_text}
use Rattle.ps_runs.specs.declared.items.Cut.{Cut}
use Rattle.ps_runs.specs.declared.items.Cut.TheVariants as cut
use Rattle.ps_top.specs.Program.{end_line}
use Rattle.ps_bench_frame.specs.declared.ending.Input.TheVariants.{Trace}
use Rattle.ps_bench_frame.specs.declared.ending.Stop.{Stop}
use Rattle.ps_bench_frame.specs.declared.ending.Stop.TheVariants.{Unwritten}
use Rattle.ps_bench_trace.specs.Opening.{SaysRefusal}
use Rattle.ps_bench_watch.specs.Stopping.{EndsBehind}

-- after a line that is refused the line of its refusal is written, or a beginning of it
ends_refusal : (tells : Bool) (before after : List ℕ) (refusal : Refusal) (stop : Stop) →
    SaysRefusal Trace refusal tells before after stop → EndsBehind (Err (cut.Refused refusal)) tells before after (Err stop)
ends_refusal tells before after refusal stop (inl said) =
    subst (λ (s : Stop). EndsBehind (Err (cut.Refused refusal)) tells before after (Err s)) (sym said.0) (record {
      more = refusal_text refusal;
      written = said.1;
      ends = λ text end bytes w. (ap (λ (b : List ℕ). b ++ refusal_text refusal) w.0, w.1);
    })
ends_refusal tells before after refusal stop (inr said) =
    subst (λ (s : Stop). EndsBehind (Err (cut.Refused refusal)) tells before after (Err s)) (sym said.0) (record {
      more = take said.1 (refusal_text refusal);
      written = said.2;
      ends = λ text end bytes w. (
        drop said.1 (refusal_text refusal),
        append_assoc bytes (take said.1 (refusal_text refusal)) (drop said.1 (refusal_text refusal))
            ∙ ap (λ (b : List ℕ). bytes ++ b) (take-append-drop said.1 (refusal_text refusal))
            ∙ (λ i. w.0 i ++ end_line (sym w.1 i)),
      );
    })

pub ends_refused : (why : Cut) (refusal : Refusal) → why ≡ cut.Refused refusal →
    (tells : Bool) (before after : List ℕ) (stop : Stop) → SaysRefusal Trace refusal tells before after stop →
    EndsBehind (Err why) tells before after (Err stop)
ends_refused why refusal is tells before after stop says =
    subst (λ (w : Cut). EndsBehind (Err w) tells before after (Err stop)) (sym is)
    (ends_refusal tells before after refusal stop says)

-- after a write that failed nothing is written
pub ends_unwritten : (why : Cut) → why ≡ cut.Unwritten → (tells : Bool) (taken : List ℕ) →
    EndsBehind (Err why) tells taken taken (Err Unwritten)
ends_unwritten why is tells taken =
    subst (λ (w : Cut). EndsBehind (Err w) tells taken taken (Err Unwritten)) (sym is) (record {
      more = [];
      written = λ tell. sym (append-nil taken);
      ends = λ text end bytes w. (
        w.0 ++ end_line end,
        ap (λ (b : List ℕ). b ++ (w.0 ++ end_line end)) (append-nil bytes) ∙ sym (append_assoc bytes w.0 (end_line end))
            ∙ ap (λ (t : List ℕ). t ++ end_line end) w.1,
      );
    })

-- pieces that were written one after another
pub three_pieces : (a0 a1 a2 a3 head body more : List ℕ) → a1 ≡ a0 ++ head → a2 ≡ a1 ++ body → a3 ≡ a2 ++ more →
    a3 ≡ a0 ++ ((head ++ body) ++ more)
three_pieces a0 a1 a2 a3 head body more first second third =
    third ∙ ap (λ (a : List ℕ). a ++ more) (second ∙ ap (λ (a : List ℕ). a ++ body) first ∙ append_assoc a0 head body)
    ∙ append_assoc a0 (head ++ body) more
