-- How a call stops at a case file, by its place among the words.
use Rattle.std.proofs.Common.{◌≡◌, ◌∙◌, ℕ, Bool, List, Err, refl, sym, ap, subst}
use Rattle.ps_bench_cover.specs.Leaving.{Leaves, Sides, Stays}
use Rattle.ps_bench_frame.specs.Ending.{IsUnread, stop_at, stop_status}
use Rattle.ps_bench_frame.specs.Opening.{Source}
use Rattle.ps_bench_frame.specs.Refusing.{refused_line}
use Rattle.ps_bench_frame.specs.Stopping.{StopsAtCases}
use Rattle.ps_bench_frame.specs.declared.ending.InputStop.TheVariants.{LogRefused, OtherRefused, Refused, RulesRefused, SumRefused, Unlike, Unread}
use Rattle.ps_bench_frame.specs.declared.ending.Stop.{Stop}
use Rattle.ps_bench_frame.specs.declared.ending.Stop.TheVariants.{App, Cases, Input, NoMemory, UnreadApp, UnreadCases, Unwritten}
use Rattle.ps_outside.specs.Outside.{Rose}
use Rattle.ps_outside.specs.declared.reading.ReadFail.{ReadFail}
use Rattle.ps_outside.specs.declared.reading.ReadFail.TheVariants.{Fault, Memory}
use Rattle.ps_bench_report.specs.Running.{stop_by}
use Rattle.ps_bench_report.proofs.Reading.{of_err}

-- it stops the same way at any place
at_any_place : (from : Source) (name : List ℕ) (place : ℕ) (stop : Stop) (tells : Bool) (before after : List ℕ) →
    StopsAtCases from name refused_line stop tells before after →
    StopsAtCases from name refused_line (stop_at place stop) tells before after
at_any_place from name place (App refusal) tells before after stops = stops
at_any_place from name place (Cases other refusal) tells before after stops = stops
at_any_place from name place UnreadApp tells before after stops = stops
at_any_place from name place (UnreadCases other) tells before after stops = stops
at_any_place from name place (Input why) tells before after stops = stops
at_any_place from name place Unwritten tells before after stops = stops
at_any_place from name place NoMemory tells before after stops = stops

pub stops_placed : (from : Source) (name : List ℕ) (place : ℕ) (stop placed : Stop) (tells : Bool) (before after : List ℕ) →
    placed ≡ stop_at place stop → StopsAtCases from name refused_line stop tells before after →
    StopsAtCases from name refused_line placed tells before after
stops_placed from name place stop placed tells before after is stops =
    subst (λ (s : Stop). StopsAtCases from name refused_line s tells before after) (sym is)
    (at_any_place from name place stop tells before after stops)

-- a place changes no status
status_placed : (place : ℕ) (stop : Stop) → stop_status (stop_at place stop) ≡ stop_status stop
status_placed place (App refusal) = refl
status_placed place (Cases other refusal) = refl
status_placed place UnreadApp = refl
status_placed place (UnreadCases other) = refl
status_placed place (Input (Refused input refusal)) = refl
status_placed place (Input (RulesRefused refusal)) = refl
status_placed place (Input (LogRefused refusal)) = refl
status_placed place (Input (SumRefused refusal)) = refl
status_placed place (Input (OtherRefused refusal)) = refl
status_placed place (Input Unlike) = refl
status_placed place (Input (Unread input)) = refl
status_placed place Unwritten = refl
status_placed place NoMemory = refl

-- only a write that failed is one
unwritten_placed : (place : ℕ) (stop : Stop) → stop_at place stop ≡ Unwritten → stop ≡ Unwritten
unwritten_placed place (App refusal) is = cc
unwritten_placed place (Cases other refusal) is = cc
unwritten_placed place UnreadApp is = cc
unwritten_placed place (UnreadCases other) is = cc
unwritten_placed place (Input why) is = cc
unwritten_placed place Unwritten is = refl
unwritten_placed place NoMemory is = cc

-- what is left is the same at any place
pub placed_leaves : {X : Type 0} (R : Type 0) (a b : Sides) (place : ℕ) (stop placed : Stop) → placed ≡ stop_at place stop →
    Stays a b → (IsUnread stop → R) → (stop ≡ Unwritten → Rose a.writes b.writes) → Leaves {X = X} R a b (Err placed)
placed_leaves R a b place stop placed is stays unread unwritten = record {
  stays = stays;
  unread = λ read. unread (sym (status_placed place stop) ∙ ap stop_status (sym is) ∙ read);
  unwritten = λ at. unwritten (unwritten_placed place stop (sym is ∙ of_err placed Unwritten at));
}

-- where its file cannot be read again, or memory runs out, nothing was written
pub unnamed_stops : (from : Source) (name : List ℕ) (place : ℕ) (fail : ReadFail) (stop : Stop) (tells : Bool) (before after : List ℕ) →
    stop ≡ stop_by (UnreadCases place) fail → after ≡ before → StopsAtCases from name refused_line stop tells before after
unnamed_stops from name place Fault stop tells before after is same =
    subst (λ (s : Stop). StopsAtCases from name refused_line s tells before after) (sym is) (λ told. same)
unnamed_stops from name place Memory stop tells before after is same =
    subst (λ (s : Stop). StopsAtCases from name refused_line s tells before after) (sym is) (λ told. same)
