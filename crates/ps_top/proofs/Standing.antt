-- What is answered where a run of two channels wrote so of the items of a trace.
use Rattle.std.proofs.Common.{◌≡◌, ◌∙◌, ◌++◌, ℕ, Bool, true, false, IsTrue, List, Option, None, Result, Ok, Err, refl, sym, ap, subst, append_assoc, append-nil, arith}
use Rattle.std.specs.Prelude.{◌||◌}
use Rattle.std.specs.Option.{option_or}
use Rattle.ps_model.specs.declared.channel.Fault.{Fault}
use Rattle.ps_model.specs.declared.channel.Verdict.{Verdict}
use Rattle.ps_model.specs.Network.{Network}
use Rattle.ps_report.specs.Short.{refusal_text}
use Rattle.ps_runs.specs.Doing.{Did}
use Rattle.ps_runs.specs.Outcomes.{Outcome, outcome_line}
use Rattle.ps_runs.specs.Performing.{Performs}
use Rattle.ps_runs.specs.Resting.{ran}
use Rattle.ps_runs.specs.declared.items.Cut.{Cut}
use Rattle.ps_runs.specs.declared.items.Cut.TheVariants.{Refused, Unread, Unwritten}
use Rattle.ps_runs.specs.Tripping.{first_trip}
use Rattle.ps_runs.specs.declared.striking.StruckWorld.{StruckWorld}
use Rattle.ps_runs.specs.declared.striking.Trip.{Trip}
use Rattle.ps_world.specs.Whole.{machines_in}
use Rattle.ps_runs.proofs.Standing.{any_of, first_of, Came, Begun, CameTo, came_to}
use Rattle.ps_runs.proofs.ToCome.{Stands}
use Rattle.ps_trace.specs.Scans.{Scans, End}
use Rattle.ps_trace.specs.Scans.End.{whole, refused as is_refused}
use Rattle.ps_top.specs.Asking.{Answer}
use Rattle.ps_top.specs.Meets.{IsCut, AppendsPart}
use Rattle.ps_top.specs.Program.{answer, end_line, status_if}
use Rattle.ps_top.specs.Resting.{status_of, run_answer}
use Rattle.ps_top.specs.declared.Status.{Status}
use Rattle.ps_top.specs.declared.Status.TheVariants.{BadInput}
use Rattle.ps_top.proofs.Calling.{no_read_said, no_memory_said}
use Rattle.ps_top.proofs.Ending.{AsEnded, IsEnd}
use Rattle.ps_top.proofs.Meeting.{all_given, given_behind, part_given, part_unread}

-- a trace that was read to its end was not cut short
whole_not_cut : (b : Bool) → ¬ IsCut (status_if b)
whole_not_cut true = λ cut. grind arith
whole_not_cut false = λ cut. grind arith

pub no_cut_status : (b : Bool) (status : Status) → status ≡ status_if b → ¬ IsCut status
no_cut_status b status is = subst (λ (s : Status). ¬ IsCut s) (sym is) (whole_not_cut b)

module _ (net : Network) (faults : List Fault) where
  -- ---- A whole trace that is written line by line, from the beginning of a run.

  module _ (scans : Scans) (p after : StruckWorld) (none_tripped : p.tripped ≡ false) where
    abbrev wanted : Answer → Type 0
    wanted said = said ≡ run_answer net faults p.world scans

    module _ {T : Type 0} (takes : T → Outcome Verdict → T → Type 0) (t t' : T) where
      begun_part : (bytes : List ℕ) (tells : Bool) (start now : List ℕ) → (IsTrue tells → now ≡ start ++ bytes) → Begun net faults (outcome_line net) takes 0 scans.items p bytes → AppendsPart wanted tells start now
      begun_part bytes tells start now wrote begun = record {
        answer = run_answer net faults p.world scans;
        right = refl;
        written = bytes;
        owed = begun.0 ++ end_line scans.end;
        whole = sym (append_assoc bytes begun.0 (end_line scans.end)) ∙ ap (λ l. l ++ end_line scans.end) begun.1;
        appended = wrote;
      }

      -- the answer, where all items came and the trace ends so
      answer_is : (bytes : List ℕ) (end : End) → Came net faults (outcome_line net) takes 0 scans.items p after t t' bytes → scans.end ≡ end → answer (bytes ++ end_line end) (status_of end after.tripped) ≡ run_answer net faults p.world scans
      answer_is bytes end came is = λ i. answer (came.written i ++ end_line (sym is i))
          (status_of (sym is i) ((came.tripped ∙ ap (λ b. b || any_of net faults 1 scans.items p.world) none_tripped) i))

      told_gives : (bytes : List ℕ) (tells : Bool) (start now : List ℕ) (ended : Result (Unit {0}) Cut) → (IsTrue tells → now ≡ start ++ bytes) → CameTo net faults (outcome_line net) takes 0 scans p after t t' bytes ended →
          AsEnded (run_answer net faults p.world scans) (status_if after.tripped) tells start now ended
      told_gives bytes tells start now (Ok x) wrote came =
          all_given wanted (answer bytes (status_if after.tripped)) tells start now (whole_not_cut after.tripped)
          (ap (λ l. answer l (status_if after.tripped)) (sym (append-nil bytes)) ∙ answer_is bytes whole came.0 came.1) wrote
      told_gives bytes tells start now (Err (Refused refusal)) wrote came = λ later status says.
          given_behind wanted (answer (refusal_text refusal) BadInput) bytes tells start now later status (answer_is bytes (is_refused refusal) came.0 came.1) wrote says.gives
          (no_memory_said BadInput status (λ cut. grind arith) says.ends) (no_read_said BadInput status (λ cut. grind arith) says.ends)
      told_gives bytes tells start now (Err Unread) wrote begun = part_unread wanted tells start now (begun_part bytes tells start now wrote begun)
      told_gives bytes tells start now (Err Unwritten) wrote begun = part_given wanted tells start now (begun_part bytes tells start now wrote begun)

      -- the world that is left after items that were done to an end, and the first trip
      abbrev pub Ends : Type 0
      Ends = (after.world ≡ ran faults 1 scans.items p.world) × (after.trip ≡ first_trip (machines_in p.world.setup) faults 1 scans.items p.world.state)

      came_ends : (bytes : List ℕ) → p.trip ≡ None → Came net faults (outcome_line net) takes 0 scans.items p after t t' bytes → Ends
      came_ends bytes no_trip came = (came.ends, came.trip ∙ ap (λ (o : Option Trip). option_or o (first_of net faults 1 scans.items p.world)) no_trip)

      told_ends : (bytes : List ℕ) (ended : Result (Unit {0}) Cut) → p.trip ≡ None → IsEnd ended → CameTo net faults (outcome_line net) takes 0 scans p after t t' bytes ended → Ends
      told_ends bytes (Ok x) no_trip end came = came_ends bytes no_trip came.0
      told_ends bytes (Err (Refused refusal)) no_trip end came = came_ends bytes no_trip came.0
      told_ends bytes (Err Unread) no_trip end begun = absurd end
      told_ends bytes (Err Unwritten) no_trip end begun = absurd end

      -- the items of a trace were done from the first one on
      abbrev Done : ℕ → List ℕ → Result (Unit {0}) Cut → Type 0
      Done time bytes ended = Did (Performs net) (λ u q outcome. outcome_line net outcome) (λ u q outcome u'. takes u outcome u') time p t scans bytes ended after t'

      pub items_give : (time : ℕ) (bytes : List ℕ) (tells : Bool) (start now : List ℕ) (ended : Result (Unit {0}) Cut) → Stands faults 0 p → Done time bytes ended →
          (IsTrue tells → now ≡ start ++ bytes) → AsEnded (run_answer net faults p.world scans) (status_if after.tripped) tells start now ended
      items_give time bytes tells start now ended stands did wrote =
          told_gives bytes tells start now ended wrote (came_to net faults (outcome_line net) takes 0 time p t scans bytes ended after t' stands did)

      pub items_end : (time : ℕ) (bytes : List ℕ) (ended : Result (Unit {0}) Cut) → p.trip ≡ None → IsEnd ended → Stands faults 0 p → Done time bytes ended → Ends
      items_end time bytes ended no_trip end stands did = told_ends bytes ended no_trip end (came_to net faults (outcome_line net) takes 0 time p t scans bytes ended after t' stands did)
