-- What is answered where a run of three seats wrote so of the items of a trace.
use Rattle.std.proofs.Common.{◌≡◌, ◌∙◌, ◌++◌, ℕ, Bool, IsTrue, List, [], Result, Ok, Err, refl, sym, ap, append_assoc, append-nil, arith}
use Rattle.ps_model.specs.Network.{Network}
use Rattle.ps_report.specs.Short.{refusal_text}
use Rattle.ps_runs.specs.Doing.{Did}
use Rattle.ps_runs.specs.Outcomes.{vote_lines}
use Rattle.ps_runs.specs.Seats.{VotesItem, coming, run_end, voted_world}
use Rattle.ps_runs.specs.declared.items.Cut.{Cut}
use Rattle.ps_runs.specs.declared.items.Cut.TheVariants.{Refused, Unread, Unwritten}
use Rattle.ps_runs.specs.declared.seats.StruckSeats.{StruckSeats}
use Rattle.ps_runs.proofs.Courses.{TakesTold, again_of, StandsIn, Came, Begun, CameTo, came_to}
use Rattle.ps_trace.specs.Scans.{Scans, End}
use Rattle.ps_trace.specs.Scans.End.{whole, refused as is_refused}
use Rattle.ps_vote.specs.declared.faults.VoteFault.{VoteFault}
use Rattle.ps_top.specs.Asking.{Answer}
use Rattle.ps_top.specs.Meets.{AppendsPart}
use Rattle.ps_top.specs.Program.{answer, end_line, end_status}
use Rattle.ps_top.specs.Resting.{vote_answer}
use Rattle.ps_top.specs.declared.Status.TheVariants.{Done, BadInput}
use Rattle.ps_top.proofs.Calling.{no_read_said, no_memory_said}
use Rattle.ps_top.proofs.Ending.{AsEnded, IsEnd}
use Rattle.ps_top.proofs.Meeting.{all_given, given_behind, part_given, part_unread}

module _ (net : Network) (heals : Bool) (faults : List VoteFault) where
  -- ---- A whole trace, from the beginning of a run.

  module _ (scans : Scans) (p after' : StruckSeats) where
    abbrev wanted : Answer → Type 0
    wanted said = said ≡ vote_answer heals net faults p.world scans

    begun_part : (bytes : List ℕ) (tells : Bool) (start now : List ℕ) → (IsTrue tells → now ≡ start ++ bytes) → Begun net heals faults 0 scans.items p bytes → AppendsPart wanted tells start now
    begun_part bytes tells start now wrote begun =
        let end = end_line (run_end (coming heals faults 1 scans.items p.world).refused scans.end) in
        record {
          answer = vote_answer heals net faults p.world scans;
          right = refl;
          written = bytes;
          owed = begun.0 ++ end;
          whole = sym (append_assoc bytes begun.0 end) ∙ ap (λ l. l ++ end) begun.1;
          appended = wrote;
        }

    -- the answer, where all came and the run ends so
    answer_is : (bytes : List ℕ) (end : End) → Came net heals faults 0 scans p after' bytes end → answer (bytes ++ end_line end) (end_status end []) ≡ vote_answer heals net faults p.world scans
    answer_is bytes end came = λ i. answer (came.written i ++ end_line (sym came.ended i)) (end_status (sym came.ended i) [])

    told_gives : (bytes : List ℕ) (tells : Bool) (start now : List ℕ) (ended : Result (Unit {0}) Cut) → (IsTrue tells → now ≡ start ++ bytes) → CameTo net heals faults 0 scans p after' bytes ended →
        AsEnded (vote_answer heals net faults p.world scans) Done tells start now ended
    told_gives bytes tells start now (Ok x) wrote came =
        all_given wanted (answer bytes Done) tells start now (λ cut. grind arith) (ap (λ l. answer l Done) (sym (append-nil bytes)) ∙ answer_is bytes whole came) wrote
    told_gives bytes tells start now (Err (Refused refusal)) wrote came = λ later status says.
        given_behind wanted (answer (refusal_text refusal) BadInput) bytes tells start now later status (answer_is bytes (is_refused refusal) came) wrote says.gives
        (no_memory_said BadInput status (λ cut. grind arith) says.ends) (no_read_said BadInput status (λ cut. grind arith) says.ends)
    told_gives bytes tells start now (Err Unread) wrote begun = part_unread wanted tells start now (begun_part bytes tells start now wrote begun)
    told_gives bytes tells start now (Err Unwritten) wrote begun = part_given wanted tells start now (begun_part bytes tells start now wrote begun)

    -- the world that is left after items that were done to an end, and the first seat that was outvoted again
    abbrev pub Ends : Type 0
    Ends = (after'.world ≡ voted_world heals faults scans.items p.world) × (after'.again ≡ again_of net heals faults 1 scans.items p)

    told_ends : (bytes : List ℕ) (ended : Result (Unit {0}) Cut) → IsEnd ended → CameTo net heals faults 0 scans p after' bytes ended → Ends
    told_ends bytes (Ok x) end came = (came.ends, came.again)
    told_ends bytes (Err (Refused refusal)) end came = (came.ends, came.again)
    told_ends bytes (Err Unread) end begun = absurd end
    told_ends bytes (Err Unwritten) end begun = absurd end

    module _ {T : Type 0} (t t' : T) (time : ℕ) (bytes : List ℕ) (ended : Result (Unit {0}) Cut) (stands : StandsIn net heals faults 0 p)
        (did : Did (VotesItem net) (λ u q outcome. vote_lines net outcome) (λ u q outcome u'. TakesTold u outcome u') time p t scans bytes ended after' t') where
      -- the items of a trace were done from the first one on
      pub items_give : (tells : Bool) (start now : List ℕ) → (IsTrue tells → now ≡ start ++ bytes) → AsEnded (vote_answer heals net faults p.world scans) Done tells start now ended
      items_give tells start now wrote = told_gives bytes tells start now ended wrote (came_to net heals faults 0 time p t scans bytes ended after' t' stands did)

      pub items_end : IsEnd ended → Ends
      items_end end = told_ends bytes ended end (came_to net heals faults 0 time p t scans bytes ended after' t' stands did)
