-- How a run comes to meet what it is asked, by how the items of its trace ended: whatever performs them, and whatever takes what comes of them.
use Rattle.std.proofs.Common.{◌≡◌, ℕ, Bool, List, Some, Result, Ok, Err, inl, inr, refl, sym, ◌∙◌, subst, arith}
use Rattle.ps_base.specs.declared.failing.Refusal.{Refusal}
use Rattle.ps_model.specs.Meaning.{Item}
use Rattle.ps_model.specs.Network.{Network}
use Rattle.ps_report.specs.Short.{refusal_text}
use Rattle.ps_runs.specs.Outcomes.{Outcome}
use Rattle.ps_runs.specs.declared.items.Cut.{Cut}
use Rattle.ps_runs.specs.declared.items.Cut.TheVariants.{Refused, Unread, Unwritten}
use Rattle.ps_trace.specs.Reading.{only_refused}
use Rattle.ps_trace.specs.Scans.{scans_of}
use Rattle.ps_top.specs.Asking.{Answer, Asking, IsAnswer, IsLeftAfter, Worked}
use Rattle.ps_top.specs.Asking.Asking.{Asks}
use Rattle.ps_top.specs.Calls.{CallSeen, NameRose}
use Rattle.ps_top.specs.Meets.{IsCut, Gives, Meets}
use Rattle.ps_top.specs.Program.{answer}
use Rattle.ps_top.specs.Running.{SaysRefusal, EndsCut, DoesTrace, StopsTrace, short, unread, headless, cut, RunsTrace}
use Rattle.ps_top.specs.declared.Status.{Status}
use Rattle.ps_top.specs.declared.Status.TheVariants.{BadInput, ReadFault, WriteFault, Memory}
use Rattle.ps_top.proofs.Calling.{no_read_said}
use Rattle.ps_top.proofs.Meeting.{memory_meets, streamed_meets}

-- what is given of a whole answer, which has this status at the end of a whole trace, once it is told how the items ended
abbrev pub AsEnded : (wanted : Answer) (final : Status) (tells : Bool) (start now : List ℕ) → Result (Unit {0}) Cut → Type 0
AsEnded wanted final tells start now (Ok x) = Gives (λ said. said ≡ wanted) tells start now final
AsEnded wanted final tells start now (Err (Refused refusal)) =
    (later : List ℕ) (status : Status) → SaysRefusal refusal tells now later status → Gives (λ said. said ≡ wanted) tells start later status
AsEnded wanted final tells start now (Err Unread) = Gives (λ said. said ≡ wanted) tells start now ReadFault
AsEnded wanted final tells start now (Err Unwritten) = Gives (λ said. said ≡ wanted) tells start now WriteFault

-- the items were done up to an end that the answer tells
abbrev pub IsEnd : Result (Unit {0}) Cut → Type 0
IsEnd (Ok x) = Unit {0}
IsEnd (Err (Refused refusal)) = Unit {0}
IsEnd (Err Unread) = ⊥
IsEnd (Err Unwritten) = ⊥

module _ {P T V : Type 0} (performs : P → Item → Outcome V → P → Type 0) (said : T → P → Outcome V → List ℕ) (takes : T → P → Outcome V → T → Type 0)
    (net : Network) (name : List ℕ) (asking : List ℕ → Asking) (p p' : P) (t t' : T) (old new : CallSeen) where
  -- these items were done, and so much was written
  abbrev Does : (text written : List ℕ) → Result (Unit {0}) Cut → Type 0
  Does text written ended = DoesTrace performs said takes net text p p' t t' old.out.tells old.out.taken written ended

  abbrev Stops : Status → Type 0
  Stops status = StopsTrace performs said takes net (old.files.held name) p p' t t' old.out.tells old.out.taken new.out.taken status

  abbrev MeetsBy : Status → Type 0
  MeetsBy status = Meets (Asks name asking) old.files.held (NameRose old new) old.out.tells old.out.taken new.out.taken status

  module _ (wanted : List ℕ → Answer) (final : Status) (no_read : ¬ (final ≡ ReadFault))
      (answers : (text : List ℕ) → IsAnswer (asking text) old.files.held (wanted text))
      (refused : (text : List ℕ) (refusal : Refusal) → scans_of text net ≡ only_refused refusal → IsAnswer (asking text) old.files.held (answer (refusal_text refusal) BadInput))
      (gives : (text written : List ℕ) (ended : Result (Unit {0}) Cut) → Does text written ended → AsEnded (wanted text) final old.out.tells old.out.taken written ended) where
    -- what gives the answer of the text meets what is asked
    answered : (text : List ℕ) (status : Status) → old.files.held name ≡ Some text → (status ≡ ReadFault → NameRose old new name) →
        Gives (λ a. a ≡ wanted text) old.out.tells old.out.taken new.out.taken status → MeetsBy status
    answered text status is rose given =
        streamed_meets name text asking (λ a. a ≡ wanted text) old.files.held (NameRose old new) old.out.tells old.out.taken new.out.taken status is rose
        (λ a same. subst (λ (b : Answer). IsAnswer (asking text) old.files.held b) (sym same) (answers text)) given

    -- a trace that was run to its end
    pub whole_meets : (x : Unit {0}) → RunsTrace performs said takes net name p p' t t' old new (Ok x) → MeetsBy final
    whole_meets x runs = answered runs.0 final runs.1 (λ fault. absurd (no_read fault)) (gives runs.0 new.out.taken (Ok x) runs.2)

    cut_gives : (text written : List ℕ) (why : Cut) (status : Status) → Does text written (Err why) → EndsCut why old.out.tells written new.out.taken status →
        Gives (λ a. a ≡ wanted text) old.out.tells old.out.taken new.out.taken status
    cut_gives text written (Refused refusal) status does says = gives text written (Err (Refused refusal)) does new.out.taken status says
    cut_gives text written Unread status does ends =
        subst (λ (s : Status). Gives (λ a. a ≡ wanted text) old.out.tells old.out.taken new.out.taken s) (sym ends.0)
        (subst (λ (now : List ℕ). Gives (λ a. a ≡ wanted text) old.out.tells old.out.taken now ReadFault) (sym ends.1) (gives text written (Err Unread) does))
    cut_gives text written Unwritten status does ends =
        subst (λ (s : Status). Gives (λ a. a ≡ wanted text) old.out.tells old.out.taken new.out.taken s) (sym ends.0)
        (subst (λ (now : List ℕ). Gives (λ a. a ≡ wanted text) old.out.tells old.out.taken now WriteFault) (sym ends.1) (gives text written (Err Unwritten) does))

    -- one that stopped before
    pub stops_meets : (status : Status) → Stops status → (status ≡ ReadFault → NameRose old new name) → MeetsBy status
    stops_meets status (short is same) rose =
        subst (λ (s : Status). MeetsBy s) (sym is)
        (subst (λ (now : List ℕ). Meets (Asks name asking) old.files.held (NameRose old new) old.out.tells old.out.taken now Memory) (sym same)
        (memory_meets (Asks name asking) old.files.held (NameRose old new) old.out.tells old.out.taken))
    stops_meets status (unread is same) rose = record {
      gives = record {
        whole = λ not_cut. absurd (not_cut (inl is));
        stopped = λ stopped. let both = sym is ∙ stopped in cc;
        unread = λ _. inl (λ on. same);
        memory = λ memory. let both = sym is ∙ memory in cc;
      };
      read_fault = λ fault. (name, inl refl, rose fault);
    }
    stops_meets status (headless text refusal is none still says) rose =
        streamed_meets name text asking (λ a. a ≡ answer (refusal_text refusal) BadInput) old.files.held (NameRose old new) old.out.tells old.out.taken new.out.taken status is
        (λ fault. absurd (no_read_said BadInput status (λ c. grind arith) says.ends fault))
        (λ a same. subst (λ (b : Answer). IsAnswer (asking text) old.files.held b) (sym same) (refused text refusal none)) says.gives
    stops_meets status (cut text why written is does ends) rose = answered text status is rose (cut_gives text written why status does ends)

  module _ (before work : Worked) (leaves : (text written : List ℕ) (ended : Result (Unit {0}) Cut) → IsEnd ended → Does text written ended → IsLeftAfter (asking text) old.files.held before work)
      (beginning : (text : List ℕ) (refusal : Refusal) → scans_of text net ≡ only_refused refusal → p' ≡ p → IsLeftAfter (asking text) old.files.held before work) where
    -- what is left of a trace that was run to its end
    pub whole_leaves : (x : Unit {0}) → RunsTrace performs said takes net name p p' t t' old new (Ok x) → IsLeftAfter (Asks name asking) old.files.held before work
    whole_leaves x runs = (runs.0, runs.1, leaves runs.0 new.out.taken (Ok x) tt runs.2)

    cut_leaves : (text written : List ℕ) (why : Cut) (status : Status) → ¬ IsCut status → Does text written (Err why) → EndsCut why old.out.tells written new.out.taken status →
        IsLeftAfter (asking text) old.files.held before work
    cut_leaves text written (Refused refusal) status not_cut does says = leaves text written (Err (Refused refusal)) tt does
    cut_leaves text written Unread status not_cut does ends = absurd (not_cut (inl ends.0))
    cut_leaves text written Unwritten status not_cut does ends = absurd (not_cut (inr (inl ends.0)))

    -- and of one that stopped before
    pub stops_leaves : (status : Status) → ¬ IsCut status → Stops status → IsLeftAfter (Asks name asking) old.files.held before work
    stops_leaves status not_cut (short is same) = absurd (not_cut (inr (inr is)))
    stops_leaves status not_cut (unread is same) = absurd (not_cut (inl is))
    stops_leaves status not_cut (headless text refusal is none still says) = (text, is, beginning text refusal none still)
    stops_leaves status not_cut (cut text why written is does ends) = (text, is, cut_leaves text written why status not_cut does ends)
