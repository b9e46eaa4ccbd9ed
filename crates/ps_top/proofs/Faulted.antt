-- How a run goes on from the text of a fault file.
use Rattle.std.specs.Prelude.{IsErrOf}
use Rattle.std.proofs.Common.{◌≡◌, ℕ, IsTrue, List, [], ◌∷◌, Option, Some, None, Ok, Err, length, refl, ap, subst, sym, arith}
use Rattle.ps_base.specs.declared.failing.Refusal.{Refusal}
use Rattle.ps_model.specs.declared.channel.ImageSizes.{ImageSizes}
use Rattle.ps_model.specs.Network.{Network}
use Rattle.ps_report.specs.Short.{refusal_text}
use Rattle.ps_trace.specs.Faults.{FaultList}
use Rattle.ps_outside.specs.declared.text_fail.TextFail.{TextFail as TextFail}
use Rattle.ps_outside.specs.declared.text_fail.TextFail.TheVariants.{Memory, Fault, Refused}
use Rattle.ps_world.specs.Worlds.{World_state}
use Rattle.ps_world.specs.Whole.{Whole, IsWorldOf}
use Rattle.ps_vote.specs.declared.seat.VoteSizes.{VoteSizes}
use Rattle.ps_vote.specs.Worlds as three
use Rattle.ps_vote.specs.Whole as seats
use Rattle.ps_top.specs.Asking.{Asking, Worked, worked}
use Rattle.ps_top.specs.Asking.Asking.{Says}
use Rattle.ps_top.specs.Calls.{CallSeen, Passes, ReadsName, Answers, LeavesRefusal}
use Rattle.ps_top.specs.Opening.{GivesFaults}
use Rattle.ps_top.specs.Refusing.{Fails}
use Rattle.ps_top.specs.Program.{answer, region_sizes, seat_sizes, unless_refused, with_file}
use Rattle.ps_top.specs.declared.Status.{Status}
use Rattle.ps_top.specs.declared.Status.TheVariants.{BadInput, ReadFault}
use Rattle.ps_top.specs.declared.left.Left.{Left}
use Rattle.ps_top.proofs.Calling.{GoesOnAs, asks_on, passes_read, surely_read, memory_answers, unread_answers, said_answers, answers_behind, answers_wider}

-- the lengths of the regions of a state
abbrev sizes_in : World_state → ImageSizes
sizes_in x = record { a_code = length x.a.code; a_cells = length x.a.cells; b_code = length x.b.code; b_cells = length x.b.cells }

-- the lengths of the regions of a world at its beginning
pub sizes_at_first : (w : Whole) {net : Network} → IsWorldOf net w → sizes_in w.state ≡ region_sizes w.setup
sizes_at_first w built = ap sizes_in built.beginning

-- the lengths of the regions of three seats
abbrev seat_sizes_in : three.World_state → VoteSizes
seat_sizes_in x = record { code = length x.a.code ∷ length x.b.code ∷ length x.c.code ∷ []; cells = length x.a.cells ∷ length x.b.cells ∷ length x.c.cells ∷ [] }

-- the same at the beginning of a world
pub seat_sizes_at_first : (w : seats.Whole) {net : Network} → seats.IsWorldOf net w → seat_sizes_in w.state ≡ seat_sizes w.setup
seat_sizes_at_first w built = ap seat_sizes_in built.beginning

module _ {F : Type 0} (faults_in : List ℕ → FaultList F) (name : List ℕ) (next : List F → Asking) where
  abbrev behind_text : FaultList F → Asking
  behind_text list = unless_refused next list.faults list.refusal

  -- after the faults of a file that is held
  faults_on : (text : List ℕ) (struck : List F) (held : List ℕ → Option (List ℕ)) (work : Worked) (status : Status) → held name ≡ Some text →
      faults_in text ≡ record { faults = struck; refusal = None } → GoesOnAs (with_file faults_in name next) (next struck) held work work status
  faults_on text struck held work status is gives =
      subst (λ (list : FaultList F). GoesOnAs (with_file faults_in name next) (behind_text list) held work work status) gives
      (asks_on held work status name text (λ t. behind_text (faults_in t)) is)

  -- after a fault file that is refused
  refused_on : (text : List ℕ) (refusal : Refusal) (held : List ℕ → Option (List ℕ)) (work : Worked) (status : Status) → held name ≡ Some text →
      (faults_in text).refusal ≡ Some refusal → GoesOnAs (with_file faults_in name next) (Says (answer (refusal_text refusal) BadInput)) held work work status
  refused_on text refusal held work status is refuses =
      subst (λ (r : Option Refusal). GoesOnAs (with_file faults_in name next) (unless_refused next (faults_in text).faults r) held work work status) refuses
      (asks_on held work status name text (λ t. behind_text (faults_in t)) is)

  module _ (names : List (List ℕ)) {old mid new : CallSeen} {status : Status} where
    -- a file whose faults strike what is done next
    pub faults_answer : (struck : List F) → (IsTrue old.files.tells → GivesFaults faults_in (old.files.held name) (Ok struck)) →
        ReadsName name (IsErrOf {T = List F} (Ok struck) Fault) old mid → Answers (next struck) names mid new status → Answers (with_file faults_in name next) (name ∷ names) old new status
    faults_answer struck gives reads answers =
        answers_wider name (answers_behind (with_file faults_in name next) (next struck) names {old = old} {mid = mid} {new = new} (passes_read (λ is. cc) reads)
        (λ tells. let found = gives tells in
        subst (λ (l : Left). GoesOnAs (with_file faults_in name next) (next struck) old.files.held (worked old.left) (worked l) status) (sym reads.left)
        (faults_on found.0 struck old.files.held (worked old.left) status found.1 found.2)) answers)

    -- a file that gives no faults
    pub no_faults_answer : (why : TextFail) → (IsTrue old.files.tells → GivesFaults faults_in (old.files.held name) (Err why)) →
        ReadsName name (IsErrOf {T = List F} (Err why) Fault) old mid → Fails BadInput why mid new status → LeavesRefusal new.left new.out status → worked new.left ≡ worked mid.left →
        Answers (with_file faults_in name next) (name ∷ names) old new status
    no_faults_answer (Refused r) gives reads says refuses same =
        answers_wider name (answers_behind (with_file faults_in name next) (Says (answer (refusal_text r) BadInput)) names {old = old} {mid = mid} {new = new} (passes_read (λ is. cc) reads)
        (λ tells. let found = gives tells in
        subst (λ (l : Left). GoesOnAs (with_file faults_in name next) (Says (answer (refusal_text r) BadInput)) old.files.held (worked old.left) (worked l) status) (sym reads.left)
        (refused_on found.0 r old.files.held (worked old.left) status found.1 found.2))
        (said_answers (answer (refusal_text r) BadInput) names (λ cut. grind arith) says refuses same))
    no_faults_answer Memory gives reads says refuses same =
        subst (λ (s : Status). Answers (with_file faults_in name next) (name ∷ names) old new s) (sym says.0)
        (memory_answers (with_file faults_in name next) (name ∷ names) (subst (λ (c : CallSeen). Passes old c) (sym says.1) (passes_read (λ is. cc) reads)))
    no_faults_answer Fault gives reads says refuses same =
        subst (λ (s : Status). Answers (with_file faults_in name next) (name ∷ names) old new s) (sym says.0)
        (subst (λ (c : CallSeen). Answers (with_file faults_in name next) (name ∷ names) old c ReadFault) (sym says.1)
        (unread_answers name (λ t. behind_text (faults_in t)) names (surely_read refl reads)))
