-- How a command goes on from the text of a source.
use Rattle.std.proofs.Common.{◌≡◌, ℕ, List, ◌∷◌, Option, Some, IsTrue, inr, refl, sym, subst, arith}
use Rattle.ps_flow.specs.Derivation.{certificate}
use Rattle.ps_model.specs.Network.{Network}
use Rattle.ps_report.specs.Short.{refusal_text}
use Rattle.ps_accepted.specs.Source.{Reading, IsAcceptedAs, counts}
use Rattle.ps_accepted.specs.Source.Reading.{stands_for, is_refused}
use Rattle.ps_top.specs.Asking.{Asking, Worked, worked}
use Rattle.ps_top.specs.Asking.Asking.{Says, Asks, Finds, Leaves}
use Rattle.ps_top.specs.Calls.{CallSeen, Passes, Answers, with_left}
use Rattle.ps_top.specs.Program.{answer, leaves_checked, leaves_text, with_application, with_text, accepted}
use Rattle.ps_top.specs.Refusing.{GivesNone, short, unread, refuses}
use Rattle.ps_top.specs.Sourcing.{leaves_both}
use Rattle.ps_top.specs.declared.Status.{Status}
use Rattle.ps_top.specs.declared.Status.TheVariants.{Refused as RefusedStatus}
use Rattle.ps_top.proofs.Calling.{GoesOnAs, memory_answers, unread_answers, said_answers, says_at, passes_both, passes_left, answers_behind, answers_wider}

-- what is asked after an accepted application, whose certificate leaves its counts
abbrev pub with_counts : (Network → Asking) → Network → Asking
with_counts next net = Leaves (leaves_checked (counts net (certificate net))) (next net)

-- what is asked of a source that gives such readings, of which so much is left
abbrev pub asked : List ℕ → (List ℕ → Worked → Worked → Type 0) → (List ℕ → Reading → Type 0) → (List ℕ → Network → Asking) → Asking
asked app Left Readings next = Asks app (λ source. Leaves (Left source) (Finds Reading (Readings source) (with_application (next source))))

-- after the reading of a source that is held
pub reads_on : (app text : List ℕ) (Left : List ℕ → Worked → Worked → Type 0) (Readings : List ℕ → Reading → Type 0) (next : List ℕ → Network → Asking) (reading : Reading)
    (held : List ℕ → Option (List ℕ)) (before mid : Worked) (status : Status) →
    held app ≡ Some text → Readings text reading → Left text before mid → GoesOnAs (asked app Left Readings next) (with_application (next text) reading) held before mid status
reads_on app text Left Readings next reading held before mid status is reads left = record {
  right = λ answer right. (text, is, (reading, reads, right));
  asks = λ other asks. inr (text, is, (reading, reads, asks));
  leaves = λ not_cut work leaves. (text, is, (mid, left, (reading, reads, leaves)));
}

-- a name that gives no application
pub none_answers : (app : List ℕ) (Left : List ℕ → Worked → Worked → Type 0) (Readings : List ℕ → Reading → Type 0) (next : List ℕ → Network → Asking) (names : List (List ℕ))
    {old new : CallSeen} {status : Status} → GivesNone Left Readings app old new status → Answers (asked app Left Readings next) (app ∷ names) old new status
none_answers app Left Readings next names {old} {new} {status} (short is passes) =
    subst (λ (s : Status). Answers (asked app Left Readings next) (app ∷ names) old new s) (sym is) (memory_answers (asked app Left Readings next) (app ∷ names) passes)
none_answers app Left Readings next names {old} {new} {status} (unread is reads) =
    subst (λ (s : Status). Answers (asked app Left Readings next) (app ∷ names) old new s) (sym is)
    (unread_answers app (λ source. Leaves (Left source) (Finds Reading (Readings source) (with_application (next source)))) names reads)
none_answers app Left Readings next names {old} {new} {status} (refuses mid refusal reads passes says leaves) =
    let there : CallSeen = with_left new.left mid in
    answers_wider app (answers_behind (asked app Left Readings next) (Says (answer (refusal_text refusal) RefusedStatus)) names {old = old} {mid = there} {new = new}
    (passes_both {old = old} {mid = mid} {new = there} passes (passes_left new.left refl))
    (λ tells. let r = reads tells in reads_on app r.0 Left Readings next (is_refused refusal) old.files.held (worked old.left) (worked new.left) status r.1 r.2 r.3)
    (said_answers (answer (refusal_text refusal) RefusedStatus) names {old = there} {new = new} (λ cut. grind arith) (says_at new.left says) leaves refl))

-- a source whose application was found
pub found_answers : (app : List ℕ) (Left : List ℕ → Worked → Worked → Type 0) (Readings : List ℕ → Reading → Type 0) (next : Network → Asking) (names : List (List ℕ)) (net : Network)
    {old mid new : CallSeen} {status : Status} → Passes old mid →
    (IsTrue old.files.tells → (text : List ℕ) × (old.files.held app ≡ Some text) × Readings text (stands_for net) × Left text (worked old.left) (worked mid.left)) →
    Answers (next net) names mid new status → Answers (asked app Left Readings (λ text. next)) (app ∷ names) old new status
found_answers app Left Readings next names net {old} {mid} {new} {status} passes read answers =
    answers_wider app (answers_behind (asked app Left Readings (λ text. next)) (next net) names {old = old} {mid = mid} {new = new} passes
    (λ tells. let r = read tells in reads_on app r.0 Left Readings (λ text. next) (stands_for net) old.files.held (worked old.left) (worked mid.left) status r.1 r.2 r.3) answers)

-- after the text of a source whose application was found, with what is left of it and of its certificate
pub checked_on : (app text : List ℕ) (Readings : List ℕ → Reading → Type 0) (next : List ℕ → Network → Asking) (net : Network) (held : List ℕ → Option (List ℕ)) (before mid : Worked) (status : Status) →
    held app ≡ Some text → Readings text (stands_for net) → leaves_both net text before mid →
    GoesOnAs (asked app leaves_text Readings (λ source. with_counts (next source))) (next text net) held before mid status
checked_on app text Readings next net held before mid status is stands left = record {
  right = λ answer right. (text, is, (stands_for net, stands, right));
  asks = λ other asks. inr (text, is, (stands_for net, stands, asks));
  leaves = λ not_cut work leaves. (text, is, (with_text text before, refl, (stands_for net, stands, (mid, left, leaves))));
}

-- a source whose application was accepted
pub accepted_answers : (app : List ℕ) (next : Network → Asking) (names : List (List ℕ)) (net : Network) {old mid new : CallSeen} {status : Status} → Passes old mid →
    (IsTrue old.files.tells → (text : List ℕ) × (old.files.held app ≡ Some text) × IsAcceptedAs text (stands_for net) × leaves_both net text (worked old.left) (worked mid.left)) →
    Answers (next net) names mid new status → Answers (accepted app next) (app ∷ names) old new status
accepted_answers app next names net {old} {mid} {new} {status} passes read answers =
    answers_wider app (answers_behind (accepted app next) (next net) names {old = old} {mid = mid} {new = new} passes
    (λ tells. let r = read tells in checked_on app r.0 IsAcceptedAs (λ source. next) net old.files.held (worked old.left) (worked mid.left) status r.1 r.2 r.3) answers)

-- a name that gives no application, where what is checked of it would be left
pub checked_none : (app : List ℕ) (next : List ℕ → Network → Asking) (names : List (List ℕ)) {old new : CallSeen} {status : Status} →
    GivesNone leaves_text IsAcceptedAs app old new status → Answers (asked app leaves_text IsAcceptedAs (λ source. with_counts (next source))) (app ∷ names) old new status
checked_none app next names {old} {new} none =
    none_answers app leaves_text IsAcceptedAs (λ source. with_counts (next source)) names {old = old} {new = new} none
