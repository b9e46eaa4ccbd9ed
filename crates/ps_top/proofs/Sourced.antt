-- How a call ends whose source gives no application.
use Rattle.std.specs.Prelude.{IsErrOf}
use Rattle.std.proofs.Common.{◌≡◌, ◌≤◌, ◌+◌, ◌∙◌, ℕ, List, Result, Err, length, take, refl, sym, ap, subst, inl, inr, arith}
use Rattle.std.proofs.lemmas.List.{length-take, take_all}
use Rattle.ps_base.specs.declared.failing.Fail.{Fail}
use Rattle.ps_base.specs.declared.failing.Fail.TheVariants.{Memory as NoneForRules, Refused as RefusedByRules}
use Rattle.ps_base.specs.declared.failing.Refusal.{Refusal}
use Rattle.ps_base.specs.declared.limits.TheConstants.{LARGEST_SOURCE}
use Rattle.ps_parser.specs.Tree.{SourceTree}
use Rattle.ps_accepted.specs.Answering.{IsFrontOf}
use Rattle.ps_accepted.specs.Source.{Reading, IsProgram}
use Rattle.ps_accepted.specs.Source.Reading.{is_refused}
use Rattle.ps_top.specs.Asking.{Worked, worked}
use Rattle.ps_top.specs.Calls.{CallSeen, Passes, ReadsName, LeavesRefusal, with_left}
use Rattle.ps_top.specs.Program.{leaves_text, with_bytes}
use Rattle.ps_top.specs.Refusing.{GivesNone, short, unread, refuses, IsUnread, SaysNone}
use Rattle.ps_top.specs.Sourcing.{AreOfSource}
use Rattle.ps_top.specs.declared.left.Left.{Left}
use Rattle.ps_top.specs.declared.Status.{Status}
use Rattle.ps_top.specs.declared.Status.TheVariants.{ReadFault}
use Rattle.ps_top.proofs.Calling.{passes_left, passes_read, passes_both, says_left, surely_read}

-- bytes that have a flat source are all of their text, which has it
pub program_of_front : (front text : List ℕ) (flat : SourceTree) → IsProgram front flat → IsFrontOf front text → IsProgram text flat
program_of_front front text flat p is =
    let few : length front ≤ LARGEST_SOURCE = p.text.tokens_are.0 in
    let cut : length front ≡ length (take (LARGEST_SOURCE + 1) text) = ap length is in
    subst (λ (t : List ℕ). IsProgram t flat) (is ∙ take_all (LARGEST_SOURCE + 1) text (omega (arith, few, cut, length-take (LARGEST_SOURCE + 1) text))) p

-- the bytes that were read of a source are left
pub text_left : (bytes text : List ℕ) (old mid new : CallSeen) → IsFrontOf bytes text → mid.left ≡ old.left → worked new.left ≡ with_bytes bytes (worked mid.left) →
    leaves_text text (worked old.left) (worked new.left)
text_left bytes text old mid new is same left = left ∙ (λ i. with_bytes (is i) (worked (same i)))

module _ (Left : List ℕ → Worked → Worked → Type 0) (Readings : List ℕ → Reading → Type 0) (name : List ℕ) {old new : CallSeen} {status : Status} where
  -- the source could not be read
  pub unread_none : {A : Type 0} (e : Result A Status) → e ≡ Err status → IsUnread status → ReadsName name (IsErrOf e ReadFault) old new → GivesNone Left Readings name old new status
  unread_none e is (inl memory) reads = short memory (passes_read (λ fault. let both = sym (is ∙ ap Err memory) ∙ fault in cc) reads)
  unread_none e is (inr fault) reads = unread fault (surely_read (is ∙ ap Err fault) reads)

  -- the source was read, and gives nothing
  pub refused_none : {mid : CallSeen} (bytes : List ℕ) (why : Fail) → Passes old mid → AreOfSource name old bytes →
      ((text : List ℕ) (refusal : Refusal) → IsFrontOf bytes text → why ≡ RefusedByRules refusal → Readings text (is_refused refusal) × Left text (worked old.left) (worked new.left)) →
      SaysNone why mid new status → LeavesRefusal new.left new.out status → GivesNone Left Readings name old new status
  refused_none {mid} bytes (RefusedByRules refusal) passes are reads says leaves =
      refuses mid refusal (λ tells. let found = are tells in let r = reads found.0 refusal found.2 refl in (found.0, found.1, r.0, r.1)) passes says leaves
  refused_none {mid} bytes NoneForRules passes are reads says leaves = short says.0 (passes_both {old = old} {mid = mid} {new = new} passes says.1)

-- a source gave nothing, and its bytes had been left
pub says_none_left : (why : Fail) (old mid new : CallSeen) (status : Status) (left : Left) → mid ≡ with_left left old → SaysNone why mid new status → SaysNone why old new status
says_none_left (RefusedByRules refusal) old mid new status left is says = says_left {old = old} {mid = mid} {new = new} left is says
says_none_left NoneForRules old mid new status left is says = (says.0, passes_both {old = old} {mid = mid} {new = new} (passes_left left is) says.1)
