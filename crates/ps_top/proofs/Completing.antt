-- A call that no fault cut short says all, and one that asks for a name that is not held says nothing.
use Rattle.std.proofs.Common.{◌≡◌, ◌⊎◌, ℕ, Bool, List, Option, refl, subst, inl, inr, ⊎_elim, arith}
use Rattle.ps_words.specs.Command.{Command, command_of, names_of}
use Rattle.ps_top.specs.Asking.{Answer, Asking, IsAnswer, AsksFor}
use Rattle.ps_top.specs.Calls.{CallSeen, Answers}
use Rattle.ps_top.specs.Meets.{IsCut, AppendsNothing, AppendsAll, Meets}
use Rattle.ps_top.specs.Program.{said, text}
use Rattle.ps_top.specs.declared.Status.{Status}
use Rattle.ps_top.specs.declared.Status.TheVariants.{Done, Refused, Usage, BadInput, Tripped, ReadFault, WriteFault, Memory}

-- the words ask for a command
pub words_answer : (words : List (List ℕ)) (command : Command) {old new : CallSeen} {status : Status} → command ≡ command_of words →
    Answers (said command) (names_of command) old new status → Answers (text words) (names_of (command_of words)) old new status
words_answer words command {old} {new} {status} is answers = subst (λ (c : Command). Answers (said c) (names_of c) old new status) is answers

-- a call that ends with Tripped was not cut short
pub not_cut_tripped : ¬ IsCut Tripped
not_cut_tripped cut = grind arith

-- a call that was cut short, or was not
cut_or_not : (status : Status) → IsCut status ⊎ (¬ IsCut status)
cut_or_not Done = inr (λ cut. grind arith)
cut_or_not Refused = inr (λ cut. grind arith)
cut_or_not Usage = inr (λ cut. grind arith)
cut_or_not BadInput = inr (λ cut. grind arith)
cut_or_not Tripped = inr (λ cut. grind arith)
cut_or_not ReadFault = inl (inl refl)
cut_or_not WriteFault = inl (inr (inl refl))
cut_or_not Memory = inl (inr (inr refl))

module _ (asking : Asking) (held : List ℕ → Option (List ℕ)) (rose : List ℕ → Type 0) (tells : Bool) (before after : List ℕ) (status : Status)
    (meets : Meets asking held rose tells before after status) where
  -- where nothing failed all is said, or memory runs out
  pub all_said : ((name : List ℕ) → AsksFor asking held name → ¬ (rose name)) → ¬ (status ≡ WriteFault) →
      (status ≡ Memory) ⊎ AppendsAll (IsAnswer asking held) tells before after status
  all_said no_read no_write =
      elim (cut_or_not status) [
        | inl cut ↦ elim cut [
          | inl read ↦ absurd (let asked = meets.read_fault read in no_read asked.0 asked.1 asked.2)
          | inr more ↦ elim more [ inl write ↦ absurd (no_write write) | inr memory ↦ inl memory ]
        ]
        | inr not_cut ↦ inr (meets.gives.whole not_cut)
      ]

  -- where there is no answer nothing is written, and the status tells of a failed read or of running out of memory
  pub nothing_said : ((answer : Answer) → ¬ (IsAnswer asking held answer)) → AppendsNothing tells before after × ((status ≡ ReadFault) ⊎ (status ≡ Memory))
  nothing_said none =
      elim (cut_or_not status) [
        | inl cut ↦ elim cut [
          | inl read ↦ (⊎_elim (λ same. same) (λ part. absurd (none part.answer part.right)) (meets.gives.unread read), inl read)
          | inr more ↦ elim more [
            | inl write ↦ absurd (let part = meets.gives.stopped write in none part.answer part.right)
            | inr memory ↦ (meets.gives.memory memory, inr memory)
          ]
        ]
        | inr not_cut ↦ absurd (let all = meets.gives.whole not_cut in none all.answer all.right)
      ]
