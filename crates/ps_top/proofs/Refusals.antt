-- What is left of a refusal.
use Rattle.std.proofs.Common.{◌≡◌, ◌⊎◌, ◌++◌, ◌∙◌, Bool, IsTrue, Some, refl, subst, ap, inl, inr, ⊎_elim, arith}
use Rattle.ps_base.specs.declared.failing.Refusal.{Refusal}
use Rattle.ps_report.specs.Short.{refusal_text}
use Rattle.ps_top.specs.Asking.{Answer}
use Rattle.ps_top.specs.Calls.{OutputSeen, CallSeen, SaysAnswer, IsRefusing, LeavesRefusal}
use Rattle.ps_top.specs.Meets.{IsCut}
use Rattle.ps_top.specs.Program.{answer}
use Rattle.ps_top.specs.declared.Status.{Status}
use Rattle.ps_top.specs.declared.Status.TheVariants.{Done, Refused, Usage, BadInput, Tripped, ReadFault, WriteFault, Memory}
use Rattle.ps_top.specs.declared.left.Left.{Left}

-- a call that was cut short refuses nothing
pub cut_refuses_not : (status : Status) → IsRefusing status → ¬ IsCut status
cut_refuses_not Done refusing cut = grind arith
cut_refuses_not Refused refusing cut = grind arith
cut_refuses_not Usage refusing cut = grind arith
cut_refuses_not BadInput refusing cut = grind arith
cut_refuses_not Tripped refusing cut = grind arith
cut_refuses_not ReadFault refusing cut = grind arith
cut_refuses_not WriteFault refusing cut = grind arith
cut_refuses_not Memory refusing cut = grind arith

-- if memory runs out nothing is refused
pub memory_refuses : (left : Left) (out' : OutputSeen) → LeavesRefusal left out' Memory
memory_refuses left out' = λ refusing. absurd (cut_refuses_not Memory refusing (inr (inr refl)))

-- nor where a read failed
pub unread_refuses : (left : Left) (out' : OutputSeen) → LeavesRefusal left out' ReadFault
unread_refuses left out' = λ refusing. absurd (cut_refuses_not ReadFault refusing (inl refl))

-- nor where a write failed
pub unwritten_refuses : (left : Left) (out' : OutputSeen) → LeavesRefusal left out' WriteFault
unwritten_refuses left out' = λ refusing. absurd (cut_refuses_not WriteFault refusing (inr (inl refl)))

-- a call refuses nothing that says an answer of another status
pub otherwise_refuses : (said status : Status) (left : Left) (out' : OutputSeen) → ¬ IsRefusing said → (status ≡ said) ⊎ (status ≡ WriteFault) →
    LeavesRefusal left out' status
otherwise_refuses said status left out' not ends = λ refusing.
    absurd (⊎_elim (λ e. not (subst IsRefusing e refusing)) (λ e. cut_refuses_not WriteFault (subst IsRefusing e refusing) (inr (inl refl))) ends)

-- a call that says the line of a refusal, and leaves it
pub said_refuses : (refusal : Refusal) (said status : Status) (left : Left) (old new : CallSeen) → left.refusal ≡ Some refusal →
    SaysAnswer (answer (refusal_text refusal) said) old new status → LeavesRefusal left new.out status
said_refuses refusal said status left old new leaves says = λ refusing.
    let all = says.gives.whole (cut_refuses_not status refusing) in (
      refusal,
      leaves,
      λ tells. (
        old.out.taken,
        all.appended (subst (λ (b : Bool). IsTrue b) says.writes.keeps.telling tells) ∙ ap (λ (a : Answer). old.out.taken ++ a.bytes) all.right,
      ),
    )
