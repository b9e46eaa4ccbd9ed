-- What is run where a word stands in the place of a trace.
use Rattle.std.proofs.Common.{◌≡◌, ◌<◌, ℕ, List, [], Option, Some, None, sym, subst, arith}
use Rattle.std.specs.Prelude.{IfSome}
use Rattle.ps_model.specs.declared.channel.Fault.{Fault}
use Rattle.ps_trace.specs.FaultOrder.{AreInOrder, AreOfOneChannel}
use Rattle.ps_bench_frame.specs.Opening.{Source}
use Rattle.ps_bench_frame.specs.declared.meant.Part.TheVariants.{Trace}
use Rattle.ps_bench_trace.specs.Playing.{MeansPart, trace_held}

-- a text that is there is the one that is held
pub same_trace : (cases held : Option (List ℕ)) (text trace : List ℕ) → cases ≡ Some text →
    trace_held cases held ≡ Some trace → trace ≡ text
same_trace None held text trace is said = cc
same_trace (Some other) held text trace is said = cc

-- what holds of a value, if there is one, holds of the one that is there
pub of_some : {X : Type 0} (P : X → Type 0) (o : Option X) (x : X) → o ≡ Some x → IfSome o P → P x
of_some P None x is holds = cc
of_some P (Some y) x is holds = let same : y ≡ x = cc in subst P same holds

-- no faults are in order, and of one channel
below_none : (j : ℕ) → j < 0 → ⊥
below_none j below = omega (arith, below)

pub no_faults_ordered : (faults : List Fault) → faults ≡ [] → AreInOrder faults
no_faults_ordered faults is = subst AreInOrder (sym is) (λ i j d before below. absurd (below_none j below))

pub no_faults_of_one : (faults : List Fault) → faults ≡ [] → AreOfOneChannel faults
no_faults_of_one faults is = subst AreOfOneChannel (sym is) (λ i j d before below. absurd (below_none j below))

-- of the trace of a file nothing is made
pub plays_file : (from : Source) (name : List ℕ) (cases : Option (List ℕ)) (faults : List Fault) → cases ≡ None → faults ≡ [] → MeansPart from name Trace cases faults
plays_file from name None faults is none = λ tells trace held. (held, none)
plays_file from name (Some text) faults is none = cc
