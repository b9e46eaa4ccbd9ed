-- A trace that is opened, the faults that strike in a run, and how a call ends that is refused what a run is made of.
use Rattle.std.specs.Prelude.{◌≡◌, ◌⊎◌, ℕ, Bool, IsTrue, List, ◌++◌, take, Option, Some, None}
use Rattle.ps_base.specs.declared.failing.Refusal.{Refusal}
use Rattle.ps_model.specs.declared.channel.Fault.{Fault}
use Rattle.ps_model.specs.declared.channel.ImageSizes.{ImageSizes}
use Rattle.ps_model.specs.Network.{Network, input_count}
use Rattle.ps_outside.specs.Outside.{Rose}
use Rattle.ps_report.specs.Short.{refusal_text}
use Rattle.ps_trace.specs.Faults.{faults_of}
use Rattle.ps_trace.specs.Reading.{file_of, input_count_of, last_of}
use Rattle.ps_trace.specs.declared.trace.TraceReader.{TraceReader}
use Rattle.ps_bench_frame.specs.declared.ending.Input.{Input}
use Rattle.ps_bench_frame.specs.declared.ending.InputStop.TheVariants.{Refused}
use Rattle.ps_bench_frame.specs.declared.ending.Stop.{Stop}
use Rattle.ps_bench_frame.specs.declared.ending.Stop.TheVariants.{Input as StopsAt, Unwritten}

-- a reader stands after the header of this file
pub record IsOpened (net : Network) (name : List ℕ) (reader : TraceReader) : Type 0 where
  pub file : file_of reader ≡ name
  pub inputs : input_count_of reader ≡ input_count net
  pub fresh : last_of reader ≡ 0

-- the faults that strike: those of the file, where one is named, and else those that are brought
abbrev pub AreFaults : (held : List ℕ → Option (List ℕ)) → ImageSizes → (file : Option (List ℕ)) →
    (brought faults : List Fault) → Type 0
AreFaults held sizes None brought faults = faults ≡ brought
AreFaults held sizes (Some name) brought faults =
    (text : List ℕ) × (held name ≡ Some text) × (faults_of text sizes ≡ record { faults = faults; refusal = None })

-- the count of failed reads rose of a file, where one is named
abbrev pub RosesIn : (reads reads' : List ℕ → ℕ) → Option (List ℕ) → Type 0
RosesIn reads reads' (Some name) = Rose (reads name) (reads' name)
RosesIn reads reads' None = ⊥

-- the line of a refusal was written, or a beginning of it, and the call stops by that
abbrev pub SaysRefusal : Input → Refusal → (tells : Bool) → (before after : List ℕ) → Stop → Type 0
SaysRefusal input refusal tells before after stop =
    ((stop ≡ StopsAt (Refused input refusal)) × (IsTrue tells → after ≡ before ++ refusal_text refusal))
    ⊎ ((stop ≡ Unwritten) × (n : ℕ) × (IsTrue tells → after ≡ before ++ take n (refusal_text refusal)))
