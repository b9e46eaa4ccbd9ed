-- The scans of the traces that a call names, and what they add to what is known.
use Rattle.std.specs.Prelude.{◌≡◌, ℕ, Bool, IsTrue, List, [], ◌∷◌, ◌++◌, Option, Some, slice_get, take}
use Rattle.ps_cover.specs.Applying as applying
use Rattle.ps_cover.specs.Applying.{ScanStep}
use Rattle.ps_bench_frame.specs.Ending.{stop_at}
use Rattle.ps_bench_frame.specs.Opening.{Source}
use Rattle.ps_bench_frame.specs.declared.ending.Stop.{Stop}
use Rattle.ps_cover.specs.Tallied.{IsWhole, KnowsTraces}
use Rattle.ps_cover.specs.declared.cover.Cover.{Cover}
use Rattle.ps_model.specs.Meaning.{Meaning, nothing}
use Rattle.ps_model.specs.Network.{Network}
use Rattle.ps_model.specs.Scanning.{State}
use Rattle.ps_model.specs.declared.channel.Fault.{Fault}
use Rattle.ps_trace.specs.Scans.{scans_of}
use Rattle.ps_trace.specs.Scans.End.{whole}
use Rattle.ps_bench_trace.specs.Playing.{IsPlay}
use Rattle.ps_bench_trace.specs.Refusing.{StopsAtWord}

-- These are the scans of a trace that is whole, from the first state on.
pub record AreScansOf (net : Network) (trace : List ℕ) (steps : List ScanStep) : Type 0 where
  pub ends : (scans_of trace net).end ≡ whole
  pub states : List State
  pub means : Meaning net (scans_of trace net).items states
  pub are : steps ≡ applying.scans_of net nothing (scans_of trace net).items states

-- of what a word means in the place of a trace; faults that a case brings change nothing of what is meant
abbrev pub AreScansAt : Source → (word : List ℕ) → List ScanStep → Type 0
AreScansAt from word steps =
    (trace : List ℕ) × (brought : List Fault) × IsPlay from word trace brought × AreScansOf from.net trace steps

-- of each of these words, in order
abbrev pub AreScansAll : Source → (words : List (List ℕ)) → List (List ScanStep) → Type 0
AreScansAll from [] [] = Unit {0}
AreScansAll from [] (steps ∷ traces) = ⊥
AreScansAll from (word ∷ words) [] = ⊥
AreScansAll from (word ∷ words) (steps ∷ traces) = AreScansAt from word steps × AreScansAll from words traces

-- what was known after some traces is known after these and one more
abbrev pub Adds : Network → List ScanStep → (old new : Cover) → Type 0
Adds net steps old new =
    (traces : List (List ScanStep)) (first : Cover) → IsWhole net first → KnowsTraces net traces first old →
    KnowsTraces net (traces ++ steps ∷ []) first new

-- the scans of the trace that is held are added
abbrev pub AddsHeld : Network → (held : Option (List ℕ)) → (old new : Cover) → Type 0
AddsHeld net held old new =
    (trace : List ℕ) × (held ≡ Some trace)
    × (steps : List ScanStep) × AreScansOf net trace steps × Adds net steps old new

-- the scans that a word of the call means are added
abbrev pub AddsWord : Source → (word : List ℕ) → (old new : Cover) → Type 0
AddsWord from word old new = (steps : List ScanStep) × AreScansAt from word steps × Adds from.net steps old new

-- How it stops among words: at one of them, by its place, after others the traces of which are whole.
pub record StopsAmong (from : Source) (words : List (List ℕ)) (stop : Stop) (tells : Bool)
    (before after : List ℕ) : Type 0 where
  pub place : ℕ
  pub word : List ℕ
  pub named : slice_get words place ≡ Some word
  pub done : IsTrue from.tells → (traces : List (List ScanStep)) × AreScansAll from (take place words) traces
  pub why : Stop
  pub stops : StopsAtWord from word why tells before after
  pub is : stop ≡ stop_at place why
