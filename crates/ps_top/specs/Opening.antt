-- What a call reads of a text that is held under a name, if one is held.
use Rattle.std.specs.Prelude.{◌≡◌, ◌≢◌, ◌≤◌, ℕ, List, Option, Some, None, Bool, IsTrue, Result, Ok, Err, take}
use Rattle.ps_base.specs.declared.failing.Refusal.{Refusal}
use Rattle.ps_model.specs.Meaning.{Item}
use Rattle.ps_model.specs.Network.{Network, input_count}
use Rattle.ps_outside.specs.declared.reading.ReadFail.{ReadFail}
use Rattle.ps_trace.specs.Faults.{FaultList}
use Rattle.ps_trace.specs.Reading.{IsReadingTrace, file_of, input_count_of, items_left, last_of, only_refused}
use Rattle.ps_trace.specs.Scans.{scans_of}
use Rattle.ps_outside.specs.declared.text_fail.TextFail.{TextFail}
use Rattle.ps_outside.specs.declared.text_fail.TextFail.TheVariants.{Memory, Fault, Refused}
use Rattle.ps_trace.specs.declared.trace.TraceReader.{TraceReader}

-- the bytes of the text, or the first so many of them
abbrev pub GivesText : (most : ℕ) → Option (List ℕ) → Result (List ℕ) ReadFail → Type 0
GivesText most held (Ok bytes) = (text : List ℕ) × (held ≡ Some text) × (bytes ≡ take most text)
GivesText most held (Err fail) = Unit {0}

-- a reader of the trace, after its header, with all of its items to come; or the refusal of the header
abbrev pub OpensTrace : Network → Option (List ℕ) → Result TraceReader TextFail → Type 0
OpensTrace net held (Ok reader) =
    (text : List ℕ) × (held ≡ Some text) × IsReadingTrace reader text × (items_left reader text ≡ scans_of text net)
OpensTrace net held (Err (Refused refusal)) =
    (text : List ℕ) × (held ≡ Some text) × (scans_of text net ≡ only_refused refusal)
OpensTrace net held (Err Memory) = Unit {0}
OpensTrace net held (Err Fault) = Unit {0}

-- a reader stands after the header of this file
pub record IsOpened (net : Network) (name : List ℕ) (reader : TraceReader) : Type 0 where
  pub file : file_of reader ≡ name
  pub inputs : input_count_of reader ≡ input_count net
  pub fresh : last_of reader ≡ 0

-- the faults of the file, or its refusal
abbrev pub GivesFaults : {F : Type 0} → (List ℕ → FaultList F) → Option (List ℕ) → Result (List F) TextFail → Type 0
GivesFaults faults_in held (Ok faults) =
    (text : List ℕ) × (held ≡ Some text) × (faults_in text ≡ record { faults = faults; refusal = None })
GivesFaults faults_in held (Err (Refused refusal)) =
    (text : List ℕ) × (held ≡ Some text) × ((faults_in text).refusal ≡ Some refusal)
GivesFaults faults_in held (Err Memory) = Unit {0}
GivesFaults faults_in held (Err Fault) = Unit {0}
