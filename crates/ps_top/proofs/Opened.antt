-- What a call reads of a text, by the cases of what the readers answer.
use Rattle.std.specs.Prelude.{IfOk, OnOk}
use Rattle.std.proofs.Common.{◌≡◌, ℕ, List, Option, Some, None, IsSome, Result, Ok, Err, take, refl, ap}
use Rattle.ps_base.specs.declared.failing.Refusal.{Refusal}
use Rattle.ps_model.specs.Network.{Network}
use Rattle.ps_outside.specs.declared.reading.ReadFail.{ReadFail}
use Rattle.ps_outside.specs.declared.text_fail.TextFail.{TextFail}
use Rattle.ps_outside.specs.declared.text_fail.TextFail.TheVariants.{Memory, Fault, Refused}
use Rattle.ps_accepted.proofs.Sourced.{some_of}
use Rattle.ps_trace.specs.Faults.{FaultList}
use Rattle.ps_trace.specs.Reading.{IsRead, IsReadingTrace, items_left}
use Rattle.ps_trace.specs.Scans.{header_in, scans_of, scans_behind}
use Rattle.ps_trace.specs.Scans.Headed.{fails}
use Rattle.ps_trace.specs.declared.trace.TraceReader.{TraceReader}
use Rattle.ps_top.specs.Opening.{GivesText, OpensTrace, GivesFaults}

pub gives_text : (most : ℕ) (held : Option (List ℕ)) (r : Result (List ℕ) ReadFail) → OnOk r (IsSome held) →
    ((text : List ℕ) → held ≡ Some text → IfOk r (λ bytes. bytes ≡ take most text)) → GivesText most held r
gives_text most held (Ok bytes) found is = let text = some_of held found in (text.0, text.1, is text.0 text.1)
gives_text most held (Err fail) found is = tt

pub opens_trace : (net : Network) (held : Option (List ℕ)) (r : Result TraceReader TextFail) → (IsRead r → IsSome held) →
    ((text : List ℕ) → held ≡ Some text → IfOk r (λ reader. IsReadingTrace reader text)) →
    ((text : List ℕ) → held ≡ Some text → IfOk r (λ reader. items_left reader text ≡ scans_of text net)) →
    ((text : List ℕ) → held ≡ Some text → (refusal : Refusal) → r ≡ Err (Refused refusal) → header_in text net ≡ fails refusal) → OpensTrace net held r
opens_trace net held (Ok reader) found reads begins refuses = let text = some_of held (found tt) in (text.0, text.1, reads text.0 text.1, begins text.0 text.1)
opens_trace net held (Err (Refused refusal)) found reads begins refuses =
    let text = some_of held (found tt) in (text.0, text.1, ap scans_behind (refuses text.0 text.1 refusal refl))
opens_trace net held (Err Memory) found reads begins refuses = tt
opens_trace net held (Err Fault) found reads begins refuses = tt

pub gives_faults : {F : Type 0} (faults_in : List ℕ → FaultList F) (held : Option (List ℕ)) (r : Result (List F) TextFail) → (IsRead r → IsSome held) →
    ((text : List ℕ) → held ≡ Some text → IfOk r (λ faults. faults_in text ≡ record { faults = faults; refusal = None })) →
    ((text : List ℕ) → held ≡ Some text → (refusal : Refusal) → r ≡ Err (Refused refusal) → (faults_in text).refusal ≡ Some refusal) → GivesFaults faults_in held r
gives_faults faults_in held (Ok faults) found gives refuses = let text = some_of held (found tt) in (text.0, text.1, gives text.0 text.1)
gives_faults faults_in held (Err (Refused refusal)) found gives refuses =
    let text = some_of held (found tt) in (text.0, text.1, refuses text.0 text.1 refusal refl)
gives_faults faults_in held (Err Memory) found gives refuses = tt
gives_faults faults_in held (Err Fault) found gives refuses = tt
