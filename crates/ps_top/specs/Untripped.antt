-- What `run` and `fault` tell of a trace, by what is held: which scans trip, and that without faults none does.
use Rattle.std.specs.Prelude.{◌≡◌, ℕ, List, [], Option, Some, None}
use Rattle.ps_model.specs.declared.channel.Cause.{Cause}
use Rattle.ps_model.specs.declared.channel.Fault.{Fault}
use Rattle.ps_model.specs.Meaning.{Meaning}
use Rattle.ps_model.specs.Network.{Network}
use Rattle.ps_model.specs.Scanning.{State}
use Rattle.ps_accepted.specs.Source.{IsAcceptedAs}
use Rattle.ps_accepted.specs.Source.Reading.{stands_for}
use Rattle.ps_trace.specs.Faults.{faults_of}
use Rattle.ps_trace.specs.Scans.{Scans, scans_of}
use Rattle.ps_world.specs.Whole.{Setup, IsSetupOf}
use Rattle.ps_top.specs.Asking.{Answer, IsAnswer}
use Rattle.ps_top.specs.Program.{run, fault, region_sizes, told, trips_of}

-- what is held under each name
abbrev pub Held : Type 0
Held = List ℕ → Option (List ℕ)

-- Under one name an accepted source is held, which stands for this application, and under the other the text of a
-- trace.
pub record AreHeld (held : Held) (app trace : List ℕ) (net : Network) (text : List ℕ) : Type 0 where
  pub source : List ℕ
  pub source_is : held app ≡ Some source
  pub accepted : IsAcceptedAs source (stands_for net)
  pub text_is : held trace ≡ Some text

-- Under this name a fault file is held that has these faults for an application's world, and no line that is refused.
pub record HasFaults (held : Held) (name : List ℕ) (net : Network) (setup : Setup) (faults : List Fault) : Type 0 where
  pub setup_is : IsSetupOf net setup
  pub text : List ℕ
  pub text_is : held name ≡ Some text
  pub faults_are : faults_of text (region_sizes setup) ≡ record { faults = faults; refusal = None }

-- The answer tells every scan of a trace, to its end or its refused line: these trip, and have their TRIP lines, as
-- have those after a trip up to a restart; and each other one has the report line of the state that it means.
pub record TellsScans (net : Network) (tripped : List (ℕ × Cause)) (scans : Scans) (said : Answer) : Type 0 where
  pub states : List State
  pub meaning : Meaning net scans.items states
  pub lines : said ≡ told net tripped scans states

-- In no trace, whole or refused at a line, a scan trips without faults.
abbrev pub NoFaultNoTrip : Type 0
NoFaultNoTrip = (source text : List ℕ) (net : Network) (setup : Setup) → IsAcceptedAs source (stands_for net) → IsSetupOf net setup →
    trips_of setup [] (scans_of text net) ≡ []

-- So `run` tells all scans, and none trips.
abbrev pub RunsTellAll : Type 0
RunsTellAll = (held : Held) (app trace : List ℕ) (net : Network) (text : List ℕ) (said : Answer) → AreHeld held app trace net text →
    IsAnswer (run app trace) held said → TellsScans net [] (scans_of text net) said

-- And `fault` with no faults does.
abbrev pub QuietFaultsTellAll : Type 0
QuietFaultsTellAll = (held : Held) (app trace name : List ℕ) (net : Network) (setup : Setup) (text : List ℕ) (said : Answer) →
    AreHeld held app trace net text → HasFaults held name net setup [] → IsAnswer (fault app trace name) held said →
    TellsScans net [] (scans_of text net) said

-- With faults those trip that the world trips.
abbrev pub FaultsTellTrips : Type 0
FaultsTellTrips = (held : Held) (app trace name : List ℕ) (net : Network) (setup : Setup) (faults : List Fault) (text : List ℕ) (said : Answer) →
    AreHeld held app trace net text → HasFaults held name net setup faults → IsAnswer (fault app trace name) held said →
    TellsScans net (trips_of setup faults (scans_of text net)) (scans_of text net) said
