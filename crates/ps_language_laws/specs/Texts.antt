-- An accepted text by its own names: each scan leaves one map, and the lines of a run are its reports.
use Rattle.std.specs.Prelude.{◌≡◌, ℕ, Bool, List, [], Some, map}
use Rattle.ps_model.specs.declared.channel.Cause.{Cause}
use Rattle.ps_model.specs.declared.channel.Fault.{Fault}
use Rattle.ps_model.specs.Meaning.{Item, Meaning, report}
use Rattle.ps_model.specs.Network.{Network}
use Rattle.ps_model.specs.Scanning.{State, Solves}
use Rattle.ps_model.specs.Typing.{Accepted}
use Rattle.ps_names.specs.Names.{entries}
use Rattle.ps_names.specs.Stands.{Stands}
use Rattle.ps_derived.specs.declared.library.Library.{Library}
use Rattle.ps_derived.specs.Flat.{flat}
use Rattle.ps_offences.specs.BlockRules.{block_offences}
use Rattle.ps_language_laws.specs.Reading.{Values}
use Rattle.ps_language_laws.specs.ByName.{by_name}
use Rattle.ps_language_laws.specs.Nested.{Nested}
use Rattle.ps_language_laws.specs.Runs.{TextMeaning}
use Rattle.ps_language_laws.specs.Maps.{AreAlike, AllAlike, report_in, text_instances}
use Rattle.ps_accepted.specs.Source.{IsText}
use Rattle.ps_trace.specs.Scans.{Scans, scans_of}
use Rattle.ps_world.specs.Whole.{Setup}
use Rattle.ps_top.specs.Asking.{Answer, IsAnswer}
use Rattle.ps_top.specs.Program.{run, fault, told, trips_of}
use Rattle.ps_top.specs.Untripped.{Held, HasFaults}

-- The text is spelt as these function blocks and this program, which break no rule on function blocks, and their flat
-- source stands for this application, which is accepted.
pub record IsAcceptedText (source : List ℕ) (l : Library) (net : Network) : Type 0 where
  pub text : IsText source l
  pub unbroken : block_offences l ≡ []
  pub stands : Stands (flat l) net
  pub accepted : Accepted net

-- ---- maps

-- Each scan of the text leaves exactly one map, up to what the text does not have.
pub record HasOneMap (l : Library) (net : Network) : Type 0 where
  -- whatever the map before, there is one
  pub some : (old : Values) (ins : List Bool) (dt : ℕ) → (new : Values) × Nested l old ins dt new
  -- and all are alike, where those before are
  pub only : (old other : Values) (ins : List Bool) (dt : ℕ) (new another : Values) → AreAlike (text_instances l) old other →
      Nested l old ins dt new → Nested l other ins dt another → AreAlike (text_instances l) new another
  -- it is that of the one state that solves the scan of the application
  pub solution : (old : State) (ins : List Bool) (dt : ℕ) (new : State) → Solves net old ins dt new →
      Nested l (by_name (entries (flat l)) old) ins dt (by_name (entries (flat l)) new)

-- Each list of scans and restarts means exactly one list of maps of the text, one for each scan.
pub record HasOneRun (l : Library) (net : Network) (items : List Item) : Type 0 where
  pub maps : List Values
  pub means : TextMeaning l items maps
  pub only : (others : List Values) → TextMeaning l items others → AllAlike (text_instances l) others maps
  -- it is that of the states that it means of the application
  pub states : (ws : List State) → Meaning net items ws → TextMeaning l items (map (by_name (entries (flat l))) ws)

-- ---- lines

-- states that the scans mean of the application report what maps that they mean of the text report
abbrev pub ReportsAreOfMaps : Library → Network → Type 0
ReportsAreOfMaps l net = (items : List Item) (ws : List State) (maps : List Values) →
    Meaning net items ws → TextMeaning l items maps → map (report net) ws ≡ map (report_in net) maps

-- The answer tells all scans of a trace, of which these trip, by the reports of the maps that the scans mean of the
-- text. What is told of a state is its report alone.
pub record TellsMaps (l : Library) (net : Network) (tripped : List (ℕ × Cause)) (scans : Scans) (said : Answer) : Type 0 where
  pub maps : List Values
  pub meaning : TextMeaning l scans.items maps
  pub states : List State
  pub reports : map (report net) states ≡ map (report_in net) maps
  pub lines : said ≡ told net tripped scans states

-- Under one name this accepted text is held, and under the other the text of a trace.
pub record TextsAreHeld (held : Held) (app trace : List ℕ) (l : Library) (net : Network) (text : List ℕ) : Type 0 where
  pub source : List ℕ
  pub source_is : held app ≡ Some source
  pub accepted : IsAcceptedText source l net
  pub text_is : held trace ≡ Some text

-- `run` tells every scan by the report of its map
abbrev pub RunsTellMaps : Type 0
RunsTellMaps = (held : Held) (app trace : List ℕ) (l : Library) (net : Network) (text : List ℕ) (said : Answer) →
    TextsAreHeld held app trace l net text → IsAnswer (run app trace) held said → TellsMaps l net [] (scans_of text net) said

-- and `fault` does, up to where the world trips
abbrev pub FaultsTellMaps : Type 0
FaultsTellMaps = (held : Held) (app trace name : List ℕ) (l : Library) (net : Network) (setup : Setup) (faults : List Fault) (text : List ℕ) (said : Answer) →
    TextsAreHeld held app trace l net text → HasFaults held name net setup faults → IsAnswer (fault app trace name) held said →
    TellsMaps l net (trips_of setup faults (scans_of text net)) (scans_of text net) said
