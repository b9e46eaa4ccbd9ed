-- What a program has to say about texts that are held under names, and what it leaves behind.
use Rattle.std.specs.Prelude.{◌≡◌, ◌⊎◌, ℕ, List, Option, Some, None}
use Rattle.ps_checker.specs.Counts.{Counts}
use Rattle.ps_model.specs.Network.{Network}
use Rattle.ps_parser.specs.Tree.{SourceTree}
use Rattle.ps_runs.specs.declared.seats.Again.{Again}
use Rattle.ps_runs.specs.declared.striking.Trip.{Trip}
use Rattle.ps_world.specs.Whole.{Whole}
use Rattle.ps_vote.specs.Whole.{Whole as WholeSeats}
use Rattle.ps_top.specs.declared.Status.{Status}
use Rattle.ps_top.specs.declared.left.Left.{Left}

-- What a call worked with: the counts of the certificate that was checked; the worlds that a run ended with, its first
-- trip, and the first seat that was outvoted again after its healing; and of the application the text that was read,
-- the application that `check` accepts, and its flat source.
pub record Worked : Type 0 where
  pub checked : Option Counts
  pub world : Option Whole
  pub votes : Option WholeSeats
  pub trip : Option Trip
  pub again : Option Again
  pub text : Option (List ℕ)
  pub app : Option Network
  pub source : Option SourceTree

-- the part of what is left that an answer speaks of
abbrev pub worked : Left → Worked
worked left = record {
  checked = left.checked;
  world = left.world;
  votes = left.votes;
  trip = left.trip;
  again = left.again;
  text = left.text;
  app = left.app;
  source = left.source;
}

-- nothing is left
abbrev pub nothing_left : Worked
nothing_left = record {
  checked = None;
  world = None;
  votes = None;
  trip = None;
  again = None;
  text = None;
  app = None;
  source = None;
}

-- what is written, and the status
pub record Answer : Type 0 where
  pub bytes : List ℕ
  pub status : Status

-- An answer; or a name whose text decides how it goes on; or something that is found, as what a text stands for, which
-- decides it; or what becomes of what is left behind, beside what goes on.
pub data Asking : Type 1 where
  Says : Answer → Asking
  Asks : List ℕ → (List ℕ → Asking) → Asking
  Finds : (X : Type 0) → (X → Type 0) → (X → Asking) → Asking
  Leaves : ((before work : Worked) → Type 0) → Asking → Asking

-- this is the answer, where these texts are held
abbrev pub IsAnswer : Asking → (List ℕ → Option (List ℕ)) → Answer → Type 0
IsAnswer (Says said) held answer = answer ≡ said
IsAnswer (Asks name next) held answer = (text : List ℕ) × (held name ≡ Some text) × IsAnswer (next text) held answer
IsAnswer (Finds X Fits next) held answer = (x : X) × Fits x × IsAnswer (next x) held answer
IsAnswer (Leaves Change next) held answer = IsAnswer next held answer

-- this name's text is asked for
abbrev pub AsksFor : Asking → (List ℕ → Option (List ℕ)) → List ℕ → Type 0
AsksFor (Says said) held name = ⊥
AsksFor (Asks asked next) held name =
    (name ≡ asked) ⊎ ((text : List ℕ) × (held asked ≡ Some text) × AsksFor (next text) held name)
AsksFor (Finds X Fits next) held name = (x : X) × Fits x × AsksFor (next x) held name
AsksFor (Leaves Change next) held name = AsksFor next held name

-- This is left at the end, where that was left before: what is to become of it became of it, step by step, and all else
-- stayed.
abbrev pub IsLeftAfter : Asking → (List ℕ → Option (List ℕ)) → (before work : Worked) → Type 0
IsLeftAfter (Says said) held before work = work ≡ before
IsLeftAfter (Asks name next) held before work =
    (text : List ℕ) × (held name ≡ Some text) × IsLeftAfter (next text) held before work
IsLeftAfter (Finds X Fits next) held before work = (x : X) × Fits x × IsLeftAfter (next x) held before work
IsLeftAfter (Leaves Change next) held before work =
    (mid : Worked) × Change before mid × IsLeftAfter next held mid work

-- this is left of a call, which begins with nothing left
abbrev pub IsLeft : Asking → (List ℕ → Option (List ℕ)) → Worked → Type 0
IsLeft asking held work = IsLeftAfter asking held nothing_left work
