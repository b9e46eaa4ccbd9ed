-- What the readers of sources and certificates answer.
use Rattle.std.specs.Prelude.{◌≡◌, ◌+◌, ℕ, List, Option, Some, Result, Ok, Err, take}
use Rattle.ps_base.specs.declared.failing.Fail.{Fail}
use Rattle.ps_base.specs.declared.failing.Fail.TheVariants.{Memory as NoMemory, Refused as IsRefused}
use Rattle.ps_base.specs.declared.limits.TheConstants.{LARGEST_SOURCE}
use Rattle.ps_model.specs.Network.{Network}
use Rattle.ps_model.specs.Typing.{Accepted as IsAccepted}
use Rattle.ps_flow.specs.Derivation.{certificate}
use Rattle.ps_flow.specs.declared.certificate.CertLine.{CertLine}
use Rattle.ps_checker.specs.Counts.{Counts}
use Rattle.ps_parser.specs.Tree.{SourceTree}
use Rattle.ps_names.specs.Stands.{Stands}
use Rattle.ps_accepted.specs.Source.{Reading, IsProgram, IsResolvedAs, IsAcceptedAs, counts}
use Rattle.ps_accepted.specs.Source.Reading.{stands_for, is_refused}
use Rattle.ps_accepted.specs.declared.accepting.Accepted.{Accepted}
use Rattle.ps_outside.specs.declared.text_fail.TextFail.{TextFail}
use Rattle.ps_outside.specs.declared.text_fail.TextFail.TheVariants.{Memory, Fault, Refused}

-- the application that was accepted
abbrev pub app_of : Accepted → Network
app_of accepted = accepted.app

-- the flat source that it stands for
abbrev pub source_of : Accepted → SourceTree
source_of accepted = accepted.source

-- its certificate
abbrev pub certificate_of : Accepted → List CertLine
certificate_of accepted = accepted.certificate

-- the counts of what was checked
abbrev pub checked_of : Accepted → Counts
checked_of accepted = accepted.checked

-- an accepted application with its certificate, which was checked
pub record IsChecked (a : Accepted) : Type 0 where
  pub accepted : IsAccepted a.app
  pub derivation : a.certificate ≡ certificate a.app
  pub counts_are : a.checked ≡ counts a.app a.certificate

-- the bytes that decide of a text: one more than the largest source has, or all of them
abbrev pub IsFrontOf : (front text : List ℕ) → Type 0
IsFrontOf front text = front ≡ take (LARGEST_SOURCE + 1) text

-- what comes of a text: what these rules give for it, or their first refusal
abbrev pub Decides : {A : Type 0} →
    (List ℕ → A → Type 0) → (List ℕ → Reading → Type 0) → List ℕ → Result A Fail → Type 0
Decides Gives Refuses text (Ok a) = Gives text a
Decides Gives Refuses text (Err NoMemory) = Unit {0}
Decides Gives Refuses text (Err (IsRefused refusal)) = Refuses text (is_refused refusal)

-- by the rules L, P, B and N: its flat source and the application
abbrev pub IsResolution : List ℕ → Result (SourceTree × Network) Fail → Type 0
IsResolution = Decides (λ text r. IsProgram text r.0 × Stands r.0 r.1) IsResolvedAs

-- by these rules a text gives an application
abbrev pub GivesApp : List ℕ → Network → Type 0
GivesApp text net = IsResolvedAs text (stands_for net)

-- by these rules: the application
abbrev pub IsResolved : List ℕ → Result Network Fail → Type 0
IsResolved = Decides GivesApp IsResolvedAs

-- by the rules L, P, B, N and S: an accepted application with its flat source
abbrev pub IsSourcedAcceptance : List ℕ → Result Accepted Fail → Type 0
IsSourcedAcceptance = Decides (λ text a. IsProgram text a.source × Stands a.source a.app × IsChecked a) IsAcceptedAs

-- by these rules a text gives an accepted application, which was checked
abbrev pub GivesAccepted : List ℕ → Accepted → Type 0
GivesAccepted text a = IsAcceptedAs text (stands_for a.app) × IsChecked a

-- by these rules: an accepted application
abbrev pub IsAcceptance : List ℕ → Result Accepted Fail → Type 0
IsAcceptance = Decides GivesAccepted IsAcceptedAs

-- the text that is held under a name was read, and gives this
abbrev pub Reads : {A : Type 0} →
    (List ℕ → A → Type 0) → (List ℕ → Reading → Type 0) → Option (List ℕ) → Result A TextFail → Type 0
Reads Gives Refuses held (Ok a) = (text : List ℕ) × (held ≡ Some text) × Gives text a
Reads Gives Refuses held (Err (Refused refusal)) = (text : List ℕ) × (held ≡ Some text) × Refuses text (is_refused refusal)
Reads Gives Refuses held (Err Memory) = Unit {0}
Reads Gives Refuses held (Err Fault) = Unit {0}

-- these bytes decide of the text that is held under a name
abbrev pub IsFrontHeld : (front : List ℕ) → Option (List ℕ) → Type 0
IsFrontHeld front held = (text : List ℕ) × (held ≡ Some text) × IsFrontOf front text

-- a read failed
abbrev pub IsFault : {A : Type 0} → Result A TextFail → Type 0
IsFault (Ok a) = ⊥
IsFault (Err Fault) = Unit {0}
IsFault (Err Memory) = ⊥
IsFault (Err (Refused refusal)) = ⊥
