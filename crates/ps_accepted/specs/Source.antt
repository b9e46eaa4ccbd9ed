-- What the text of a source gives: the application that it stands for, or its first refusal.
use Rattle.std.specs.Prelude.{◌≡◌, ◌⊎◌, ℕ, List, [], Option, Some, None, Ok, Err, slice_get, length}
use Rattle.ps_base.specs.declared.failing.Fail.TheVariants.{Refused}
use Rattle.ps_base.specs.declared.failing.Refusal.{Refusal}
use Rattle.ps_lexer.specs.declared.token.Tokens.{Tokens}
use Rattle.ps_lexer.specs.Reading.{tokens}
use Rattle.ps_parser.specs.Language.{IsSpelt, IsRefused}
use Rattle.ps_parser.specs.Places.{step_place}
use Rattle.ps_parser.specs.Tree.{SourceTree}
use Rattle.ps_derived.specs.declared.library.Library.{Library}
use Rattle.ps_derived.specs.Flat.{flat}
use Rattle.ps_derived.specs.Texts.{libraries}
use Rattle.ps_offences.specs.BlockRules.{block_offences}
use Rattle.ps_names.specs.Offences.{refused}
use Rattle.ps_names.specs.Rules.{offences}
use Rattle.ps_names.specs.Stands.{Stands}
use Rattle.ps_model.specs.Action.{Action, calls}
use Rattle.ps_model.specs.Network.{Network, kind_at}
use Rattle.ps_model.specs.Scanning.{pin_at}
use Rattle.ps_model.specs.Typing.{Accepted}
use Rattle.ps_model.specs.Nodes.{app_nodes}
use Rattle.ps_flow.specs.Refusals.{IsFirstBreach}
use Rattle.ps_flow.specs.declared.certificate.CertLine.{CertLine}
use Rattle.ps_checker.specs.Counts.{Counts}

-- what comes of the text of a source: it stands for an application, or it is refused
pub data Reading : Type 0 where
  stands_for : Network → Reading
  is_refused : Refusal → Reading

-- the tokens of the text are the spelling of these function blocks and this program
pub record IsText (source : List ℕ) (l : Library) : Type 0 where
  pub lexed : Tokens
  pub tokens_are : tokens source (Ok lexed)
  pub spelt : IsSpelt libraries lexed.list l

-- the text breaks no rule B, and this program is its flat source: the program without derived instances
pub record IsProgram (source : List ℕ) (p : SourceTree) : Type 0 where
  pub library : Library
  pub text : IsText source library
  pub unbroken : block_offences library ≡ []
  pub is : p ≡ flat library

-- the tokens of the text are refused, by the rules P
pub record BreaksGrammar (source : List ℕ) (refusal : Refusal) : Type 0 where
  pub lexed : Tokens
  pub tokens_are : tokens source (Ok lexed)
  pub breaks : IsRefused libraries lexed.list lexed.end refusal

-- the text breaks a rule B, and this offence is the one that is named
pub record BreaksBlocks (source : List ℕ) (refusal : Refusal) : Type 0 where
  pub library : Library
  pub text : IsText source library
  pub blocks : refused (block_offences library) ≡ Some refusal

-- the program breaks a rule N, and this offence is the one that is named
pub record BreaksNames (source : List ℕ) (refusal : Refusal) : Type 0 where
  pub tree : SourceTree
  pub program : IsProgram source tree
  pub names : refused (offences tree) ≡ Some refusal

-- the application stands for the program of the text
pub record Resolves (source : List ℕ) (net : Network) : Type 0 where
  pub tree : SourceTree
  pub program : IsProgram source tree
  pub stands : Stands tree net

-- the name of a pin of a called instance
abbrev pub pin_name : Network → Option Action → Option ℕ → Option (List ℕ)
pin_name net (Some (calls i args)) (Some j) = Some (pin_at (kind_at net i) j).name
pin_name net _ _ = None

-- The application of the text breaks a rule S, first at this step and pin; their place is the pin's first mention in
-- the call, or the target of the assignment.
pub record BreaksFlow (source : List ℕ) (refusal : Refusal) : Type 0 where
  pub tree : SourceTree
  pub net : Network
  pub program : IsProgram source tree
  pub stands : Stands tree net
  pub step : ℕ
  pub pin : Option ℕ
  pub breach : IsFirstBreach net refusal.rule step pin
  pub place : step_place tree step (pin_name net (slice_get net.steps step) pin) ≡ Some refusal.place

-- what the text gives by the rules L, P, B and N, tried in this order
abbrev pub IsResolvedAs : List ℕ → Reading → Type 0
IsResolvedAs source (stands_for net) = Resolves source net
IsResolvedAs source (is_refused r) = tokens source (Err (Refused r)) ⊎ BreaksGrammar source r ⊎ BreaksBlocks source r ⊎ BreaksNames source r

-- what it gives by these rules and then by the rules S
abbrev pub IsAcceptedAs : List ℕ → Reading → Type 0
IsAcceptedAs source (stands_for net) = Resolves source net × Accepted net
IsAcceptedAs source (is_refused r) = IsResolvedAs source (is_refused r) ⊎ BreaksFlow source r

-- no text gives two readings by the same rules
abbrev pub HasOneReading : (List ℕ → Reading → Type 0) → Type 0
HasOneReading Gives = (source : List ℕ) (first second : Reading) → Gives source first → Gives source second → first ≡ second

-- the counts of an application and of a certificate
abbrev pub counts : Network → List CertLine → Counts
counts net lines = record { nodes = length (app_nodes net); lines = length lines }
