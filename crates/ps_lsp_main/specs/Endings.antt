-- How the server ends, by the methods of the messages that it read.
use Rattle.std.specs.Prelude.{◌≡◌, ◌⊎◌, ℕ, List, [], ◌∷◌, ◌++◌, Bool, true, false, Option, Some, None, bytes_eq, codes, if◌then◌else◌}
use Rattle.std.specs.List.{list_any}
use Rattle.serde_json.specs.Data.{Data}
use Rattle.ps_lsp_rpc.specs.Rpc.{IsReadAs}
use Rattle.ps_lsp_rpc.specs.declared.reading.Frame.{Frame}
use Rattle.ps_lsp_rpc.specs.declared.reading.Frame.TheVariants.{Message, End, Headless, TooLong, Cut}
use Rattle.ps_lsp_text.specs.Stages.{ended_by, method_in, stage_after}
use Rattle.ps_lsp_text.specs.declared.server.Stage.{Stage}
use Rattle.ps_lsp_main.specs.declared.serving.Ending.{Ending}
use Rattle.ps_lsp_main.specs.declared.serving.Ending.TheVariants.{Exit, Broken, Unread, Unwritten, Memory}

-- the method of the message of these bytes, if it has one
abbrev pub HasMethod : (body : List ℕ) → Option (List ℕ) → Type 0
HasMethod body method = (value : Option Data) × IsReadAs body value × (method ≡ method_in value)

-- the method of what was read: what is no message has that of no bytes, and the end of the input none
abbrev pub IsMethodOf : Frame → Option (List ℕ) → Type 0
IsMethodOf (Message body) method = HasMethod body method
IsMethodOf Headless method = HasMethod [] method
IsMethodOf TooLong method = HasMethod [] method
IsMethodOf End method = method ≡ None
IsMethodOf Cut method = method ≡ None

-- the methods of these, one after the other
abbrev pub HaveMethods : List Frame → List (Option (List ℕ)) → Type 0
HaveMethods [] methods = methods ≡ []
HaveMethods (frame ∷ more) methods =
    (method : Option (List ℕ)) × (others : List (Option (List ℕ))) × (methods ≡ method ∷ others) × IsMethodOf frame method × HaveMethods more others

-- whether a method is the one of this name
abbrev pub is_method : (name : List ℕ) → Option (List ℕ) → Bool
is_method name None = false
is_method name (Some method) = bytes_eq method name

-- whether a method of this name is among these
abbrev pub is_among : (name : List ℕ) → List (Option (List ℕ)) → Bool
is_among name methods = list_any (is_method name) methods

-- whether `shutdown` is among these after the first `initialize`
abbrev pub is_shut_by : List (Option (List ℕ)) → Bool
is_shut_by [] = false
is_shut_by (method ∷ more) = if is_method (codes "initialize") method then is_among (codes "shutdown") more else is_shut_by more

-- `exit` is the last of these methods, and the first of its name, and the ones before it asked to shut down or not
pub record ExitsAfter (is_shut : Bool) (methods : List (Option (List ℕ))) : Type 0 where
  pub before : List (Option (List ℕ))
  pub last : Option (List ℕ)
  pub are : methods ≡ before ++ last ∷ []
  pub exits : is_method (codes "exit") last ≡ true
  pub first : is_among (codes "exit") before ≡ false
  pub shut : is_shut_by before ≡ is_shut

-- whether the input ends with this: after it no message can be told
abbrev pub ends_input : Frame → Bool
ends_input (Message body) = false
ends_input Headless = false
ends_input TooLong = true
ends_input End = true
ends_input Cut = true

-- the input ends with the last of these
abbrev pub EndsInput : List Frame → Type 0
EndsInput frames = (before : List Frame) × (last : Frame) × (frames ≡ before ++ last ∷ []) × (ends_input last ≡ true)

-- What ends a server that read these, whose methods these are: `exit` after `shutdown`; `exit` without it, or the end of
-- the input; or a failure, where none was `exit`.
abbrev pub IsEndOf : Ending → List Frame → List (Option (List ℕ)) → Type 0
IsEndOf Exit frames methods = ExitsAfter true methods
IsEndOf Broken frames methods = ExitsAfter false methods ⊎ EndsInput frames
IsEndOf Unread frames methods = is_among (codes "exit") methods ≡ false
IsEndOf Unwritten frames methods = is_among (codes "exit") methods ≡ false
IsEndOf Memory frames methods = is_among (codes "exit") methods ≡ false

-- an ending is that of a server that read these
pub record EndsBy (ending : Ending) (frames : List Frame) : Type 0 where
  pub methods : List (Option (List ℕ))
  pub are : HaveMethods frames methods
  pub ends : IsEndOf ending frames methods

-- the exit status of an ending
abbrev pub status_of : Ending → ℕ
status_of Exit = 0
status_of Broken = 1
status_of Unread = 5
status_of Unwritten = 6
status_of Memory = 7

-- how a server ends in a stage, if it does
abbrev pub ending_in : Option Bool → Option Ending
ending_in None = None
ending_in (Some true) = Some Exit
ending_in (Some false) = Some Broken

-- how a server ends after what was read, in the stage to which that led, if it does
abbrev pub ending_after : Frame → Stage → Option Ending
ending_after frame stage = if ends_input frame then Some Broken else ending_in (ended_by stage)

-- the message of these bytes leads from one stage to another, by its method
abbrev pub Goes : (body : List ℕ) → (before after : Stage) → Type 0
Goes body before after = (method : Option (List ℕ)) × HasMethod body method × (after ≡ stage_after before method)

-- what was read leads from one stage to another, and to this ending or none
abbrev pub Leads : Frame → (before after : Stage) → Option Ending → Type 0
Leads frame before after given =
    (method : Option (List ℕ)) × IsMethodOf frame method × (after ≡ stage_after before method) × (given ≡ ending_after frame after)
