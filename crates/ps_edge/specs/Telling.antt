-- What a person is told of a call, besides its answer. Where it is nothing, the text is empty.
use Rattle.std.specs.Prelude.{◌≡◌, ◌≢◌, ◌⊎◌, ◌||◌, ◌++◌, ◌∷◌, ℕ, Bool, true, false, not, List, [], Option, Some, None}
use Rattle.std.specs.Prelude.{codes, slice_get, slice_index_or, take}
use Rattle.std.specs.List.{flat_map}
use Rattle.std.specs.Str.{bytes_eq}
use Rattle.ps_base.specs.declared.failing.Refusal.{Refusal}
use Rattle.ps_findings.specs.Comments.{odds_of, odds_of_lines}
use Rattle.ps_findings.specs.Fields.{IsFieldBy}
use Rattle.ps_findings.specs.Places.{placed_notes}
use Rattle.ps_findings.specs.Usage.{help_text, wrong_text}
use Rattle.ps_findings.specs.declared.usage.TheConstants.{HELP, VERSION}
use Rattle.ps_text.specs.Also.{also_text}
use Rattle.ps_message.specs.Ending.{again_text, trip_text, unread_text, usage_text}
use Rattle.ps_message.specs.Message.{Says}
use Rattle.ps_message.specs.NoteLine.{note_text, odd_text}
use Rattle.ps_message.specs.declared.statuses.Unread.{Unread}
use Rattle.ps_message.specs.declared.statuses.TheConstants.{NO_MEMORY, UNWRITTEN}
use Rattle.ps_model.specs.Network.{Network}
use Rattle.ps_notes.specs.declared.note.OddComment.{OddComment}
use Rattle.ps_notes.specs.declared.note.Placed.{Placed}
use Rattle.ps_parser.specs.Tree.{SourceTree}
use Rattle.ps_runs.specs.declared.seats.Again.{Again}
use Rattle.ps_runs.specs.declared.striking.Trip.{Trip}
use Rattle.ps_top.specs.declared.Status.{Status}
use Rattle.ps_top.specs.declared.Status.TheVariants.{Done, Refused, Usage, BadInput, Tripped}
use Rattle.ps_top.specs.declared.Status.TheVariants.{ReadFault, WriteFault, Memory}
use Rattle.ps_top.specs.declared.left.Left.{Left}
use Rattle.ps_vote.specs.declared.seat.Seat.{Seat}
use Rattle.ps_vote.specs.declared.seat.Seat.TheVariants.{A, B, C}
use Rattle.ps_edge.specs.Hearing.{IsFirst, ListenerSeen}
use Rattle.ps_edge.specs.Spoken.{most_of, named, spoken_of}
use Rattle.ps_edge.specs.declared.noting.TheConstants.{MOST_LOOKED_AT}
use Rattle.ps_edge.specs.declared.spoken.Spoken.{Spoken}
use Rattle.ps_edge.specs.declared.spoken.Spoken.TheVariants.{App, Cert, Faults, Trace}
use Rattle.ps_edge.specs.declared.telling.Message.{Message}
use Rattle.ps_edge.specs.declared.telling.Message.TheVariants.{Fixed, Written}

-- ---- notes and comments

-- the lines of notes of an application from a file of this name
abbrev pub notes_text : (file : List ℕ) → Network → List Placed → List ℕ
notes_text file net placed = flat_map (note_text file net) placed

-- the lines of odd comments of a text from a file of this name
abbrev pub odds_text : (file : List ℕ) → List OddComment → List ℕ
odds_text file odds = flat_map (odd_text file) odds

-- The lines on all odd comments of a trace or fault file of this name that are told, by as much of its text as is
-- looked at, which the listener reads anew; and nothing where none is named.
abbrev pub AreOfFile : (file : Option (List ℕ)) → ListenerSeen → List ℕ → Type 0
AreOfFile None who text = text ≡ []
AreOfFile (Some file) who text =
    (source : List ℕ) × IsFirst MOST_LOOKED_AT (who.reads file) source × (text ≡ odds_text file (odds_of_lines source))

-- these are the lines on the odd comments of a text of the call
abbrev pub AreOnComments : (words : List (List ℕ)) → ListenerSeen → Spoken → List ℕ → Type 0
AreOnComments words who spoken text = AreOfFile (named words spoken) who text

-- The lines of the notes of this application, all of them, each at its place in the flat source, and then those on the
-- odd comments of its text.
abbrev pub AreNotesOn : (file : List ℕ) → Network → SourceTree → (source : List ℕ) → List ℕ → Type 0
AreNotesOn file net flat source text =
    text ≡ notes_text file net (placed_notes flat net) ++ odds_text file (odds_of source)

-- the notes of an application, where it is left with its flat source and its text, and its file is named
abbrev pub AreNotesOf : Option Network → Option SourceTree → (source file : Option (List ℕ)) → List ℕ → Type 0
AreNotesOf (Some net) (Some flat) (Some source) (Some file) text = AreNotesOn file net flat source text
AreNotesOf _ _ _ _ text = text ≡ []

-- the notes of the application that `check` accepted
abbrev pub AreNotes : (words : List (List ℕ)) → Left → List ℕ → Type 0
AreNotes words left text = AreNotesOf left.app left.source left.text (named words App) text

-- ---- runs

-- a first word of a command that runs a trace
abbrev pub asks_run : Option (List ℕ) → Bool
asks_run None = false
asks_run (Some word) =
    bytes_eq word (codes "run") || bytes_eq word (codes "fault") || bytes_eq word (codes "vote")
    || bytes_eq word (codes "heal")

-- lines on comments of the trace, and where it has none, of the fault file
abbrev pub AreOfTexts : (words : List (List ℕ)) → ListenerSeen → List ℕ → Type 0
AreOfTexts words who text =
    (AreOnComments words who Trace text × (text ≢ []))
    ⊎ (AreOnComments words who Trace [] × AreOnComments words who Faults text)

-- these lines, of a command that runs a trace, and nothing of every other
abbrev pub AreIfRun : (is_run : Bool) → (words : List (List ℕ)) → ListenerSeen → List ℕ → Type 0
AreIfRun true words who text = AreOfTexts words who text
AreIfRun false words who text = text ≡ []

-- the lines on the comments of the texts of a run
abbrev pub AreOfRun : (words : List (List ℕ)) → ListenerSeen → List ℕ → Type 0
AreOfRun words who text = AreIfRun (asks_run (slice_get words 0)) words who text

-- the letter of a seat
abbrev pub letter_of : Seat → ℕ
letter_of A = 65
letter_of B = 66
letter_of C = 67

-- the message of a seat that was outvoted again in the scan after its healing, in a trace of this name, and nothing
-- where there is no such seat
abbrev pub again_told : Option Again → (file : Option (List ℕ)) → List ℕ
again_told (Some again) (Some file) = again_text file again.now (letter_of again.seat)
again_told _ _ = []

-- the message of such a seat, as it is left, by the name of the trace
abbrev pub IsOfAgain : (words : List (List ℕ)) → Option Again → List ℕ → Type 0
IsOfAgain words again text = text ≡ again_told again (named words Trace)

-- What is told of a run that did all: the message of the seat that was outvoted again, as it is left, and then lines on
-- the comments of its texts.
abbrev pub AreOfWholeRun : (words : List (List ℕ)) → ListenerSeen → Left → List ℕ → Type 0
AreOfWholeRun words who left text =
    (again comments : List ℕ) × IsOfAgain words left.again again × AreOfRun words who comments
    × (text ≡ again ++ comments)

-- whether the first word is `check`
abbrev pub asks_check : Option (List ℕ) → Bool
asks_check None = false
asks_check (Some word) = bytes_eq word (codes "check")

-- the notes, of `check`, and what is told of a run, of every other command
abbrev pub AreIfCheck : (is_check : Bool) → (words : List (List ℕ)) → ListenerSeen → Left → List ℕ → Type 0
AreIfCheck true words who left text = AreNotes words left text
AreIfCheck false words who left text = AreOfWholeRun words who left text

-- what is told of a call that did all
abbrev pub AreOfDone : (words : List (List ℕ)) → ListenerSeen → Left → List ℕ → Type 0
AreOfDone words who left text = AreIfCheck (asks_check (slice_get words 0)) words who left text

-- ---- refusals

-- The message of a refusal of the application of this name and text, and the lines of further refusals after it. Which
-- further words the message has, and which refusals are further ones, is left open.
abbrev pub IsOfApp : (file source : List ℕ) → Refusal → List ℕ → Type 0
IsOfApp file source refusal text =
    (given first : List ℕ) × Says file source refusal given first
    × (further : List Refusal) × (more : ℕ) × (text ≡ first ++ also_text file source further more)

-- The message of a refusal of another text, of which at most so many bytes are read anew. Which further words it has is
-- left open.
abbrev pub IsOfOther : (most : ℕ) → ListenerSeen → (file : List ℕ) → Refusal → List ℕ → Type 0
IsOfOther most who file refusal text =
    (source given : List ℕ) × IsFirst most (who.reads file) source × Says file source refusal given text

-- the text of the application, as it is left; empty where none is
abbrev pub source_of : Option (List ℕ) → List ℕ
source_of (Some text) = text
source_of None = []

-- the message of a refusal, by the text that its rule is about, in a file of this name
abbrev pub IsOfText : Spoken → ListenerSeen → Left → (file : List ℕ) → Refusal → List ℕ → Type 0
IsOfText App who left file refusal text = IsOfApp file (source_of left.text) refusal text
IsOfText Cert who left file refusal text = IsOfOther (most_of Cert) who file refusal text
IsOfText Faults who left file refusal text = IsOfOther (most_of Faults) who file refusal text
IsOfText Trace who left file refusal text = IsOfOther (most_of Trace) who file refusal text

-- the same, and nothing where no file is named
abbrev pub IsOfNamed : (file : Option (List ℕ)) → ListenerSeen → Left → Refusal → List ℕ → Type 0
IsOfNamed None who left refusal text = text ≡ []
IsOfNamed (Some file) who left refusal text = IsOfText (spoken_of refusal.rule) who left file refusal text

-- the message of this refusal, by the name of the text that its rule is about, and nothing where there is no refusal
abbrev pub IsOfSome : Option Refusal → (words : List (List ℕ)) → ListenerSeen → Left → List ℕ → Type 0
IsOfSome None words who left text = text ≡ []
IsOfSome (Some refusal) words who left text = IsOfNamed (named words (spoken_of refusal.rule)) who left refusal text

-- the message of the refusal that is left
abbrev pub IsOfRefusal : (words : List (List ℕ)) → ListenerSeen → Left → List ℕ → Type 0
IsOfRefusal words who left text = IsOfSome left.refusal words who left text

-- the message of the refusal that is left, and after it that of the seat that was outvoted again, as it is left
abbrev pub IsOfBadInput : (words : List (List ℕ)) → ListenerSeen → Left → List ℕ → Type 0
IsOfBadInput words who left text =
    (refused again : List ℕ) × IsOfRefusal words who left refused × IsOfAgain words left.again again
    × (text ≡ refused ++ again)

-- ---- trips

-- What is told of the field in which the reports first differ, by the text of the application as it is left, with the
-- values of the channels there; nothing where no text is left.
abbrev pub IsOfField : Option (List ℕ) → Trip → List ℕ → Type 0
IsOfField None trip field = field ≡ []
IsOfField (Some front) trip field = IsFieldBy front trip.cause trip.values field

-- the message of a scan that tripped, in a trace of this name, and the lines on comments after it
abbrev pub IsOfScan : (words : List (List ℕ)) → ListenerSeen → Left → (file : List ℕ) → Trip → List ℕ → Type 0
IsOfScan words who left file trip text =
    (field comments : List ℕ) × IsOfField left.text trip field × AreOfRun words who comments
    × (text ≡ trip_text file trip.now trip.cause field ++ comments)

-- the same, and nothing where no scan tripped or no trace is named
abbrev pub IsOfFirst :
    Option Trip → (file : Option (List ℕ)) → (words : List (List ℕ)) → ListenerSeen → Left → List ℕ → Type 0
IsOfFirst (Some trip) (Some file) words who left text = IsOfScan words who left file trip text
IsOfFirst _ _ words who left text = text ≡ []

-- what is told of the scan that tripped first, as it is left, by the name of the trace
abbrev pub IsOfTrip : (words : List (List ℕ)) → ListenerSeen → Left → List ℕ → Type 0
IsOfTrip words who left text = IsOfFirst left.trip (named words Trace) words who left text

-- ---- texts that cannot be read

-- the message of a file that cannot be read for this reason, and nothing where it can
abbrev pub why_told : (file : List ℕ) → Option Unread → List ℕ
why_told file None = []
why_told file (Some why) = unread_text file why

-- the same of the text of this name, and nothing where none is named
abbrev pub unread_told : (unread : List ℕ → Option Unread) → (file : Option (List ℕ)) → List ℕ
unread_told unread None = []
unread_told unread (Some file) = why_told file (unread file)

-- a text, or another one where it is empty
abbrev pub or_else : (text other : List ℕ) → List ℕ
or_else [] other = other
or_else (byte ∷ bytes) other = byte ∷ bytes

-- The message of the first text of the call that the listener cannot read, in the order in which a call reads them: the
-- application, the fault file, and the trace. A certificate has the place of a trace.
abbrev pub IsOfUnread : (words : List (List ℕ)) → (unread : List ℕ → Option Unread) → List ℕ → Type 0
IsOfUnread words unread text =
    text ≡ or_else (unread_told unread (named words App))
    (or_else (unread_told unread (named words Faults)) (unread_told unread (named words Trace)))

-- ---- words

-- a first word that asks for help, or none
abbrev pub asks_help : Option (List ℕ) → Bool
asks_help None = true
asks_help (Some word) =
    bytes_eq word (codes "--help") || bytes_eq word (codes "-h") || bytes_eq word (codes "help")

-- a first word that asks for the version
abbrev pub asks_version : Option (List ℕ) → Bool
asks_version None = false
asks_version (Some word) =
    bytes_eq word (codes "--version") || bytes_eq word (codes "-V") || bytes_eq word (codes "version")

-- Help, or the version, by what is asked for, or else what is wrong with the words and what helps. Of the words the
-- first five are looked at, one more than any command has.
abbrev pub IsOfAsking : (help version : Bool) → (words : List (List ℕ)) → List ℕ → Type 0
IsOfAsking true version words text = text ≡ HELP.now
IsOfAsking false true words text = text ≡ VERSION.now
IsOfAsking false false words text =
    text ≡ usage_text (wrong_text HELP.now (take 5 words)) (help_text HELP.now (slice_index_or (take 5 words) 0 []))

-- what is told of words that are not taken
abbrev pub IsOfWords : (words : List (List ℕ)) → List ℕ → Type 0
IsOfWords words text = IsOfAsking (asks_help (slice_get words 0)) (asks_version (slice_get words 0)) words text

-- ---- calls

-- what is told of a call with these words that left this and ended so, by what the listener reads
abbrev pub IsTold : (words : List (List ℕ)) → ListenerSeen → Left → Status → List ℕ → Type 0
IsTold words who left Done text = AreOfDone words who left text
IsTold words who left Refused text = IsOfRefusal words who left text
IsTold words who left Usage text = IsOfWords words text
IsTold words who left BadInput text = IsOfBadInput words who left text
IsTold words who left Tripped text = IsOfTrip words who left text
IsTold words who left ReadFault text = IsOfUnread words who.unread text
IsTold words who left WriteFault text = text ≡ UNWRITTEN.now
IsTold words who left Memory text = text ≡ NO_MEMORY.now

-- Whether what is told takes memory: help, the version, and what is told of a failed write and of memory itself take
-- none.
abbrev pub takes_memory : (words : List (List ℕ)) → Status → Bool
takes_memory words Usage = not (asks_help (slice_get words 0) || asks_version (slice_get words 0))
takes_memory words WriteFault = false
takes_memory words Memory = false
takes_memory words _ = true

-- the bytes of a message
abbrev pub message_bytes : Message → List ℕ
message_bytes (Fixed text) = text.now
message_bytes (Written bytes) = bytes

-- a message says such a text
abbrev pub Carries : (List ℕ → Type 0) → Message → Type 0
Carries IsText message = IsText (message_bytes message)
