-- The messages of calls that end without a refusal: of a file that could not be read, of a scan that tripped, and of
-- words that are not taken.
use Rattle.std.specs.Prelude.{ℕ, ◌==◌, List, [], ◌++◌, ◌∷◌, codes, decimal, length, if◌then◌else◌}
use Rattle.ps_model.specs.declared.channel.Cause.{Cause}
use Rattle.ps_model.specs.declared.channel.Cause.TheVariants.{Differ, Stuck, Trap, NoReport}
use Rattle.ps_model.specs.declared.channel.Channel.{Channel}
use Rattle.ps_model.specs.declared.channel.Channel.TheVariants.{A, B}
use Rattle.ps_text.specs.Shown.{first_shown, last_shown}
use Rattle.ps_message.specs.declared.statuses.Unread.{Unread}
use Rattle.ps_message.specs.declared.statuses.Unread.TheVariants.{Missing, Folder, Forbidden, Unplaced, Failed}

-- a line on a file, of whose name the last 255 bytes are shown, with what is wrong
abbrev pub wrong_line : (file wrong : List ℕ) → List ℕ
wrong_line file wrong = last_shown 255 file ++ codes ": " ++ wrong ++ codes "\n"

-- a line on what helps
abbrev pub help_line : List ℕ → List ℕ
help_line remedy = remedy ++ codes " (docs/refusals.md)\n"

-- what is wrong with a file
abbrev pub wrong_of : Unread → List ℕ
wrong_of Missing = codes "there is no file of this name"
wrong_of Folder = codes "this is a folder, and a file is asked"
wrong_of Forbidden = codes "the system does not let this user read the file"
wrong_of Unplaced = codes "this cannot be read at a place, as a file can: it is a pipe or a terminal"
wrong_of Failed = codes "a read of the file failed"

-- what helps against it
abbrev pub remedy_of : Unread → List ℕ
remedy_of Missing = codes "look at the spelling, the order of the words, and the folder in which plcsafe is called"
remedy_of Folder = codes "give the name of a file in it"
remedy_of Forbidden = codes "change its rights, or give a copy"
remedy_of Unplaced = codes "write it into a file first; /dev/stdin serves where a file stands behind <"
remedy_of Failed = codes "call plcsafe again; where it fails anew look at the disk"

-- the message of a file that could not be read
abbrev pub unread_text : (file : List ℕ) → Unread → List ℕ
unread_text file why = wrong_line file (wrong_of why) ++ help_line (remedy_of why)

-- a channel by its name
abbrev pub channel_shown : Channel → List ℕ
channel_shown A = codes "channel A"
channel_shown B = codes "channel B"

-- what a trap means, by its number, which all channels share
abbrev pub trap_said : ℕ → List ℕ
trap_said number =
    if number == 1 then codes ", no such instruction"
    else if number == 2 then codes ", past the end of the code"
    else if number == 3 then codes ", a wrong height of the stack or number of pins"
    else if number == 4 then codes ", a byte that is no Boolean"
    else if number == 5 then codes ", a signal that there is not"
    else if number == 6 then codes ", an instance or a kind that there is not"
    else if number == 7 then codes ", bytes that are no state of the block"
    else []

-- a field of the reports by its number, after its name where it has one
abbrev pub field_shown : (field : ℕ) → (name : List ℕ) → List ℕ
field_shown field name = (if length name == 0 then [] else first_shown 200 name ++ codes ", ") ++ codes "field " ++ decimal field

-- why a scan tripped; a field has a name
abbrev pub cause_shown : Cause → (name : List ℕ) → List ℕ
cause_shown (Differ field) name = codes "the reports of the channels differ, first in " ++ field_shown field name
cause_shown (Stuck of) name = channel_shown of ++ codes " did not end within its turns"
cause_shown (Trap of number) name = channel_shown of ++ codes " was stopped by trap " ++ decimal number ++ trap_said number
cause_shown (NoReport of) name = channel_shown of ++ codes " has no report: an output, Ready or Error is a byte that is no Boolean"

-- the message of a scan of a trace that tripped: the last 255 bytes of the trace's name, the time of the scan in ms,
-- why, and what that means
abbrev pub trip_text : (file : List ℕ) → (now : ℕ) → Cause → (name : List ℕ) → List ℕ
trip_text file now cause name =
    last_shown 255 file ++ codes ": the scan at " ++ decimal now ++ codes " ms tripped: " ++ cause_shown cause name
    ++ codes "\nevery output is FALSE from there up to the next restart (docs/traces.md, TRIP lines)\n"

-- The message of a seat, by its letter, that was outvoted again in the scan after its healing: the last 255 bytes of
-- the trace's name, the time of that scan in ms, and what it may mean.
abbrev pub again_text : (file : List ℕ) → (now letter : ℕ) → List ℕ
again_text file now letter =
    last_shown 255 file ++ codes ": the scan at " ++ decimal now ++ codes " ms outvoted seat " ++ letter ∷ []
    ++ codes " again, right behind its healing\na fault struck it anew, or the two others are wrong alike: A and C step blocks by one code"
    ++ codes " (docs/faults.md, Healed in vain)\n"

-- the message of words that are not taken: what is wrong with them, and what helps; of either the first 200 bytes are
-- shown
abbrev pub usage_text : (wrong help : List ℕ) → List ℕ
usage_text wrong help =
    codes "plcsafe: " ++ first_shown 200 wrong ++ codes "\n" ++ first_shown 200 help ++ codes " (docs/commands.md)\n"
