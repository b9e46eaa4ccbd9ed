-- A call over the system, whose files and output tell no bytes.
use Rattle.std.specs.Prelude.{◌≡◌, ◌⊎◌, ℕ, false, List, [], None}
use Rattle.ps_top.specs.Calls.{FilesSeen, OutputSeen}
use Rattle.ps_top.specs.declared.Status.{Status}
use Rattle.ps_top.specs.declared.Status.TheVariants.{Memory}
use Rattle.ps_top.specs.declared.left.Left.{Left}
use Rattle.ps_edge.specs.Doing.{Does}
use Rattle.ps_edge.specs.Exit.{exit_number}

-- the files of the system, of which so many reads failed, whatever their names
abbrev pub system_files : (count : ℕ) → FilesSeen
system_files count = record { tells = false; held = λ name. None; faults = λ name. count }

-- the standard output, of which so many writes failed
abbrev pub system_output : (count : ℕ) → OutputSeen
system_output count = record { tells = false; taken = []; faults = count }

-- The number with which a call with these words exits over the system: that of memory, where it is out before anything
-- is done, and else that of the status with which the call ended, which did what every call does. Which bytes were
-- written is left open.
abbrev pub ExitsWith : (words : List (List ℕ)) → (number : ℕ) → Type 0
ExitsWith words number =
    (number ≡ exit_number Memory)
    ⊎ ((ended : Status) × (left : Left) × (reads writes : ℕ) × (number ≡ exit_number ended)
    × Does words (system_files 0) (system_files reads) (system_output 0) (system_output writes) left ended)
