-- The numbers with which the program exits.
use Rattle.std.specs.Prelude.{ℕ}
use Rattle.std.specs.declared.io.ErrorKind.{ErrorKind}
use Rattle.std.specs.declared.io.ErrorKind.TheVariants.{OutOfMemory}
use Rattle.ps_top.specs.declared.Status.{Status}
use Rattle.ps_top.specs.declared.Status.TheVariants.{Done, Refused, Usage, BadInput, Tripped, ReadFault, WriteFault}
use Rattle.ps_top.specs.declared.Status.TheVariants.{Memory}

-- each status has its number
abbrev pub exit_number : Status → ℕ
exit_number Done = 0
exit_number Refused = 1
exit_number Usage = 2
exit_number BadInput = 3
exit_number Tripped = 4
exit_number ReadFault = 5
exit_number WriteFault = 6
exit_number Memory = 7

-- where there are no words: the number of running out of memory, or 8 where the system does not give them
abbrev pub number_without_words : ErrorKind → ℕ
number_without_words OutOfMemory = 7
number_without_words _ = 8
