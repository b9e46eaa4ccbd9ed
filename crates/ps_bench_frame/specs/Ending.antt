-- How a call of the program ends.
use Rattle.std.specs.Prelude.{◌≡◌, ℕ}
use Rattle.ps_bench_frame.specs.declared.ending.Status.{Status}
use Rattle.ps_bench_frame.specs.declared.ending.Status.TheVariants.{Done, Refused, Usage, BadInput, Failed}
use Rattle.ps_bench_frame.specs.declared.ending.Status.TheVariants.{ReadFault, WriteFault, Memory}
use Rattle.ps_bench_frame.specs.declared.ending.Input.{Input as InputOf}
use Rattle.ps_bench_frame.specs.declared.ending.Input.TheVariants.{Trace, TraceAt, Faults, Rules, Log, Other}
use Rattle.ps_bench_frame.specs.declared.ending.InputStop.{InputStop}
use Rattle.ps_bench_frame.specs.declared.ending.InputStop.TheVariants.{Refused as IsRefused, RulesRefused, LogRefused}
use Rattle.ps_bench_frame.specs.declared.ending.InputStop.TheVariants.{SumRefused, Unread}
use Rattle.ps_bench_frame.specs.declared.ending.InputStop.TheVariants.{OtherRefused, Unlike}
use Rattle.ps_bench_frame.specs.declared.ending.Stop.{Stop}
use Rattle.ps_bench_frame.specs.declared.ending.Stop.TheVariants.{App, Cases, UnreadApp, UnreadCases, Input}
use Rattle.ps_bench_frame.specs.declared.ending.Stop.TheVariants.{Unwritten, NoMemory}

-- each status has its number
abbrev pub exit_number : Status → ℕ
exit_number Done = 0
exit_number Refused = 1
exit_number Usage = 2
exit_number BadInput = 3
exit_number Failed = 4
exit_number ReadFault = 5
exit_number WriteFault = 6
exit_number Memory = 7

-- the status of a call that stops at what a run is made of
abbrev pub input_stop_status : InputStop → Status
input_stop_status (IsRefused input refusal) = BadInput
input_stop_status (RulesRefused refusal) = BadInput
input_stop_status (LogRefused refusal) = BadInput
input_stop_status (SumRefused refusal) = BadInput
input_stop_status (OtherRefused refusal) = Refused
input_stop_status Unlike = Refused
input_stop_status (Unread input) = ReadFault

-- the status of a call that stops before all is done
abbrev pub stop_status : Stop → Status
stop_status (App refusal) = Refused
stop_status (Cases place refusal) = BadInput
stop_status UnreadApp = ReadFault
stop_status (UnreadCases place) = ReadFault
stop_status (Input why) = input_stop_status why
stop_status Unwritten = WriteFault
stop_status NoMemory = Memory

-- a file cannot be read
abbrev pub IsUnread : Stop → Type 0
IsUnread stop = stop_status stop ≡ ReadFault

-- a call stops at what a run is made of, at a write that failed, or if memory runs out
abbrev pub IsOfRun : Stop → Type 0
IsOfRun (Input why) = Unit {0}
IsOfRun Unwritten = Unit {0}
IsOfRun NoMemory = Unit {0}
IsOfRun (App refusal) = ⊥
IsOfRun (Cases place refusal) = ⊥
IsOfRun UnreadApp = ⊥
IsOfRun (UnreadCases place) = ⊥

-- what a run is made of, where a trace is the one at this place of the words
abbrev pub input_at : (place : ℕ) → InputOf → InputOf
input_at place Trace = TraceAt place
input_at place (TraceAt other) = TraceAt place
input_at place Faults = Faults
input_at place Rules = Rules
input_at place Log = Log
input_at place Other = Other

-- a stop at what a run is made of, where a trace is the one at this place of the words
abbrev pub input_stop_at : (place : ℕ) → InputStop → InputStop
input_stop_at place (IsRefused input refusal) = IsRefused (input_at place input) refusal
input_stop_at place (RulesRefused refusal) = RulesRefused refusal
input_stop_at place (LogRefused refusal) = LogRefused refusal
input_stop_at place (SumRefused refusal) = SumRefused refusal
input_stop_at place (OtherRefused refusal) = OtherRefused refusal
input_stop_at place Unlike = Unlike
input_stop_at place (Unread input) = Unread (input_at place input)

-- a stop, where a case file or a trace is the one at this place of the words
abbrev pub stop_at : (place : ℕ) → Stop → Stop
stop_at place (Cases other refusal) = Cases place refusal
stop_at place (UnreadCases other) = UnreadCases place
stop_at place (Input why) = Input (input_stop_at place why)
stop_at place (App refusal) = App refusal
stop_at place UnreadApp = UnreadApp
stop_at place Unwritten = Unwritten
stop_at place NoMemory = NoMemory
