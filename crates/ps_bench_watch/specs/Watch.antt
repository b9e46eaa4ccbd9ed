-- That what `live` writes of lines by name is what `watch` writes of a trace with the same lines, where no names are given
-- to it.
use Rattle.std.specs.Prelude.{◌≡◌, [], ◌++◌, ℕ, Bool, true, List, Result, Ok, Err}
use Rattle.ps_bench_frame.specs.declared.ending.Input.TheVariants.{Trace}
use Rattle.ps_bench_frame.specs.declared.ending.InputStop.TheVariants.{Refused}
use Rattle.ps_bench_frame.specs.declared.ending.Stop.{Stop}
use Rattle.ps_bench_frame.specs.declared.ending.Stop.TheVariants.{Input}
use Rattle.ps_bench_words.specs.declared.asking.Layout.TheVariants.{Text}
use Rattle.ps_lines.specs.Lines.{Line}
use Rattle.ps_model.specs.Network.{Network}
use Rattle.ps_top.specs.Program.{end_line}
use Rattle.ps_trace.specs.Scans.{End, trace_lines}
use Rattle.ps_trace.specs.Scans.End.{whole, refused}
use Rattle.ps_bench_watch.specs.Asking.{default_in, text_in}
use Rattle.ps_bench_watch.specs.Showing.{ComesOf, Run}
use Rattle.ps_world.specs.Whole.{Setup}
use Rattle.ps_bench_watch.specs.Living.{AreRun}

-- what `watch` shows of a run in this world where neither names nor faults are given
abbrev pub watched_by_default : Network → Setup → Run
watched_by_default net setup = record { setup = setup; names = default_in net Text; faults = [] }

-- how `watch` ends where a trace ends so
abbrev pub watch_ended : End → Result (Unit {0}) Stop
watch_ended whole = Ok tt
watch_ended (refused refusal) = Err (Input (Refused Trace refusal))

-- Of the first lines of a stream was said, by name, what comes of `watch` where it shows a trace with just these lines;
-- and after it the line of the refusal, where the last one is refused.
abbrev pub SaysAsWatch : Network → Type 0
SaysAsWatch net =
    (bytes : List ℕ) (left : List Line) (end : End) (said : List ℕ) (trips : Bool)
    (are : AreRun true net bytes left end said trips) (text before : List ℕ) → trace_lines text ≡ are.done →
    ComesOf net (text_in net Text (watched_by_default net are.world.setup)) text true before
    (before ++ said ++ end_line end) (watch_ended end)
