use Rattle.std.proofs.Common.{◌≡◌, ◌≤◌, ◌+◌, ◌-◌, ℕ, List, IsTrue, Some}
use Rattle.ps_base.specs.declared.limits.TheConstants.{LARGEST_TRACE}
use Rattle.ps_model.specs.Network.{input_count}
use Rattle.ps_outside.specs.Outside.{CountsStay}
use Rattle.ps_trace.specs.Reading.{IsReadingTrace, file_of, input_count_of, items_left, last_of, place_of}
use Rattle.ps_runs.specs.Running.{Fits}
use Rattle.ps_runs.proofs.Doing.{Leads}
use Rattle.ps_runs.proofs.items.do_items.Given as goal

abbrev pub invariant-items : goal.invariant-items
invariant-items g l = record {
  fits : Fits (g.P.Performer.fits l.app) (g.T.Taker.fits l.app) l.app l.runner;
  due : g.P.Performer.earliest l.runner.performer ≤ last_of l.trace;
  inputs : input_count_of l.trace ≡ input_count l.app;
  name : file_of l.trace ≡ file_of l.initial.trace;
  reads : IsTrue (g.F.Files.tells l.initial.files) → (text : List ℕ) → g.F.Files.held l.initial.files (file_of l.initial.trace) ≡ Some text →
      IsReadingTrace l.initial.trace text → IsReadingTrace l.trace text;
  leads : IsTrue (g.F.Files.tells l.initial.files) → (text : List ℕ) → g.F.Files.held l.initial.files (file_of l.initial.trace) ≡ Some text →
      IsReadingTrace l.initial.trace text →
      Leads (g.P.Performer.performs l.app) (g.T.Taker.said l.app) (g.T.Taker.takes l.app)
      (last_of l.initial.trace) l.initial.runner.performer l.initial.runner.taker (items_left l.initial.trace text) (g.S.Sink.tells l.initial.out) (g.S.Sink.taken l.initial.out)
      (last_of l.trace) l.runner.performer l.runner.taker (items_left l.trace text) (g.S.Sink.taken l.out);
  all_read : CountsStay (g.F.Files.faults l.initial.files) (g.F.Files.faults l.files);
  kept : g.F.Files.held l.files ≡ g.F.Files.held l.initial.files;
  telling : g.F.Files.tells l.files ≡ g.F.Files.tells l.initial.files;
  all_written : g.S.Sink.faults l.out ≡ g.S.Sink.faults l.initial.out;
  still_telling : g.S.Sink.tells l.out ≡ g.S.Sink.tells l.initial.out;
}

abbrev pub decreases-items : goal.decreases-items
decreases-items g l = LARGEST_TRACE + 1 - place_of l.trace
