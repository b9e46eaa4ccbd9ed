-- A run of lines in which no fault strikes is what is asked of a trace with these lines.
use Rattle.std.proofs.Common.{◌≡◌, ◌∙◌, ◌∷◌, ◌++◌, [], ℕ, suc, Bool, false, List, None, length, refl, sym, ap, subst}
use Rattle.std.specs.Prelude.{◌||◌}
use Rattle.ps_lines.specs.Lines.{Line}
use Rattle.ps_model.specs.declared.channel.Fault.{Fault}
use Rattle.ps_model.specs.declared.channel.Verdict.{Verdict}
use Rattle.ps_model.specs.Meaning.{Item, Meaning, nothing, report, scan, restart}
use Rattle.ps_model.specs.Network.{Network, input_count, instance_count}
use Rattle.ps_model.specs.Scanning.{State}
use Rattle.ps_model.specs.Sound.{IsSound}
use Rattle.ps_model.specs.Typing.{Accepted}
use Rattle.ps_model.proofs.Runs.{one_run}
use Rattle.ps_report.specs.Lines.{report_text}
use Rattle.ps_runs.specs.Lines.{restart_line}
use Rattle.ps_runs.specs.Outcomes.{outcome_line, performed}
use Rattle.ps_runs.specs.Performing.{trips_with}
use Rattle.ps_runs.specs.Resting.{answer_lines, answered, any_trips}
use Rattle.ps_machine.specs.Items.{AreTimely}
use Rattle.ps_accepted.specs.Source.Reading.{stands_for}
use Rattle.ps_top.specs.Asking.{IsAnswer}
use Rattle.ps_top.specs.Program.{answer, end_line, end_status, fault, item_lines, region_sizes, run, run_named, told, trips_of, unless_refused}
use Rattle.ps_top.specs.Untripped.{AreHeld, HasFaults, Held, NoFaultNoTrip}
use Rattle.ps_trace.specs.Faults.{FaultList, faults_of}
use Rattle.ps_trace.specs.Header.{input_names}
use Rattle.ps_trace.specs.Scans.{End, Scans, header_from, scans_behind, scans_of, trace_lines}
use Rattle.ps_world.specs.Answers.{Answer as Answered, QuietRunsRelease, ReleaseAll, answers}
use Rattle.ps_world.specs.Orders.{of_scan, scan_events}
use Rattle.ps_world.specs.Steps.{after, world_step}
use Rattle.ps_world.specs.Whole.{IsSetupOf, Setup, machines_in}
use Rattle.ps_world.specs.Worlds.{Machines, Restart, World_state, world_0}
use Rattle.ps_bench_watch.specs.Streaming.{scans_in}
use Rattle.ps_bench_watch.specs.Fault.{whole_answer}
use Rattle.ps_bench_watch.specs.Living.{AreRun}

module _ (net : Network) (m : Machines) where
  -- the answers of a machine to items without faults
  abbrev given : ℕ → List Item → World_state → List Answered
  given number items x = answers m (length net.outputs) (instance_count net) [] number items x

  -- where every scan is released, its line is the report line of its state
  quiet_lines : (number : ℕ) (items : List Item) (x : World_state) (ws : List State) → ReleaseAll net (given number items x) ws →
      answer_lines net items (given number items x) ≡ item_lines net [] number false items ws
  quiet_lines number [] x ws all = refl
  quiet_lines number (restart ∷ items) x ws all = ap (λ (l : List ℕ). restart_line ++ l) (quiet_lines number items (world_step m Restart x) ws all)
  quiet_lines number (scan now ins ∷ items) x [] all = absurd all
  quiet_lines number (scan now ins ∷ items) x (w ∷ ws) all =
      let y = after m (scan_events m (of_scan number []) now ins x) x in
      (λ i. outcome_line net (performed now (all.0 i) (all.1 i)) ++ answer_lines net items (given (suc number) items y))
      ∙ ap (λ (l : List ℕ). report_text net now (report net w) ++ l) (quiet_lines (suc number) items y ws all.2)

  -- and none trips
  quiet_trips : (number : ℕ) (items : List Item) (x : World_state) (ws : List State) → ReleaseAll net (given number items x) ws →
      any_trips (given number items x) ≡ false
  quiet_trips number [] x ws all = refl
  quiet_trips number (restart ∷ items) x ws all = quiet_trips number items (world_step m Restart x) ws all
  quiet_trips number (scan now ins ∷ items) x [] all = absurd all
  quiet_trips number (scan now ins ∷ items) x (w ∷ ws) all =
      let y = after m (scan_events m (of_scan number []) now ins x) x in
      ap (λ (v : Verdict). trips_with v || any_trips (given (suc number) items y)) all.0 ∙ quiet_trips (suc number) items y ws all.2

module _ (net : Network) (sound : IsSound net) (quiet : Accepted net → (setup : Setup) → IsSetupOf net setup → QuietRunsRelease net (machines_in setup))
    (timely : (text : List ℕ) (net : Network) → AreTimely (input_count net) 0 (scans_of text net).items) (untripped : NoFaultNoTrip)
    (by_name : Bool) (bytes : List ℕ) (left : List Line) (end : End) (said : List ℕ) (trips : Bool) (are : AreRun by_name net bytes left end said trips)
    (held : Held) (app trace text : List ℕ) (is : AreHeld held app trace net text) (lines_are : trace_lines text ≡ are.done) where
  abbrev scans : Scans
  scans = scans_of text net

  abbrev machines : Machines
  machines = machines_in are.world.setup

  abbrev meaning : List State
  meaning = (one_run net sound nothing scans.items).0

  means : Meaning net scans.items meaning
  means = (one_run net sound nothing scans.items).1

  -- the scans of the trace are those of the lines that were run
  same : scans_in are.done net ≡ scans
  same = ap (λ (lines : List Line). scans_behind (header_from (input_names net) 1 lines)) (sym lines_are)

  released : ReleaseAll net (given net machines 1 scans.items (world_0 machines)) meaning
  released = quiet is.accepted.1 are.world.setup are.of_net.setup scans.items meaning (timely text net) means

  end_is : end ≡ scans.end
  end_is = sym are.ends ∙ ap (λ (s : Scans). s.end) same

  -- what the world answers to them
  answers_are : answered net [] 1 (scans_in are.done net).items are.world ≡ given net machines 1 scans.items (world_0 machines)
  answers_are =
      ap (λ (s : Scans). answered net [] 1 s.items are.world) same
      ∙ ap (λ (x : World_state). given net machines 1 scans.items x) are.of_net.beginning

  pub none_trips : trips ≡ false
  none_trips = are.trips_so ∙ ap any_trips answers_are ∙ quiet_trips net machines 1 scans.items (world_0 machines) meaning released

  -- told by report lines
  module _ (says : said ≡ answer_lines net (scans_in are.done net).items (answered net [] 1 (scans_in are.done net).items are.world)) where
    said_is : said ≡ item_lines net [] 1 false scans.items meaning
    said_is =
        says
        ∙ (λ i. answer_lines net (same i).items (answers_are i))
        ∙ quiet_lines net machines 1 scans.items (world_0 machines) meaning released

    answer_is : whole_answer said end ≡ told net (trips_of are.world.setup [] scans) scans meaning
    answer_is =
        (λ i. answer (said_is i ++ end_line (end_is i)) (end_status (end_is i) []))
        ∙ ap (λ tripped. told net tripped scans meaning) (sym (untripped is.source text net are.world.setup is.accepted are.of_net.setup))

    -- the trace is answered so, where no fault strikes
    named : IsAnswer (run_named net are.world.setup [] trace) held (whole_answer said end)
    named = (text, is.text_is, (meaning, means, answer_is))

    pub says_as_run : IsAnswer (run app trace) held (whole_answer said end)
    says_as_run = (is.source, is.source_is, (stands_for net, is.accepted, (are.world.setup, are.of_net.setup, named)))

    pub says_as_fault : (name : List ℕ) → HasFaults held name net are.world.setup [] → IsAnswer (fault app trace name) held (whole_answer said end)
    says_as_fault name has =
        let struck : IsAnswer (unless_refused (λ (list : List Fault). run_named net are.world.setup list trace) [] None) held (whole_answer said end) = named in
        let behind : IsAnswer (unless_refused (λ (list : List Fault). run_named net are.world.setup list trace) (faults_of has.text (region_sizes are.world.setup)).faults
        (faults_of has.text (region_sizes are.world.setup)).refusal) held (whole_answer said end) =
        subst (λ (l : FaultList Fault). IsAnswer (unless_refused (λ (list : List Fault). run_named net are.world.setup list trace) l.faults l.refusal) held (whole_answer said end))
        (sym has.faults_are) struck in (
          is.source,
          is.source_is,
          (stands_for net, is.accepted, (are.world.setup, are.of_net.setup, (has.text, has.text_is, behind))),
        )
