-- What `run` and `fault` tell of a trace, by what is held.
use Rattle.std.proofs.Common.{◌≡◌, ◌∙◌, ℕ, List, [], Option, Some, None, sym, ap, subst}
use Rattle.std.proofs.lemmas.Option.{same_Some}
use Rattle.ps_model.specs.declared.channel.Fault.{Fault}
use Rattle.ps_model.specs.Network.{Network}
use Rattle.ps_model.proofs.Runs.{one_run}
use Rattle.ps_model.specs.Meaning.{nothing}
use Rattle.ps_accepted.specs.Source.{Reading, IsAcceptedAs}
use Rattle.ps_accepted.specs.Source.Reading.{stands_for}
use Rattle.ps_accepted.proofs.Keeping.{resolved_sound}
use Rattle.ps_accepted.proofs.OneBreach.{one_acceptance}
use Rattle.ps_trace.specs.Faults.{FaultList, faults_of}
use Rattle.ps_trace.specs.Scans.{scans_of}
use Rattle.ps_world.specs.Whole.{Setup}
use Rattle.ps_top.specs.Asking.{Answer, Asking, IsAnswer}
use Rattle.ps_top.specs.Program.{with_application, run_named, run_quietly, run_struck, accepted, region_sizes, told, trips_of, unless_refused}
use Rattle.ps_top.specs.Untripped.{Held, AreHeld, HasFaults, TellsScans, NoFaultNoTrip, RunsTellAll, QuietFaultsTellAll, FaultsTellTrips}
use Rattle.ps_top.proofs.Applied.{with_counts}
use Rattle.ps_top.proofs.Quiet.{no_trips}
use Rattle.ps_top.proofs.Setups.{one_setup}
use Rattle.ps_top.proofs.Timely.{scans_timely}

pub no_fault_no_trip : NoFaultNoTrip
no_fault_no_trip source text net setup is built =
    let sound = resolved_sound source net is.0 in
    let run = one_run net sound nothing (scans_of text net).items in
    no_trips net sound is.1 setup built (scans_of text net) (scans_timely text net) run.0 run.1

module _ (held : Held) (app trace : List ℕ) (net : Network) (text : List ℕ) (said : Answer) (is : AreHeld held app trace net text) where
  -- what is said after the application that is held
  behind_app : (next : Network → Asking) → IsAnswer (accepted app next) held said → IsAnswer (next net) held said
  behind_app next right =
      let same : right.0 ≡ is.source = same_Some right.0 is.source (sym right.1 ∙ is.source_is) in
      let reading : right.2.0 ≡ stands_for net = one_acceptance is.source right.2.0 (stands_for net) (subst (λ s. IsAcceptedAs s right.2.0) same right.2.1) is.accepted in
      subst (λ (r : Reading). IsAnswer (with_application (with_counts next) r) held said) reading right.2.2

  -- what is said of the trace that is held
  behind_trace : (setup : Setup) (faults : List Fault) → IsAnswer (run_named net setup faults trace) held said → TellsScans net (trips_of setup faults (scans_of text net)) (scans_of text net) said
  behind_trace setup faults right =
      let same : right.0 ≡ text = same_Some right.0 text (sym right.1 ∙ is.text_is) in
      subst (λ t. TellsScans net (trips_of setup faults (scans_of t net)) (scans_of t net) said) same
      (record { states = right.2.0; meaning = right.2.1; lines = right.2.2 })

  pub run_tells : IsAnswer (accepted app (run_quietly trace)) held said → TellsScans net [] (scans_of text net) said
  run_tells right =
      let found = behind_app (run_quietly trace) right in
      subst (λ tripped. TellsScans net tripped (scans_of text net) said) (no_fault_no_trip is.source text net found.0 is.accepted found.1)
      (behind_trace found.0 [] found.2)

  pub fault_tells : (name : List ℕ) (setup : Setup) (faults : List Fault) → HasFaults held name net setup faults → IsAnswer (accepted app (run_struck trace name)) held said →
      TellsScans net (trips_of setup faults (scans_of text net)) (scans_of text net) said
  fault_tells name setup faults has right =
      let found = behind_app (run_struck trace name) right in
      let same : found.0 ≡ setup = one_setup net found.0 setup found.1 has.setup_is in
      let file : found.2.0 ≡ has.text = same_Some found.2.0 has.text (sym found.2.1 ∙ has.text_is) in
      let list : faults_of found.2.0 (region_sizes found.0) ≡ record { faults = faults; refusal = None } = (λ i. faults_of (file i) (region_sizes (same i))) ∙ has.faults_are in
      let struck : IsAnswer (run_named net found.0 faults trace) held said =
      subst (λ (l : FaultList Fault). IsAnswer (unless_refused (λ struck. run_named net found.0 struck trace) l.faults l.refusal) held said) list found.2.2 in
      behind_trace setup faults (subst (λ s. IsAnswer (run_named net s faults trace) held said) same struck)

pub runs_tell_all : RunsTellAll
runs_tell_all held app trace net text said is right = run_tells held app trace net text said is right

pub faults_tell_trips : FaultsTellTrips
faults_tell_trips held app trace name net setup faults text said is has right = fault_tells held app trace net text said is name setup faults has right

pub quiet_faults_tell_all : QuietFaultsTellAll
quiet_faults_tell_all held app trace name net setup text said is has right =
    subst (λ tripped. TellsScans net tripped (scans_of text net) said) (no_fault_no_trip is.source text net setup is.accepted has.setup_is)
    (fault_tells held app trace net text said is name setup [] has right)
