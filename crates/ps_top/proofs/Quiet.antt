-- A run without faults never trips, and three seats never do.
use Rattle.std.proofs.Common.{◌≡◌, ◌∙◌, ◌∷◌, ℕ, suc, Bool, List, [], Option, Some, None, length, ap, sym, refl}
use Rattle.ps_base.specs.declared.failing.Refusal.{Refusal}
use Rattle.ps_model.specs.declared.channel.Verdict.{Verdict}
use Rattle.ps_model.specs.Budgets.{turns_a, turns_b}
use Rattle.ps_model.specs.Network.{Network, input_count, instance_count}
use Rattle.ps_model.specs.Scanning.{State}
use Rattle.ps_model.specs.Meaning.{Item, Meaning}
use Rattle.ps_model.specs.Meaning.Item.{scan, restart}
use Rattle.ps_model.specs.Sound.{IsSound}
use Rattle.ps_model.specs.Typing.{Accepted}
use Rattle.ps_machine.proofs.Phases.{exactly_keeps}
use Rattle.ps_eqgen.proofs.Scanning as equation
use Rattle.ps_eqvm.specs.Channel.{machine_b}
use Rattle.ps_eqvm.specs.Code.{code_b}
use Rattle.ps_eqvm.specs.Stands.{StandsB}
use Rattle.ps_machine.specs.Items.{AreTimely}
use Rattle.ps_accepted.specs.Source.{Reading, IsAcceptedAs}
use Rattle.ps_accepted.specs.Source.Reading.{stands_for, is_refused}
use Rattle.ps_stackgen.proofs.Scanning as stack
use Rattle.ps_stackvm.specs.Channel.{machine_a}
use Rattle.ps_stackvm.specs.Code.{code_a}
use Rattle.ps_stackvm.specs.Stands.{StandsA}
use Rattle.ps_trace.specs.Scans.{Scans, End, scans_of}
use Rattle.ps_trace.specs.Scans.End.{whole, refused}
use Rattle.ps_world.specs.Worlds.{Machines, World_state, Restart, world_0}
use Rattle.ps_world.specs.Steps.{world_step, after}
use Rattle.ps_world.specs.Orders.{of_scan, scan_events, verdicts, tripped_from}
use Rattle.ps_world.specs.Answers.{answers, ReleaseAll, QuietRunsRelease}
use Rattle.ps_world.specs.Whole.{Setup, machines_in, IsSetupOf}
use Rattle.ps_world.proofs.Built.{keeps_a, keeps_b, sized_for_a, sized_for_b}
use Rattle.ps_world.proofs.Run.{quiet_runs_release}
use Rattle.ps_top.specs.Asking.{Answer, IsAnswer}
use Rattle.ps_vote.specs.declared.faults.VoteFault.{VoteFault}
use Rattle.ps_vote.specs.Orders.{course}
use Rattle.ps_vote.specs.Whole as seats
use Rattle.ps_top.specs.Program.{with_application, run, run_quietly, end_status, trips_of, unless_refused, seat_faults_of, seat_sizes, vote_named, vote_struck, voted}
use Rattle.ps_runs.specs.Seats.{run_end}
use Rattle.ps_top.specs.declared.Status.TheVariants.{Tripped}
use Rattle.ps_accepted.proofs.Keeping.{resolved_sound}
use Rattle.ps_top.proofs.Applied.{with_counts}
use Rattle.ps_top.proofs.Timely.{scans_timely}

-- where every scan is released none trips
none_trips : (net : Network) (m : Machines) (number : ℕ) (items : List Item) (x : World_state) (ws : List State) →
    ReleaseAll net (answers m (length net.outputs) (instance_count net) [] number items x) ws → tripped_from number (verdicts m [] number items x) ≡ []
none_trips net m number [] x ws all = refl
none_trips net m number (restart ∷ items) x ws all = none_trips net m number items (world_step m Restart x) ws all
none_trips net m number (scan now ins ∷ items) x [] all = absurd all
none_trips net m number (scan now ins ∷ items) x (w ∷ ws) all =
    let y = after m (scan_events m (of_scan number []) now ins x) x in
    ap (λ (v : Verdict). tripped_from number (v ∷ verdicts m [] (suc number) items y)) all.0 ∙ none_trips net m (suc number) items y ws all.2

-- the channels of an accepted application release every scan that no fault strikes
all_released : (net : Network) → IsSound net → Accepted net → (setup : Setup) → IsSetupOf net setup → QuietRunsRelease net (machines_in setup)
all_released net sound accepted setup built =
    quiet_runs_release net (machines_in setup) (StandsA net) (StandsB net)
    (keeps_a net setup built (λ sizes are. exactly_keeps net (machine_a sizes (code_a net) (turns_a net)) (StandsA net) (stack.keeps_exactly net sound accepted sizes are)))
    (keeps_b net setup built (λ sizes are. exactly_keeps net (machine_b sizes (code_b net) (turns_b net)) (StandsB net) (equation.keeps_exactly net sound accepted sizes are)))
    (sized_for_a net setup built) (sized_for_b net setup built)

pub no_trips : (net : Network) → IsSound net → Accepted net → (setup : Setup) → IsSetupOf net setup → (scans : Scans) → AreTimely (input_count net) 0 scans.items →
    (ws : List State) → Meaning net scans.items ws → trips_of setup [] scans ≡ []
no_trips net sound accepted setup built scans timely ws means =
    none_trips net (machines_in setup) 1 scans.items (world_0 (machines_in setup)) ws (all_released net sound accepted setup built scans.items ws timely means)

not_tripped_at : (end : End) → ¬ (end_status end [] ≡ Tripped)
not_tripped_at whole is = cc
not_tripped_at (refused refusal) is = cc

-- no answer of `run` is Tripped
pub never_tripped : (app trace : List ℕ) (held : List ℕ → Option (List ℕ)) (said : Answer) → IsAnswer (run app trace) held said → ¬ (said.status ≡ Tripped)
never_tripped app trace held said right = go right.2.0 right.2.1 right.2.2
  where
    go : (reading : Reading) → IsAcceptedAs right.0 reading → IsAnswer (with_application (with_counts (run_quietly trace)) reading) held said → ¬ (said.status ≡ Tripped)
    go (is_refused r) f is tripped = let both = sym (ap (λ (a : Answer). a.status) is) ∙ tripped in cc
    go (stands_for net) f found tripped =
        let text = found.2.0 in
        let meant = found.2.2 in
        let scans = scans_of text net in
        let none = no_trips net (resolved_sound right.0 net f.0) f.1 found.0 found.1 scans (scans_timely text net) meant.0 meant.1 in
        not_tripped_at scans.end (ap (end_status scans.end) (sym none) ∙ sym (ap (λ (a : Answer). a.status) meant.2) ∙ tripped)

-- no answer of `vote` or `heal` is Tripped
pub votes_never_trip : (heals : Bool) (app trace faults : List ℕ) (held : List ℕ → Option (List ℕ)) (said : Answer) → IsAnswer (voted heals app trace faults) held said → ¬ (said.status ≡ Tripped)
votes_never_trip heals app trace faults held said right = go right.2.0 right.2.2
  where
    go_on : (net : Network) (setup : seats.Setup) (struck : List VoteFault) (refusal : Option Refusal) →
        IsAnswer (unless_refused (λ list. vote_named heals net setup list trace) struck refusal) held said → ¬ (said.status ≡ Tripped)
    go_on net setup struck (Some r) is tripped = let both = sym (ap (λ (a : Answer). a.status) is) ∙ tripped in cc
    go_on net setup struck None found tripped =
        let scans = scans_of found.0 net in
        not_tripped_at (run_end (course heals (seats.machines_in setup) scans.items struck).refused scans.end) (sym (ap (λ (a : Answer). a.status) found.2.2) ∙ tripped)

    go : (reading : Reading) → IsAnswer (with_application (with_counts (vote_struck heals trace faults)) reading) held said → ¬ (said.status ≡ Tripped)
    go (is_refused r) is tripped = let both = sym (ap (λ (a : Answer). a.status) is) ∙ tripped in cc
    go (stands_for net) found tripped =
        let list = seat_faults_of heals found.2.0 (seat_sizes found.0) in go_on net found.0 list.faults list.refusal found.2.2 tripped
