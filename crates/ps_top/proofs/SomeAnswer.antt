-- The program has an answer wherever all names that it asks for are held.
use Rattle.std.proofs.Common.{ℕ, Bool, true, false, List, [], Option, Some, None, IsSome, map, refl, inl, inr}
use Rattle.ps_model.specs.Meaning.{Meaning, nothing, report}
use Rattle.ps_model.specs.Network.{Network}
use Rattle.ps_model.specs.Scanning.{State}
use Rattle.ps_model.specs.Sound.{IsSound}
use Rattle.ps_model.proofs.Runs.{one_run}
use Rattle.ps_accepted.specs.Demanding.{IsDemandableAs}
use Rattle.ps_accepted.specs.Source.{Reading, Resolves, IsResolvedAs, IsAcceptedAs}
use Rattle.ps_accepted.specs.Source.Reading.{stands_for, is_refused}
use Rattle.ps_accepted.proofs.Demandable.{some_demanding}
use Rattle.ps_accepted.proofs.Sourced.{some_of}
use Rattle.ps_model.specs.declared.channel.Fault.{Fault}
use Rattle.ps_base.specs.declared.failing.Refusal.{Refusal}
use Rattle.ps_trace.specs.Faults.{faults_of}
use Rattle.ps_trace.specs.Scans.{Scans, scans_of}
use Rattle.ps_load.specs.Texts.{app_text, trace_text}
use Rattle.ps_vote.specs.declared.faults.VoteFault.{VoteFault}
use Rattle.ps_vote.specs.Orders.{course}
use Rattle.ps_vote.specs.Whole as seats
use Rattle.ps_world.specs.Whole.{Setup, IsSetupOf}
use Rattle.ps_words.specs.Command.{Command, command_of}
use Rattle.ps_words.specs.Command.Command.{Run, Fault as FaultWords, Check, Cert, Verify, Image, Load, Demand, Vote, Heal, NotTaken}
use Rattle.ps_top.specs.Asking.{Answer, Asking, IsAnswer, AsksFor}
use Rattle.ps_top.specs.Asking.Asking.{Says, Asks, Finds, Leaves}
use Rattle.ps_top.specs.Program.{Ruling, Judges, LeavesAccepted, verdict, leaves_text, checked, with_application, accepted_source, accepted_from, accepted, summary, sum_scans, sum_trace, load, answer, image_lines, imaged, region_sizes, trips_of, unless_refused, with_faults, run_quietly, run_struck, answer_scans, run_named, verify_named, verify, demanded, demand, seat_faults_of, seat_sizes, told_votes, vote_scans, vote_named, with_seat_faults, vote_struck, said, told, text}
use Rattle.ps_top.specs.Program.Ruling.{derives, objects}
use Rattle.ps_top.specs.declared.Status.TheVariants.{Done}
use Rattle.ps_accepted.proofs.Keeping.{resolved_sound}
use Rattle.ps_top.proofs.Applied.{with_counts}
use Rattle.ps_top.proofs.Setups.{some_setup, some_seat_setup}

-- where all names that are asked for are held there is an answer
abbrev HasAnswer : Asking → (List ℕ → Option (List ℕ)) → Type 0
HasAnswer asking held = ((name : List ℕ) → AsksFor asking held name → IsSome (held name)) → (a : Answer) × IsAnswer asking held a

module _ (held : List ℕ → Option (List ℕ)) where
  says_some : (s : Answer) → HasAnswer (Says s) held
  says_some s = λ all. (s, refl)

  asks_some : (name : List ℕ) (next : List ℕ → Asking) → ((t : List ℕ) → HasAnswer (next t) held) → HasAnswer (Asks name next) held
  asks_some name next each = λ all.
      let t = some_of (held name) (all name (inl refl)) in
      let rest = each t.0 (λ other asks. all other (inr (t.0, t.1, asks))) in
      (rest.0, (t.0, t.1, rest.1))

  finds_some : (X : Type 0) (Fits : X → Type 0) (next : X → Asking) (x : X) → Fits x → HasAnswer (next x) held → HasAnswer (Finds X Fits next) held
  finds_some X Fits next x fits later = λ all. let rest = later (λ other asks. all other (x, fits, asks)) in (rest.0, (x, fits, rest.1))

  meaning_some : (net : Network) → IsSound net → (scans : Scans) (told_of : List State → Answer) → HasAnswer (Finds (List State) (Meaning net scans.items) (λ ws. Says (told_of ws))) held
  meaning_some net sound scans told_of =
      let run = one_run net sound nothing scans.items in finds_some (List State) (Meaning net scans.items) (λ ws. Says (told_of ws)) run.0 run.1 (says_some (told_of run.0))

  scans_some : (net : Network) → IsSound net → (setup : Setup) (faults : List Fault) (scans : Scans) → HasAnswer (answer_scans net setup faults scans) held
  scans_some net sound setup faults scans = meaning_some net sound scans (told net (trips_of setup faults scans) scans)

  trace_some : (net : Network) → IsSound net → (setup : Setup) (faults : List Fault) (trace : List ℕ) → HasAnswer (run_named net setup faults trace) held
  trace_some net sound setup faults trace = asks_some trace (λ t. answer_scans net setup faults (scans_of t net)) (λ t. scans_some net sound setup faults (scans_of t net))

  setup_some : (net : Network) (next : Setup → Asking) → ((setup : Setup) → HasAnswer (next setup) held) → HasAnswer (Finds Setup (IsSetupOf net) next) held
  setup_some net next each = let setup = some_setup net in finds_some Setup (IsSetupOf net) next setup.0 setup.1 (each setup.0)

  quiet_some : (net : Network) → IsSound net → (trace : List ℕ) → HasAnswer (run_quietly trace net) held
  quiet_some net sound trace = setup_some net (λ setup. run_named net setup [] trace) (λ setup. trace_some net sound setup [] trace)

  unless_some : {F : Type 0} (next : List F → Asking) (faults : List F) (refusal : Option Refusal) → HasAnswer (next faults) held → HasAnswer (unless_refused next faults refusal) held
  unless_some next faults None h = h
  unless_some next faults (Some refusal) h = says_some _

  struck_some : (net : Network) → IsSound net → (trace faults : List ℕ) → HasAnswer (run_struck trace faults net) held
  struck_some net sound trace faults =
      setup_some net (λ setup. with_faults setup faults (λ list. run_named net setup list trace))
      (λ setup. asks_some faults (λ t. let list = faults_of t (region_sizes setup) in unless_refused (λ struck. run_named net setup struck trace) list.faults list.refusal)
      (λ t. let list = faults_of t (region_sizes setup) in
      unless_some (λ struck. run_named net setup struck trace) list.faults list.refusal (trace_some net sound setup list.faults trace)))

  vote_trace_some : (heals : Bool) (net : Network) → IsSound net → (setup : seats.Setup) (faults : List VoteFault) (trace : List ℕ) → HasAnswer (vote_named heals net setup faults trace) held
  vote_trace_some heals net sound setup faults trace =
      asks_some trace (λ t. vote_scans heals net setup faults (scans_of t net))
      (λ t. let scans = scans_of t net in meaning_some net sound scans (told_votes net setup (course heals (seats.machines_in setup) scans.items faults) scans.end))

  vote_struck_some : (heals : Bool) (net : Network) → IsSound net → (trace faults : List ℕ) → HasAnswer (vote_struck heals trace faults net) held
  vote_struck_some heals net sound trace faults =
      let found = some_seat_setup net in
      let setup = found.0 in
      finds_some seats.Setup (seats.IsSetupOf net) (λ s. with_seat_faults heals s faults (λ list. vote_named heals net s list trace)) setup found.1
      (asks_some faults (λ t. let list = seat_faults_of heals t (seat_sizes setup) in unless_refused (λ struck. vote_named heals net setup struck trace) list.faults list.refusal)
      (λ t. let list = seat_faults_of heals t (seat_sizes setup) in
      unless_some (λ struck. vote_named heals net setup struck trace) list.faults list.refusal (vote_trace_some heals net sound setup list.faults trace)))

  module _ (accepts : (source : List ℕ) → (reading : Reading) × IsAcceptedAs source reading) (resolves : (source : List ℕ) → (reading : Reading) × IsResolvedAs source reading)
      (judges : (net : Network) (certificate : List ℕ) → (judged : Ruling) × Judges net certificate judged) where
    source_some : (s : List ℕ) (next : Network → Asking) → ((net : Network) → Resolves s net → HasAnswer (next net) held) → HasAnswer (accepted_source s next) held
    source_some s next each = finds_some Reading (IsAcceptedAs s) (with_application (with_counts next)) (accepts s).0 (accepts s).1 (go (accepts s).0 (accepts s).1)
      where
        go : (r : Reading) → IsAcceptedAs s r → HasAnswer (with_application (with_counts next) r) held
        go (stands_for net) f = each net f.0
        go (is_refused r) f = says_some _

    from_some : (app : List ℕ) (next : List ℕ → Network → Asking) → ((s : List ℕ) (net : Network) → Resolves s net → HasAnswer (next s net) held) → HasAnswer (accepted_from app next) held
    from_some app next each = asks_some app (λ s. Leaves (leaves_text s) (accepted_source s (next s))) (λ s. source_some s (next s) (each s))

    accepted_some : (app : List ℕ) (next : Network → Asking) → ((s : List ℕ) (net : Network) → Resolves s net → HasAnswer (next net) held) → HasAnswer (accepted app next) held
    accepted_some app next each = from_some app (λ s. next) each

    load_some : (n : ℕ) → HasAnswer (load n) held
    load_some n =
        source_some app_text (sum_trace n)
        (λ net r. setup_some net (λ setup. sum_scans n net setup (scans_of (trace_text n) net))
        (λ setup. let scans = scans_of (trace_text n) net in meaning_some net (resolved_sound app_text net r) scans (λ ws. summary n scans.end (map (report net) ws))))

    verdict_some : (net : Network) (j : Ruling) → HasAnswer (verdict net j) held
    verdict_some net (derives lines) = says_some _
    verdict_some net (objects r) = says_some _

    verify_some : (app c : List ℕ) → HasAnswer (verify app c) held
    verify_some app c =
        asks_some app (λ s. Leaves (leaves_text s) (Finds Reading (IsResolvedAs s) (with_application (λ net. verify_named net c))))
        (λ s. finds_some Reading (IsResolvedAs s) (with_application (λ net. verify_named net c)) (resolves s).0 (resolves s).1 (go s (resolves s).0))
      where
        go : (s : List ℕ) (r : Reading) → HasAnswer (with_application (λ net. verify_named net c) r) held
        go s (stands_for net) =
            asks_some c (λ t. Finds Ruling (Judges net t) (verdict net))
            (λ t. finds_some Ruling (Judges net t) (verdict net) (judges net t).0 (judges net t).1 (verdict_some net (judges net t).0))
        go s (is_refused r) = says_some _

    demand_some : (app : List ℕ) → HasAnswer (demand app) held
    demand_some app =
        asks_some app (λ s. Leaves (LeavesAccepted s) (Finds Reading (IsDemandableAs s) (with_application demanded)))
        (λ s. let d = some_demanding s (accepts s).0 (accepts s).1 in finds_some Reading (IsDemandableAs s) (with_application demanded) d.0 d.1 (go d.0))
      where
        go : (r : Reading) → HasAnswer (with_application demanded r) held
        go (stands_for net) = says_some _
        go (is_refused r) = says_some _

    said_some : (c : Command) → HasAnswer (said c) held
    said_some (Run app trace) = accepted_some app (run_quietly trace) (λ s net r. quiet_some net (resolved_sound s net r) trace)
    said_some (FaultWords app trace faults) = accepted_some app (run_struck trace faults) (λ s net r. struck_some net (resolved_sound s net r) trace faults)
    said_some (Check app) = from_some app checked (λ s net r. says_some _)
    said_some (Cert app) = accepted_some app _ (λ s net r. says_some _)
    said_some (Verify app c) = verify_some app c
    said_some (Image app) = accepted_some app imaged (λ s net r. setup_some net (λ setup. Says (answer (image_lines setup) Done)) (λ setup. says_some _))
    said_some (Load number) = load_some number
    said_some (Demand app) = demand_some app
    said_some (Vote app trace faults) = accepted_some app (vote_struck false trace faults) (λ s net r. vote_struck_some false net (resolved_sound s net r) trace faults)
    said_some (Heal app trace faults) = accepted_some app (vote_struck true trace faults) (λ s net r. vote_struck_some true net (resolved_sound s net r) trace faults)
    said_some NotTaken = says_some _

pub some_answer : (words : List (List ℕ)) (held : List ℕ → Option (List ℕ)) → ((source : List ℕ) → (reading : Reading) × IsAcceptedAs source reading) →
    ((source : List ℕ) → (reading : Reading) × IsResolvedAs source reading) → ((net : Network) (certificate : List ℕ) → (judged : Ruling) × Judges net certificate judged) →
    ((name : List ℕ) → AsksFor (text words) held name → IsSome (held name)) → (a : Answer) × IsAnswer (text words) held a
some_answer words held accepts resolves judges all = said_some held accepts resolves judges (command_of words) all
