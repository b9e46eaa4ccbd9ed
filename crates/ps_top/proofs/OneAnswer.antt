-- The program has one answer alone, and none where a name that it asks for is not held.
use Rattle.std.proofs.Common.{◌≡◌, ◌∙◌, ℕ, Bool, true, false, List, [], Option, Some, None, map, sym, ap, subst, ⊎_elim}
use Rattle.std.proofs.lemmas.Option.{same_Some}
use Rattle.ps_model.specs.Network.{Network}
use Rattle.ps_model.specs.Sound.{IsSound}
use Rattle.ps_model.specs.Scanning.{State}
use Rattle.ps_model.specs.Meaning.{Meaning, nothing, report}
use Rattle.ps_model.proofs.Runs.{one_run}
use Rattle.ps_flow.specs.Derivation.{certificate}
use Rattle.ps_model.specs.declared.channel.Fault.{Fault}
use Rattle.ps_base.specs.declared.failing.Refusal.{Refusal}
use Rattle.ps_trace.specs.Faults.{faults_of}
use Rattle.ps_trace.specs.Scans.{Scans, scans_of}
use Rattle.ps_load.specs.Texts.{app_text, trace_text}
use Rattle.ps_vote.specs.declared.faults.VoteFault.{VoteFault}
use Rattle.ps_vote.specs.Orders.{course}
use Rattle.ps_vote.specs.Whole as seats
use Rattle.ps_world.specs.Whole.{Setup, IsSetupOf}
use Rattle.ps_words.specs.Command.{Command, command_of}
use Rattle.ps_words.specs.Command.Command.{Run, Fault as FaultWords, Check, Cert, Verify, Image, Load, Demand, Vote, Heal, NotTaken}
use Rattle.ps_top.specs.Asking.{Answer, Asking, IsAnswer, AsksFor, Worked}
use Rattle.ps_top.specs.Asking.Asking.{Says, Asks, Finds, Leaves}
use Rattle.ps_top.specs.Program.{Ruling, Judges, LeavesAccepted, verdict, leaves_app, leaves_checked, leaves_text, checked, with_application, accepted_source, accepted_from, accepted, summary, sum_scans, sum_trace, load, leaves_world, answer, image_lines, imaged, region_sizes, trips_of, unless_refused, with_faults, run_quietly, run_struck, answer_scans, run_named, verify_named, verify, demanded, demand, seat_faults_of, seat_sizes, told_votes, leaves_votes, vote_scans, vote_named, with_seat_faults, vote_struck, said, told, text}
use Rattle.ps_top.specs.Program.Ruling.{derives, objects}
use Rattle.ps_accepted.specs.Demanding.{IsDemandableAs}
use Rattle.ps_accepted.specs.Source.{Reading, Resolves, IsResolvedAs, IsAcceptedAs, counts}
use Rattle.ps_top.specs.declared.Status.TheVariants.{Done}
use Rattle.ps_accepted.specs.Source.Reading.{stands_for, is_refused}
use Rattle.ps_accepted.proofs.Demandable.{one_demanding}
use Rattle.ps_accepted.proofs.Keeping.{resolved_sound}
use Rattle.ps_accepted.proofs.OneReading.{one_resolution}
use Rattle.ps_accepted.proofs.OneBreach.{one_acceptance}
use Rattle.ps_top.proofs.Applied.{with_counts}
use Rattle.ps_top.proofs.OneJudgement.{one_judgement}
use Rattle.ps_top.proofs.Setups.{one_setup, one_seat_setup}

-- What is asked leaves no choice: it has one answer alone, and none where a name that it asks for is not held.
record IsDetermined (asking : Asking) (held : List ℕ → Option (List ℕ)) : Type 0 where
  one : (a b : Answer) → IsAnswer asking held a → IsAnswer asking held b → a ≡ b
  none : (name : List ℕ) → AsksFor asking held name → held name ≡ None → (a : Answer) → IsAnswer asking held a → ⊥

module _ (held : List ℕ → Option (List ℕ)) where
  says_determined : (s : Answer) → IsDetermined (Says s) held
  says_determined s = record { one = λ a b x y. x ∙ sym y; none = λ name asks missing a x. asks }

  asks_determined : (name : List ℕ) (next : List ℕ → Asking) → ((t : List ℕ) → IsDetermined (next t) held) → IsDetermined (Asks name next) held
  asks_determined name next each = record {
    one = λ a b x y. (each x.0).one a b x.2 (subst (λ (t : List ℕ). IsAnswer (next t) held b) (same_Some y.0 x.0 (sym y.1 ∙ x.1)) y.2);
    none = λ other asks missing a x. ⊎_elim
        (λ same. let both : None ≡ Some x.0 = sym missing ∙ ap held same ∙ x.1 in cc)
        (λ later. (each later.0).none other later.2 missing a (subst (λ (t : List ℕ). IsAnswer (next t) held a) (same_Some x.0 later.0 (sym x.1 ∙ later.1)) x.2)) asks;
  }

  finds_determined : (X : Type 0) (Fits : X → Type 0) (next : X → Asking) → ((x y : X) → Fits x → Fits y → x ≡ y) → ((x : X) → Fits x → IsDetermined (next x) held) →
      IsDetermined (Finds X Fits next) held
  finds_determined X Fits next only each = record {
    one = λ a b x y. (each x.0 x.1).one a b x.2 (subst (λ (z : X). IsAnswer (next z) held b) (only y.0 x.0 y.1 x.1) y.2);
    none = λ other asks missing a x. (each asks.0 asks.1).none other asks.2 missing a (subst (λ (z : X). IsAnswer (next z) held a) (only x.0 asks.0 x.1 asks.1) x.2);
  }

  leaves_determined : (Change : Worked → Worked → Type 0) (next : Asking) → IsDetermined next held → IsDetermined (Leaves Change next) held
  leaves_determined Change next d = record { one = d.one; none = d.none }

module _ (held : List ℕ → Option (List ℕ)) where
  -- what is said of the states that scans mean
  meaning_determined : (net : Network) → IsSound net → (scans : Scans) (told_of : List State → Answer) → IsDetermined (Finds (List State) (Meaning net scans.items) (λ ws. Says (told_of ws))) held
  meaning_determined net sound scans told_of =
      finds_determined held (List State) (Meaning net scans.items) (λ ws. Says (told_of ws))
      (λ x y p q. let only = (one_run net sound nothing scans.items).2 in only x p ∙ sym (only y q)) (λ ws runs. says_determined held (told_of ws))

  scans_determined : (net : Network) → IsSound net → (setup : Setup) (faults : List Fault) (scans : Scans) → IsDetermined (answer_scans net setup faults scans) held
  scans_determined net sound setup faults scans =
      leaves_determined held (leaves_world setup faults scans) (Finds (List State) (Meaning net scans.items) (λ ws. Says (told net (trips_of setup faults scans) scans ws)))
      (meaning_determined net sound scans (told net (trips_of setup faults scans) scans))

  sums_determined : (n : ℕ) (net : Network) → IsSound net → (setup : Setup) (scans : Scans) → IsDetermined (sum_scans n net setup scans) held
  sums_determined n net sound setup scans =
      leaves_determined held (leaves_world setup [] scans) (Finds (List State) (Meaning net scans.items) (λ ws. Says (summary n scans.end (map (report net) ws))))
      (meaning_determined net sound scans (λ ws. summary n scans.end (map (report net) ws)))

  trace_determined : (net : Network) → IsSound net → (setup : Setup) (faults : List Fault) (trace : List ℕ) → IsDetermined (run_named net setup faults trace) held
  trace_determined net sound setup faults trace =
      asks_determined held trace (λ t. answer_scans net setup faults (scans_of t net)) (λ t. scans_determined net sound setup faults (scans_of t net))

  setup_determined : (net : Network) (next : Setup → Asking) → ((setup : Setup) → IsDetermined (next setup) held) → IsDetermined (Finds Setup (IsSetupOf net) next) held
  setup_determined net next each = finds_determined held Setup (IsSetupOf net) next (λ x y p q. one_setup net x y p q) (λ setup is. each setup)

  quiet_determined : (net : Network) → IsSound net → (trace : List ℕ) → IsDetermined (run_quietly trace net) held
  quiet_determined net sound trace = setup_determined net (λ setup. run_named net setup [] trace) (λ setup. trace_determined net sound setup [] trace)

  unless_determined : {F : Type 0} (next : List F → Asking) (faults : List F) (refusal : Option Refusal) → IsDetermined (next faults) held → IsDetermined (unless_refused next faults refusal) held
  unless_determined next faults None d = d
  unless_determined next faults (Some refusal) d = says_determined held _

  struck_determined : (net : Network) → IsSound net → (trace faults : List ℕ) → IsDetermined (run_struck trace faults net) held
  struck_determined net sound trace faults =
      setup_determined net (λ setup. with_faults setup faults (λ list. run_named net setup list trace))
      (λ setup. asks_determined held faults (λ t. let list = faults_of t (region_sizes setup) in unless_refused (λ struck. run_named net setup struck trace) list.faults list.refusal)
      (λ t. let list = faults_of t (region_sizes setup) in
      unless_determined (λ struck. run_named net setup struck trace) list.faults list.refusal (trace_determined net sound setup list.faults trace)))

  vote_scans_determined : (heals : Bool) (net : Network) → IsSound net → (setup : seats.Setup) (faults : List VoteFault) (scans : Scans) → IsDetermined (vote_scans heals net setup faults scans) held
  vote_scans_determined heals net sound setup faults scans =
      let run = course heals (seats.machines_in setup) scans.items faults in
      leaves_determined held (leaves_votes heals setup run) (Finds (List State) (Meaning net scans.items) (λ ws. Says (told_votes net setup run scans.end ws)))
      (meaning_determined net sound scans (told_votes net setup run scans.end))

  vote_trace_determined : (heals : Bool) (net : Network) → IsSound net → (setup : seats.Setup) (faults : List VoteFault) (trace : List ℕ) → IsDetermined (vote_named heals net setup faults trace) held
  vote_trace_determined heals net sound setup faults trace =
      asks_determined held trace (λ t. vote_scans heals net setup faults (scans_of t net)) (λ t. vote_scans_determined heals net sound setup faults (scans_of t net))

  vote_struck_determined : (heals : Bool) (net : Network) → IsSound net → (trace faults : List ℕ) → IsDetermined (vote_struck heals trace faults net) held
  vote_struck_determined heals net sound trace faults =
      finds_determined held seats.Setup (seats.IsSetupOf net) (λ s. with_seat_faults heals s faults (λ list. vote_named heals net s list trace)) (λ x y p q. one_seat_setup net x y p q)
      (λ setup is. asks_determined held faults (λ t. let list = seat_faults_of heals t (seat_sizes setup) in unless_refused (λ struck. vote_named heals net setup struck trace) list.faults list.refusal)
      (λ t. let list = seat_faults_of heals t (seat_sizes setup) in
      unless_determined (λ struck. vote_named heals net setup struck trace) list.faults list.refusal (vote_trace_determined heals net sound setup list.faults trace)))

  source_determined : (s : List ℕ) (next : Network → Asking) → ((net : Network) → Resolves s net → IsDetermined (next net) held) → IsDetermined (accepted_source s next) held
  source_determined s next each = finds_determined held Reading (IsAcceptedAs s) (with_application (with_counts next)) (λ x y p q. one_acceptance s x y p q) go
    where
      go : (r : Reading) → IsAcceptedAs s r → IsDetermined (with_application (with_counts next) r) held
      go (stands_for net) f = leaves_determined held (leaves_checked (counts net (certificate net))) (next net) (each net f.0)
      go (is_refused r) f = says_determined held _

  from_determined : (app : List ℕ) (next : List ℕ → Network → Asking) → ((s : List ℕ) (net : Network) → Resolves s net → IsDetermined (next s net) held) → IsDetermined (accepted_from app next) held
  from_determined app next each =
      asks_determined held app (λ s. Leaves (leaves_text s) (accepted_source s (next s))) (λ s. leaves_determined held (leaves_text s) (accepted_source s (next s)) (source_determined s (next s) (each s)))

  accepted_determined : (app : List ℕ) (next : Network → Asking) → ((s : List ℕ) (net : Network) → Resolves s net → IsDetermined (next net) held) → IsDetermined (accepted app next) held
  accepted_determined app next each = from_determined app (λ s. next) each

  load_determined : (n : ℕ) → IsDetermined (load n) held
  load_determined n =
      source_determined app_text (sum_trace n)
      (λ net r. setup_determined net (λ setup. sum_scans n net setup (scans_of (trace_text n) net)) (λ setup. sums_determined n net (resolved_sound app_text net r) setup (scans_of (trace_text n) net)))

  verdict_determined : (net : Network) (j : Ruling) → IsDetermined (verdict net j) held
  verdict_determined net (derives lines) = leaves_determined held _ _ (says_determined held _)
  verdict_determined net (objects r) = says_determined held _

  verify_determined : (app c : List ℕ) → IsDetermined (verify app c) held
  verify_determined app c =
      asks_determined held app (λ s. Leaves (leaves_text s) (Finds Reading (IsResolvedAs s) (with_application (λ net. verify_named net c))))
      (λ s. leaves_determined held (leaves_text s) (Finds Reading (IsResolvedAs s) (with_application (λ net. verify_named net c)))
      (finds_determined held Reading (IsResolvedAs s) (with_application (λ net. verify_named net c)) (λ x y p q. one_resolution s x y p q) (go s)))
    where
      go : (s : List ℕ) (r : Reading) → IsResolvedAs s r → IsDetermined (with_application (λ net. verify_named net c) r) held
      go s (stands_for net) f =
          asks_determined held c (λ t. Finds Ruling (Judges net t) (verdict net))
          (λ t. finds_determined held Ruling (Judges net t) (verdict net) (λ x y p q. one_judgement net t x y p q) (λ j _. verdict_determined net j))
      go s (is_refused r) f = says_determined held _

  demand_determined : (app : List ℕ) → IsDetermined (demand app) held
  demand_determined app =
      asks_determined held app (λ s. Leaves (LeavesAccepted s) (Finds Reading (IsDemandableAs s) (with_application demanded)))
      (λ s. leaves_determined held (LeavesAccepted s) (Finds Reading (IsDemandableAs s) (with_application demanded))
      (finds_determined held Reading (IsDemandableAs s) (with_application demanded) (λ x y p q. one_demanding s x y p q) (go s)))
    where
      go : (s : List ℕ) (r : Reading) → IsDemandableAs s r → IsDetermined (with_application demanded r) held
      go s (stands_for net) f = says_determined held _
      go s (is_refused r) f = says_determined held _

  said_determined : (c : Command) → IsDetermined (said c) held
  said_determined (Run app trace) = accepted_determined app (run_quietly trace) (λ s net r. quiet_determined net (resolved_sound s net r) trace)
  said_determined (FaultWords app trace faults) = accepted_determined app (run_struck trace faults) (λ s net r. struck_determined net (resolved_sound s net r) trace faults)
  said_determined (Check app) = from_determined app checked (λ s net r. leaves_determined held (leaves_app s net) _ (says_determined held _))
  said_determined (Cert app) = accepted_determined app _ (λ s net r. says_determined held _)
  said_determined (Verify app c) = verify_determined app c
  said_determined (Image app) = accepted_determined app imaged (λ s net r. setup_determined net (λ setup. Says (answer (image_lines setup) Done)) (λ setup. says_determined held _))
  said_determined (Load number) = load_determined number
  said_determined (Demand app) = demand_determined app
  said_determined (Vote app trace faults) = accepted_determined app (vote_struck false trace faults) (λ s net r. vote_struck_determined false net (resolved_sound s net r) trace faults)
  said_determined (Heal app trace faults) = accepted_determined app (vote_struck true trace faults) (λ s net r. vote_struck_determined true net (resolved_sound s net r) trace faults)
  said_determined NotTaken = says_determined held _

pub one_answer : (words : List (List ℕ)) (held : List ℕ → Option (List ℕ)) (a b : Answer) → IsAnswer (text words) held a → IsAnswer (text words) held b → a ≡ b
one_answer words held a b x y = (said_determined held (command_of words)).one a b x y

-- where a name that is asked for is not held there is no answer
pub not_held_none : (words : List (List ℕ)) (held : List ℕ → Option (List ℕ)) (name : List ℕ) → AsksFor (text words) held name → held name ≡ None →
    (a : Answer) → ¬ (IsAnswer (text words) held a)
not_held_none words held name asks missing a x = (said_determined held (command_of words)).none name asks missing a x
