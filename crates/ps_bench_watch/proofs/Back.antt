-- The trace of a run is read back from its log.
use Rattle.std.proofs.Common.{◌≡◌, ◌∙◌, ◌≤◌, ◌<◌, ◌+◌, ℕ, suc, true, false, List, [], ◌∷◌, Ok, Result, length, nat_lt, refl, sym, ap, subst, arith}
use Rattle.std.specs.List.{All}
use Rattle.std.proofs.lemmas.Bool.Decides.{nat_tests}
use Rattle.std.proofs.lemmas.List.{length-map}
use Rattle.ps_base.specs.declared.limits.TheConstants.{LARGEST_TRACE, LONGEST_TRACE_LINE}
use Rattle.ps_bench_cases.specs.Expanded.{header_line}
use Rattle.ps_bench_cases.specs.Legible.{IsSeen}
use Rattle.ps_bench_logs.specs.Header.{Columns}
use Rattle.ps_bench_logs.specs.Log.{Log, columns_in, log_of}
use Rattle.ps_bench_logs.specs.Log.End.{whole}
use Rattle.ps_bench_logs.specs.declared.flaw.Flaw.{Flaw}
use Rattle.ps_model.specs.declared.channel.Fault.{Fault}
use Rattle.ps_model.specs.Meaning.{Item}
use Rattle.ps_model.specs.Meaning.Item.{scan, restart}
use Rattle.ps_model.specs.Network.{Network, input_count, instance_count, signal_name}
use Rattle.ps_model.specs.Scanning.{State}
use Rattle.ps_model.specs.Sound.{IsSound}
use Rattle.ps_bench_logs.specs.Recording.{log_trace, trace_text, written_behind}
use Rattle.ps_bench_watch.specs.Logged.{IsSpelt, is_name_byte, is_unbroken, logged}
use Rattle.ps_bench_watch.specs.Retraced.{IsLogOf, run_log}
use Rattle.ps_bench_watch.proofs.Bytes.{all_more}
use Rattle.ps_bench_watch.proofs.Columns.{found}
use Rattle.ps_bench_watch.proofs.Labels.{input_at, input_spelt}
use Rattle.ps_bench_watch.proofs.Whole.{HaveAnswers, columns_are, log_back}
use Rattle.ps_machine.specs.Items.{AreTimely}
use Rattle.ps_trace.specs.Header.{input_names}
use Rattle.ps_trace.specs.Scans.{scans_of}
use Rattle.ps_trace.specs.Scans.End.{whole as whole_trace}
use Rattle.ps_world.specs.Answers.{answers, answers_of_run}
use Rattle.ps_world.specs.Whole.{Setup, machines_in}
use Rattle.ps_world.specs.Worlds.{Machines, World_state}

-- each scan has an answer
all_answered : (m : Machines) (outputs instances : ℕ) (faults : List Fault) (number : ℕ) (items : List Item) (x : World_state) →
    HaveAnswers items (answers m outputs instances faults number items x)
all_answered m outputs instances faults number [] x = tt
all_answered m outputs instances faults number (restart ∷ items) x = all_answered m outputs instances faults number items _
all_answered m outputs instances faults number (scan now ins ∷ items) x = all_answered m outputs instances faults (suc number) items _

-- without restarts a log has the items
pub as_it_is : (items : List Item) → is_unbroken items ≡ true → logged false items ≡ items
as_it_is [] unbroken = refl
as_it_is (restart ∷ items) unbroken = let no : ⊥ = cc in absurd no
as_it_is (scan now ins ∷ items) unbroken = ap (λ (later : List Item). scan now ins ∷ later) (as_it_is items unbroken)

-- names are seen
seen_byte : (b : ℕ) → is_name_byte b ≡ true → nat_lt 32 b ≡ true
seen_byte b is = grind (arith, nat_tests)

spelt_seen : (name : List ℕ) → IsSpelt name → IsSeen name
spelt_seen name is = record { some = is.some; seen = all_more is_name_byte (λ b. nat_lt 32 b) seen_byte name is.bytes }

-- what is recorded of a log is read back
abbrev pub IsRecordedBack : Network → (text : List ℕ) → Type 0
IsRecordedBack net text = IsSound net → All IsSeen (input_names net) → length (header_line net) ≤ LONGEST_TRACE_LINE + 1 →
    length (trace_text net (log_of net text).items) ≤ LARGEST_TRACE →
    scans_of (trace_text net (log_of net text).items) net ≡ record { items = (log_of net text).items; end = whole_trace }

module _ (net : Network) (setup : Setup) (faults : List Fault) (trace : List ℕ) (ws : List State) (is : IsLogOf net setup faults trace ws)
    (timely : AreTimely (input_count net) 0 (scans_of trace net).items) where
  abbrev items : List Item
  items = (scans_of trace net).items

  abbrev log : List ℕ
  log = run_log net setup faults items ws

  pub log_means : log_of net log ≡ record { items = logged false items; end = whole }
  log_means =
      log_back net is.sound is.named items (answers_of_run net (machines_in setup) items faults) ws
      (all_answered (machines_in setup) (length net.outputs) (instance_count net) faults 1 items _) is.meant timely is.header is.size

  columns : columns_in net log ≡ Ok (found net is.sound is.named)
  columns =
      columns_are net is.sound is.named items (answers_of_run net (machines_in setup) items faults) ws
      (all_answered (machines_in setup) (length net.outputs) (instance_count net) faults 1 items _) is.meant timely is.header is.size

  -- what is written of the log is a trace of its items
  trace_is : log_trace net log ≡ trace_text net (log_of net log).items
  trace_is = ap (λ (said : Result Columns Flaw). written_behind net said (log_of net log).items) columns

  inputs_seen : All IsSeen (input_names net)
  inputs_seen k d within =
      let input : k < input_count net = omega (arith, within, length-map net.inputs (λ s. s.name)) in
      subst IsSeen (sym (input_at net is.sound is.named k d input))
      (spelt_seen (signal_name net k) (input_spelt net is.sound is.named k input))

  -- so what is read of it is that
  pub trace_back : (recorded : IsRecordedBack net log) → length (header_line net) ≤ LONGEST_TRACE_LINE + 1 → length (log_trace net log) ≤ LARGEST_TRACE →
      scans_of (log_trace net log) net ≡ record { items = logged false items; end = whole_trace }
  trace_back recorded long fits =
      ap (λ (text : List ℕ). scans_of text net) trace_is
      ∙ recorded is.sound inputs_seen long (subst (λ (text : List ℕ). length text ≤ LARGEST_TRACE) trace_is fits)
      ∙ ap (λ (all : Log). record { items = all.items; end = whole_trace }) log_means
