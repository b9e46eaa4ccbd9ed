-- What is said by name of the lines of a stream is what `watch` shows of a trace with these lines.
use Rattle.std.proofs.Common.{◌≡◌, ◌∙◌, ◌++◌, [], ℕ, List, Bool, true, length, inl, sym, ap, subst, append-nil, append_assoc}
use Rattle.ps_bench_words.specs.declared.asking.Layout.TheVariants as layout
use Rattle.ps_lines.specs.Lines.{Line}
use Rattle.ps_model.specs.Meaning.{Meaning, nothing}
use Rattle.ps_model.specs.Network.{Network, instance_count}
use Rattle.ps_model.specs.Scanning.{State}
use Rattle.ps_model.specs.Sound.{IsSound}
use Rattle.ps_model.proofs.Runs.{one_run}
use Rattle.ps_report.specs.Short.{refusal_text}
use Rattle.ps_runs.specs.Resting.{answered}
use Rattle.ps_bench_waves.specs.Names.{main_names}
use Rattle.ps_bench_waves.specs.declared.format.Format.TheVariants.{Text}
use Rattle.ps_top.specs.Program.{end_line}
use Rattle.ps_trace.specs.Header.{input_names}
use Rattle.ps_trace.specs.Scans.{End, Scans, header_from, scans_behind, scans_of, trace_lines}
use Rattle.ps_trace.specs.Scans.End.{whole, refused}
use Rattle.ps_bench_waves.specs.Watching.{watch_text}
use Rattle.ps_bench_watch.specs.Asking.{text_in}
use Rattle.ps_bench_watch.specs.Showing.{ComesOf, EndsRun, Run}
use Rattle.ps_world.specs.Answers.{answers, answers_of_run}
use Rattle.ps_world.specs.Whole.{machines_in}
use Rattle.ps_world.specs.Worlds.{World_state}
use Rattle.ps_bench_watch.specs.Streaming.{scans_in}
use Rattle.ps_bench_watch.specs.Living.{AreRun}
use Rattle.ps_bench_watch.specs.Watch.{watch_ended, watched_by_default}

-- a text and the line of a refusal after it, where there is one
ends_as : (end : End) (text said : List ℕ) → said ≡ text → (of_scans : End) → of_scans ≡ end → EndsRun text of_scans (said ++ end_line end) (watch_ended end)
ends_as whole text said is of_scans same = (append-nil said ∙ is, same)
ends_as (refused refusal) text said is of_scans same = (ap (λ (bytes : List ℕ). bytes ++ refusal_text refusal) is, same)

module _ (net : Network) (sound : IsSound net) (bytes : List ℕ) (left : List Line) (end : End) (said : List ℕ) (trips : Bool)
    (are : AreRun true net bytes left end said trips) (text : List ℕ) (lines_are : trace_lines text ≡ are.done) where
  abbrev scans : Scans
  scans = scans_of text net

  abbrev run : Run
  run = watched_by_default net are.world.setup

  -- the scans of the trace are those of the lines that were run
  same : scans_in are.done net ≡ scans
  same = ap (λ (lines : List Line). scans_behind (header_from (input_names net) 1 lines)) (sym lines_are)

  -- so they have the same answers
  answers_are : answered net [] 1 (scans_in are.done net).items are.world ≡ answers_of_run net (machines_in are.world.setup) scans.items []
  answers_are =
      ap (λ (s : Scans). answered net [] 1 s.items are.world) same
      ∙ ap (λ (x : World_state). answers (machines_in are.world.setup) (length net.outputs) (instance_count net) [] 1 scans.items x) are.of_net.beginning

  -- they mean one list of states
  one_meaning : (ws : List State) → Meaning net scans.items ws → are.says.0 ≡ ws
  one_meaning ws means =
      let one = one_run net sound nothing scans.items in
      one.2 are.says.0 (subst (λ (s : Scans). Meaning net s.items are.says.0) same are.says.1) ∙ sym (one.2 ws means)

  said_is : (ws : List State) → Meaning net scans.items ws → said ≡ text_in net layout.Text run scans.items ws
  said_is ws means =
      are.says.2
      ∙ (λ i. watch_text net Text (main_names net) (same i).items (answers_are i) are.says.0)
      ∙ ap (λ (states : List State). text_in net layout.Text run scans.items states) (one_meaning ws means)

  pub says_as_watch : (before : List ℕ) → ComesOf net (text_in net layout.Text run) text true before (before ++ said ++ end_line end) (watch_ended end)
  says_as_watch before = inl (record {
    bytes = said ++ end_line end;
    written = λ on. append_assoc before said (end_line end);
    ends = λ ws means. ends_as end (text_in net layout.Text run scans.items ws) said (said_is ws means) scans.end
        (sym (ap (λ (s : Scans). s.end) same) ∙ are.ends);
  })
