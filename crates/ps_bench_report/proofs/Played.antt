-- What a recording of a case shows.
use Rattle.std.proofs.Common.{◌≡◌, ◌≢◌, ◌∙◌, ℕ, zero, suc, false, List, [], ◌∷◌, length, map, Option, Some, None, Result, Ok, Err, inl, inr, refl, sym, ap, ap₂, subst, arith, append-nil}
use Rattle.std.specs.Prelude.{All, IfOk, IsSomeAnd, OnOk}
use Rattle.ps_base.specs.declared.failing.Memory.{Memory}
use Rattle.ps_base.specs.declared.failing.Refusal.{Refusal}
use Rattle.ps_bench_cases.specs.Joined.{items_of_file, later}
use Rattle.ps_bench_cases.specs.Meant.{items_of, whole_case}
use Rattle.ps_bench_cases.specs.Runnable.{IsRunnable}
use Rattle.ps_bench_cases.specs.declared.case.Case.{Case}
use Rattle.ps_bench_cases.specs.declared.case.CaseFile.{CaseFile}
use Rattle.ps_bench_cases.specs.Alone.{alone}
use Rattle.ps_model.specs.Meaning.{Item, Meaning, nothing}
use Rattle.ps_model.specs.Meaning.Item.{scan, restart}
use Rattle.ps_model.specs.Network.{Network, instance_count}
use Rattle.ps_model.specs.Scanning.{State}
use Rattle.ps_model.specs.declared.channel.Fault.{Fault}
use Rattle.ps_outside.specs.Outside.{Rose}
use Rattle.ps_outside.specs.declared.text_fail.TextFail.{TextFail}
use Rattle.ps_outside.specs.declared.text_fail.TextFail.TheVariants.{Fault as IsFault, Memory as NoMemory, Refused as IsRefused}
use Rattle.ps_cover.specs.Applying.{scans_of as steps_of}
use Rattle.ps_cover.specs.declared.cover.Cover.{Cover}
use Rattle.ps_bench_report.specs.Covered.{CoversRun}
use Rattle.ps_bench_report.specs.Filmed.{HasRecorded, made_of}
use Rattle.ps_bench_report.specs.Played.{KeepsItems, RecordsItems, run_of}
use Rattle.ps_bench_report.specs.Recording.{Film, IsFilmOf, Made, Records, film_of, made_in, shot_of}
use Rattle.ps_bench_report.specs.declared.filming.Kept.{Kept}
use Rattle.ps_bench_report.specs.declared.recording.Recorder.{Recorder}
use Rattle.ps_bench_report.specs.declared.recording.Recording.{Recording}
use Rattle.ps_runs.specs.Cutting.{TellsFailures}
use Rattle.ps_runs.specs.Running.{IsBeginning}
use Rattle.ps_runs.specs.declared.items.Cut.{Cut}
use Rattle.ps_runs.specs.declared.items.Cut.TheVariants.{Refused, Unread, Unwritten}
use Rattle.ps_runs.specs.declared.striking.StruckWorld.{StruckWorld}
use Rattle.ps_bench_judge.specs.Runs.{moments_of}
use Rattle.ps_bench_names.specs.declared.name.Name.{Name}
use Rattle.ps_trace.specs.Scans.{End, header_in, scans_behind, scans_of}
use Rattle.ps_trace.specs.Scans.End.{refused, whole}
use Rattle.ps_trace.specs.Scans.Headed.{fails}
use Rattle.ps_world.specs.Answers.{answers}
use Rattle.ps_world.specs.Whole.{machines_in}

-- the run of a world that is at the beginning is that of its setup
same_run : (net : Network) (items : List Item) (faults : List Fault) (p : StruckWorld) (ws : List State) → IsBeginning net p → p.faults ≡ faults →
    run_of net p.world.setup items faults ws ≡ made_of net p items ws
same_run net items faults p ws begins faults_are = λ i.
    made_in false items (moments_of net nothing items
    (answers (machines_in p.world.setup) (length net.outputs) (instance_count net) (sym faults_are i) 1 items (sym begins.world.beginning i)) ws)

-- what is given of a recorder shows what it has recorded
pub records_items : (net : Network) (names : List Name) (items : List Item) (faults : List Fault) (p : StruckWorld) (w : Recorder) (r : Recording) →
    IsBeginning net p → p.faults ≡ faults → ((ws : List State) → Meaning net items ws → HasRecorded net names (made_of net p items ws) w) →
    w.is_wanting ≡ false → film_of r ≡ film_of w.recording → RecordsItems net names items faults r
records_items net names items faults p w r begins faults_are has fine same = record {
  setup = p.world.setup;
  is_setup = begins.world.setup;
  records = λ ws means.
      subst (λ (made : List Made). Records net names made r) (sym (same_run net items faults p ws begins faults_are)) (λ few.
      subst (λ (film : Film). IsFilmOf names (map (shot_of net names) (made_of net p items ws)) film) (sym same)
      (has ws means fine few));
}

-- what is kept of a run that is done has what was recorded, and knows what was shown
pub keeps_items : (net : Network) (names : List Name) (items : List Item) (faults : List Fault) (p : StruckWorld) (w : Recorder) (result : Result (Option Kept) Memory) →
    IsBeginning net p → p.faults ≡ faults → ((ws : List State) → Meaning net items ws → HasRecorded net names (made_of net p items ws) w) →
    OnOk result (w.is_wanting ≡ false) → IfOk result (λ got. IsSomeAnd got (λ kept. film_of kept.recording ≡ film_of w.recording)) →
    (cover : Cover) → IfOk result (λ got. IsSomeAnd got (λ kept. kept.cover ≡ cover)) →
    ((ws : List State) → Meaning net items ws → CoversRun net (steps_of net nothing items ws) cover) →
    IfOk result (λ got. IsSomeAnd got (KeepsItems net names items faults))
keeps_items net names items faults p w (Ok (Some kept)) begins faults_are has fine same cover is covers = record {
  records = records_items net names items faults p w kept.recording begins faults_are has fine same;
  covers = λ ws means. subst (CoversRun net (steps_of net nothing items ws)) (sym is) (covers ws means);
}
keeps_items net names items faults p w (Ok None) begins faults_are has fine same cover is covers = absurd same
keeps_items net names items faults p w (Err wanting) begins faults_are has fine same cover is covers = tt

-- a case alone in a file has the items that it means
later_none : (items : List Item) → later 0 items ≡ items
later_none [] = refl
later_none (scan now ins ∷ items) = ap₂ (λ (n : ℕ) (more : List Item). scan n ins ∷ more) (omega arith) (later_none items)
later_none (restart ∷ items) = ap (λ (more : List Item). restart ∷ more) (later_none items)

pub items_alone : (net : Network) (file : CaseFile) (c : Case) → items_of_file net (alone file c) ≡ items_of net (whole_case file c)
items_alone net file c = append-nil (later 0 (items_of net (whole_case file c))) ∙ later_none (items_of net (whole_case file c))

-- and can be run where it can
pub runs_alone : (net : Network) (file : CaseFile) (c : Case) → IsRunnable net (whole_case file c) →
    All (λ (case : Case). IsRunnable net (whole_case (alone file c) case)) (c ∷ [])
runs_alone net file c runs zero d below = runs
runs_alone net file c runs (suc k) d below = absurd (omega arith)

-- a count that stays at 0 did not rise
none_rose : Rose 0 0 → ⊥
none_rose (inl more) = omega arith
none_rose (inr last) = omega arith

-- a trace that is whole is begun, where no read fails and memory is not wanting
begins_whole : (net : Network) (text : List ℕ) (why : TextFail) → why ≢ NoMemory → (why ≡ IsFault → Rose 0 0) →
    ((refusal : Refusal) → why ≡ IsRefused refusal → header_in text net ≡ fails refusal) → (scans_of text net).end ≡ whole → ⊥
begins_whole net text NoMemory other fault refuses is = other refl
begins_whole net text IsFault other fault refuses is = none_rose (fault refl)
begins_whole net text (IsRefused refusal) other fault refuses is =
    let no : whole ≡ refused refusal = sym is ∙ ap (λ headed. (scans_behind headed).end) (refuses refusal refl) in cc

-- so there is no answer where it is not
pub not_begun_whole : (P : Option Kept → Type 0) (net : Network) (text : List ℕ) (why : TextFail) (r : Result (Option Kept) Memory) →
    OnOk r (why ≢ NoMemory) → (why ≡ IsFault → Rose 0 0) →
    ((refusal : Refusal) → why ≡ IsRefused refusal → header_in text net ≡ fails refusal) → (scans_of text net).end ≡ whole → IfOk r P
not_begun_whole P net text why (Ok got) other fault refuses is = absurd (begins_whole net text why other fault refuses is)
not_begun_whole P net text why (Err none) other fault refuses is = tt

-- and done to its end, where no read and no write fails
pub ends_whole : (file : List ℕ) (end : End) (cut : Cut) → TellsFailures file (λ _. 0) (λ _. 0) 0 0 (Err cut) →
    ((refusal : Refusal) → cut ≡ Refused refusal → end ≡ refused refusal) → end ≡ whole → ⊥
ends_whole file end (Refused refusal) tells refuses is =
    let no : whole ≡ refused refusal = sym is ∙ refuses refusal refl in cc
ends_whole file end Unread tells refuses is = none_rose (tells.unread refl)
ends_whole file end Unwritten tells refuses is = none_rose (tells.unwritten refl)
