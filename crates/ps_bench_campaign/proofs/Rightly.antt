-- No trial is wrong: its scans that are released have the reports of the meaning, and so have those of the run without the fault.
use Rattle.std.proofs.Common.{◌≡◌, ◌≢◌, ◌∙◌, ℕ, false, List, [], ◌∷◌, Option, Some, None, refl, sym}
use Rattle.std.specs.Prelude.{unwrap_or}
use Rattle.ps_bench_campaign.specs.Courses.{reports_of}
use Rattle.ps_model.specs.Fields.{first_difference}
use Rattle.ps_model.specs.Meaning.{Item, scan, restart}
use Rattle.ps_model.specs.Network.{Network}
use Rattle.ps_model.specs.Scanning.{State}
use Rattle.ps_model.specs.declared.channel.Channel.{Channel}
use Rattle.ps_model.specs.declared.channel.Channel.TheVariants.{A, B}
use Rattle.ps_model.specs.declared.channel.Fault.{Fault}
use Rattle.ps_model.specs.declared.channel.Verdict.{Verdict}
use Rattle.ps_model.specs.declared.channel.Verdict.TheVariants as verdicts
use Rattle.ps_model.proofs.FieldPlaces.{no_difference_from_equal}
use Rattle.ps_bench_trials.specs.declared.outcome.Outcome.{Outcome}
use Rattle.ps_bench_trials.specs.declared.outcome.Outcome.TheVariants.{Wrong}
use Rattle.ps_world.specs.Answers.{Answer, ReleaseAll, ReleaseRight, SpareChannel}
use Rattle.ps_world.specs.Lists.{is_same}
use Rattle.ps_world.specs.Orders.{other}
use Rattle.ps_bench_trials.specs.Outcomes.{ended_by}
use Rattle.ps_bench_campaign.specs.Showing.{shown}

-- a scan ends no trial as wrong whose report does not differ where it is released
not_wrong : (v : Verdict) (struck now : ℕ) (differs : Option ℕ) (later : Outcome) → (v ≡ verdicts.Released → differs ≡ None) → later ≢ Wrong →
    unwrap_or (ended_by v struck now differs) later ≢ Wrong
not_wrong verdicts.Released struck now None later same on = on
not_wrong verdicts.Released struck now (Some field) later same on = λ is. let no = same refl in cc
not_wrong (verdicts.Tripped cause) struck now differs later same on = λ is. cc
not_wrong verdicts.Down struck now differs later same on = on

pub never_wrong : (net : Network) (struck : ℕ) (items : List Item) (quiet given : List Answer) (ws : List State) →
    ReleaseAll net quiet ws → ReleaseRight net given ws → shown struck items (reports_of quiet) given ≢ Wrong
never_wrong net struck [] quiet given ws all right = λ is. cc
never_wrong net struck (restart ∷ items) quiet given ws all right = never_wrong net struck items quiet given ws all right
never_wrong net struck (scan now ins ∷ items) [] given ws all right = λ is. cc
never_wrong net struck (scan now ins ∷ items) (q ∷ quiet) [] ws all right = λ is. cc
never_wrong net struck (scan now ins ∷ items) (q ∷ quiet) (a ∷ given) [] all right = absurd all
never_wrong net struck (scan now ins ∷ items) (q ∷ quiet) (a ∷ given) (w ∷ ws) all right =
    not_wrong a.verdict struck now (first_difference a.report q.report) (shown struck items (reports_of quiet) given)
    (λ released. no_difference_from_equal a.report q.report (right.0 released ∙ sym all.1))
    (never_wrong net struck items quiet given ws all.2 right.1)

other_spared : (c : Channel) → is_same (other c) c ≡ false
other_spared A = refl
other_spared B = refl

-- one fault spares the other channel
pub spares : (f : Fault) → SpareChannel (other f.channel) (f ∷ [])
spares f = (other_spared f.channel, tt)
