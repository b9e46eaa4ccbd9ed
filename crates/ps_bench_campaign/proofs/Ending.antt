-- What is told of the trials over a trace that was read.
use Rattle.std.proofs.Common.{◌≡◌, ◌∙◌, ℕ, Bool, IsTrue, List, Result, Ok, Err, inl, inr, sym, ap, subst}
use Rattle.std.specs.Prelude.{IfErr, IfOk}
use Rattle.ps_bench_frame.specs.Opening.{Source}
use Rattle.ps_bench_frame.specs.Stopping.{Took, TookSome}
use Rattle.ps_bench_frame.specs.declared.ending.Status.{Status}
use Rattle.ps_bench_frame.specs.declared.ending.Status.TheVariants.{Done}
use Rattle.ps_bench_frame.specs.declared.ending.Stop.{Stop}
use Rattle.ps_bench_frame.specs.declared.ending.Stop.TheVariants.{Unwritten}
use Rattle.ps_bench_trials.specs.Steps.{items_in}
use Rattle.ps_model.specs.Network.{Network}
use Rattle.ps_bench_trials.specs.Naming.{Names}
use Rattle.ps_trace.specs.Scans.{Scans}
use Rattle.ps_world.specs.Whole.{Setup, IsSetupOf, machines_in}
use Rattle.ps_bench_campaign.specs.Asking.{AnswersIn, IsTold, Wanted, campaign_text}
use Rattle.ps_bench_campaign.specs.Recorded.{RecordsWord}
use Rattle.ps_bench_campaign.specs.declared.recording.Recorded.{Recorded}

module _ (from : Source) (app : List ℕ) (wanted : Wanted) (text : List ℕ) where
  -- what was made of what was read is told of what is held
  pub told_in : (net : Network) (name : List ℕ) (r : Recorded) → from.net ≡ net → (IsTrue from.tells → Names (from.held app) name) →
      (IsTrue from.tells → RecordsWord from wanted.trace r) →
      ((setup : Setup) → IsSetupOf net setup → text ≡ campaign_text net (machines_in setup) (items_in r.course.steps.items) wanted name r.name) →
      IsTold from app wanted text
  told_in net name r net_is named records said = λ tells.
      let names = named tells in
      let kept = records tells in
      let here = subst (λ (n : Network). (setup : Setup) → IsSetupOf n setup →
      text ≡ campaign_text n (machines_in setup) (items_in r.course.steps.items) wanted name r.name) (sym net_is) said in
      let items_are = sym (ap (λ (s : Scans). s.items) kept.3) in (
        names.0,
        names.1,
        kept.0,
        kept.1,
        kept.2,
        ap (λ (s : Scans). s.end) kept.3,
        λ setup is. here setup is ∙ (λ i. campaign_text from.net (machines_in setup) (items_are i) wanted (names.2 i) (kept.4 i)),
      )

  -- and written, to its end or up to where it stopped
  pub told_ended : (piece : List ℕ) (tells : Bool) (before after : List ℕ) (ended : Result Status Stop) → piece ≡ text →
      IfOk ended (λ status. (status ≡ Done) × Took piece tells before after) →
      IfErr ended (λ stop. (stop ≡ Unwritten) × TookSome piece tells before after) → IsTold from app wanted text →
      AnswersIn from app wanted tells before after ended
  told_ended piece tells before after (Ok status) is all some told =
      inl (text, told, all.0, subst (λ (t : List ℕ). Took t tells before after) is all.1)
  told_ended piece tells before after (Err stop) is all some told =
      inr (inl (text, told, some.0, subst (λ (t : List ℕ). TookSome t tells before after) is some.1))
