-- Steps that are recorded one after another: each stands after those before it.
use Rattle.std.proofs.Common.{◌≡◌, ◌≤◌, ℕ, suc, Bool, List, [], ◌∷◌, ◌++◌, length, refl, ap}
use Rattle.ps_bench_campaign.specs.Courses.{AreStepsFor, behind, latest_in, meant_in, reports_of}
use Rattle.ps_bench_trials.specs.Steps.{item_of, items_in}
use Rattle.ps_bench_trials.specs.declared.step.Step.{Step}
use Rattle.ps_bench_trials.specs.declared.step.Step.TheVariants.{Scanned, Anew}
use Rattle.ps_model.specs.Meaning.{Item, scan, restart}
use Rattle.ps_model.specs.Network.{Network, input_count, instance_count}
use Rattle.ps_model.specs.declared.report.Report.{Report}
use Rattle.ps_model.specs.declared.report.Scan.{Scan}
use Rattle.ps_world.specs.Answers.{answers}
use Rattle.ps_world.specs.Orders.{at_compare, scan_events}
use Rattle.ps_world.specs.Steps.{after, world_step}
use Rattle.ps_world.specs.Verdicts.{report_given}
use Rattle.ps_world.specs.Worlds.{Machines, World_state, Restart}

-- what is said of a list of steps, with one step more at the end
pub items_more : (steps : List Step) (step : Step) → items_in (steps ++ step ∷ []) ≡ items_in steps ++ item_of step ∷ []
items_more [] step = refl
items_more (s ∷ steps) step = ap (λ items. item_of s ∷ items) (items_more steps step)

pub meant_more : (steps : List Step) (s : Scan) (r : Report) → meant_in (steps ++ Scanned s r ∷ []) ≡ meant_in steps ++ r ∷ []
meant_more [] s r = refl
meant_more (Scanned t q ∷ steps) s r = ap (λ rs. q ∷ rs) (meant_more steps s r)
meant_more (Anew ∷ steps) s r = meant_more steps s r

pub meant_anew : (steps : List Step) → meant_in (steps ++ Anew ∷ []) ≡ meant_in steps
meant_anew [] = refl
meant_anew (Scanned t q ∷ steps) = ap (λ rs. q ∷ rs) (meant_anew steps)
meant_anew (Anew ∷ steps) = meant_anew steps

pub latest_more : (latest : ℕ) (steps : List Step) (s : Scan) (r : Report) → latest_in latest (steps ++ Scanned s r ∷ []) ≡ s.now
latest_more latest [] s r = refl
latest_more latest (Scanned t q ∷ steps) s r = latest_more t.now steps s r
latest_more latest (Anew ∷ steps) s r = latest_more latest steps s r

pub latest_anew : (latest : ℕ) (steps : List Step) → latest_in latest (steps ++ Anew ∷ []) ≡ latest_in latest steps
latest_anew latest [] = refl
latest_anew latest (Scanned t q ∷ steps) = latest_anew t.now steps
latest_anew latest (Anew ∷ steps) = latest_anew latest steps

-- a scan fits after steps whose latest time is not later
pub steps_more : (net : Network) (latest : ℕ) (steps : List Step) (s : Scan) (r : Report) → AreStepsFor net latest steps →
    latest_in latest steps ≤ s.now → length s.ins ≡ input_count net → length r.outs ≡ length net.outputs →
    length r.diags ≡ instance_count net → AreStepsFor net latest (steps ++ Scanned s r ∷ [])
steps_more net latest [] s r fits due ins outs diags = (due, ins, outs, diags, tt)
steps_more net latest (Scanned t q ∷ steps) s r fits due ins outs diags =
    (fits.0, fits.1, fits.2, fits.3, steps_more net t.now steps s r fits.4 due ins outs diags)
steps_more net latest (Anew ∷ steps) s r fits due ins outs diags = steps_more net latest steps s r fits due ins outs diags

pub steps_anew : (net : Network) (latest : ℕ) (steps : List Step) → AreStepsFor net latest steps → AreStepsFor net latest (steps ++ Anew ∷ [])
steps_anew net latest [] fits = tt
steps_anew net latest (Scanned t q ∷ steps) fits = (fits.0, fits.1, fits.2, fits.3, steps_anew net t.now steps fits.4)
steps_anew net latest (Anew ∷ steps) fits = steps_anew net latest steps fits

module _ (m : Machines) where
  -- the world after one item more
  pub behind_scan : (items : List Item) (now : ℕ) (ins : List Bool) (x : World_state) →
      behind m (items ++ scan now ins ∷ []) x ≡ after m (scan_events m [] now ins (behind m items x)) (behind m items x)
  behind_scan [] now ins x = refl
  behind_scan (restart ∷ items) now ins x = behind_scan items now ins (world_step m Restart x)
  behind_scan (scan t js ∷ items) now ins x = behind_scan items now ins (after m (scan_events m [] t js x) x)

  pub behind_anew : (items : List Item) (x : World_state) →
      behind m (items ++ restart ∷ []) x ≡ world_step m Restart (behind m items x)
  behind_anew [] x = refl
  behind_anew (restart ∷ items) x = behind_anew items (world_step m Restart x)
  behind_anew (scan t js ∷ items) x = behind_anew items (after m (scan_events m [] t js x) x)

  -- the reports of a run with one item more
  module _ (outputs instances : ℕ) where
    pub reports_scan : (number : ℕ) (items : List Item) (now : ℕ) (ins : List Bool) (x : World_state) →
        reports_of (answers m outputs instances [] number (items ++ scan now ins ∷ []) x)
        ≡ reports_of (answers m outputs instances [] number items x)
        ++ report_given m outputs instances (at_compare m [] now ins (behind m items x)) ∷ []
    reports_scan number [] now ins x = refl
    reports_scan number (restart ∷ items) now ins x = reports_scan number items now ins (world_step m Restart x)
    reports_scan number (scan t js ∷ items) now ins x =
        ap (λ rs. report_given m outputs instances (at_compare m [] t js x) ∷ rs)
        (reports_scan (suc number) items now ins (after m (scan_events m [] t js x) x))

    pub reports_anew : (number : ℕ) (items : List Item) (x : World_state) →
        reports_of (answers m outputs instances [] number (items ++ restart ∷ []) x)
        ≡ reports_of (answers m outputs instances [] number items x)
    reports_anew number [] x = refl
    reports_anew number (restart ∷ items) x = reports_anew number items (world_step m Restart x)
    reports_anew number (scan t js ∷ items) x =
        ap (λ rs. report_given m outputs instances (at_compare m [] t js x) ∷ rs)
        (reports_anew (suc number) items (after m (scan_events m [] t js x) x))
