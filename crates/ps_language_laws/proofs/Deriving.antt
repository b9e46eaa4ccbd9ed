-- The lines of a certificate derive an application, or there is a first objection to them.
use Rattle.std.proofs.Common.{◌≡◌, ℕ, ◌<◌, ◌+◌, ◌⊎◌, inl, inr, Bool, true, false, List, Some, length, refl, ◌∙◌, subst, ⊎_elim, ap}
use Rattle.std.specs.Prelude.{slice_get, slice_index_or}
use Rattle.std.specs.List.{list_all}
use Rattle.std.proofs.lemmas.Bool.{cases_Bool}
use Rattle.std.proofs.lemmas.Option.{slice_get_cases}
use Rattle.ps_base.specs.declared.failing.Rule.{Rule}
use Rattle.ps_base.specs.declared.failing.Rule.TheVariants.{O1, O2, O3, O4, O5}
use Rattle.ps_model.specs.Formula.{Formula}
use Rattle.ps_model.specs.Action.{Action, Actual, free, assigns, calls}
use Rattle.ps_model.specs.Network.{Network, kind_at}
use Rattle.ps_model.specs.Nodes.{app_nodes}
use Rattle.ps_model.specs.Obligations.{obligations}
use Rattle.ps_model.specs.Scanning.{pin_at}
use Rattle.ps_flow.specs.declared.certificate.CertLine.{CertLine}
use Rattle.ps_checker.specs.Derives.{Derives, IsInstance, LiteralsFit, is_earlier, fits, literal_fits, has_line}
use Rattle.ps_checker.specs.Objections.{LineBreaks, EachUpTo, LiteralMisfits, Objects}
use Rattle.ps_language_laws.proofs.Searching.{FirstBelow, first_below, FirstItem, first_item}

-- ---- literals

module _ (net : Network) where
  -- each literal of a step fits its pin
  abbrev AllFit : Action → Type 0
  AllFit a = (i j : ℕ) (args : List Actual) → a ≡ calls i args → j < length args → literal_fits (pin_at (kind_at net i) j).ty (slice_index_or args j free) ≡ true

  -- one of them does not
  abbrev OneMisfits : Action → Type 0
  OneMisfits a = (i : ℕ) × (j : ℕ) × (args : List Actual) × (a ≡ calls i args) × (j < length args) × (literal_fits (pin_at (kind_at net i) j).ty (slice_index_or args j free) ≡ false)

  step_decided : (a : Action) → AllFit a ⊎ OneMisfits a
  step_decided (assigns t e) = inl (λ i j args is inside. cc)
  step_decided (calls i args) = by (first_below Fits Misfits (λ j. cases_Bool (literal_fits (pin_at (kind_at net i) j).ty (slice_index_or args j free))) (length args))
    where
      Fits : ℕ → Type 0
      Fits j = literal_fits (pin_at (kind_at net i) j).ty (slice_index_or args j free) ≡ true

      Misfits : ℕ → Type 0
      Misfits j = literal_fits (pin_at (kind_at net i) j).ty (slice_index_or args j free) ≡ false

      all_fit : ((j : ℕ) → j < length args → Fits j) → AllFit (calls i args)
      all_fit all n j other is inside =
          let number : i ≡ n = cc in
          let list : args ≡ other = cc in
          subst (λ xs. j < length xs → literal_fits (pin_at (kind_at net n) j).ty (slice_index_or xs j free) ≡ true) list
          (subst (λ m. j < length args → literal_fits (pin_at (kind_at net m) j).ty (slice_index_or args j free) ≡ true) number (all j)) inside

      by : FirstBelow Fits Misfits (length args) ⊎ ((j : ℕ) → j < length args → Fits j) → AllFit (calls i args) ⊎ OneMisfits (calls i args)
      by (inl f) = inr (i, f.at, args, refl, f.below, f.holds)
      by (inr all) = inl (all_fit all)

  literals_decided : LiteralsFit net ⊎ LiteralMisfits net
  literals_decided = by (first_item (λ k. AllFit) (λ k. OneMisfits) (λ k. step_decided) net.steps)
    where
      by : FirstItem (λ k. AllFit) (λ k. OneMisfits) net.steps ⊎ ((k : ℕ) (a : Action) → slice_get net.steps k ≡ Some a → AllFit a) → LiteralsFit net ⊎ LiteralMisfits net
      by (inl f) = let pin = f.holds in inr (f.at, pin.0, pin.1, pin.2, f.here ∙ ap Some pin.3, pin.4, pin.5)
      by (inr all) = inl (λ k i j args at inside. all k (calls i args) at i j args refl inside)

-- ---- lines

module _ (net : Network) (lines : List CertLine) where
  abbrev BreaksSome : ℕ → CertLine → Type 0
  BreaksSome i l = (rule : Rule) × LineBreaks net lines i l rule

  -- a line is an instance of its rule, or breaks a rule
  line_decided : (i : ℕ) (l : CertLine) → IsInstance net lines i l ⊎ BreaksSome i l
  line_decided i l =
      ⊎_elim (λ e. by e.1 e.0 e.2 (list_all (is_earlier i) l.premises) refl (fits net lines l.rule l.premises (l.node + 1) e.0) refl) (λ past. inr (O1, past.0))
      (slice_get_cases (app_nodes net) l.node).1
    where
      by : l.node < length (app_nodes net) → (e : Formula) → slice_get (app_nodes net) l.node ≡ Some e → (b : Bool) → list_all (is_earlier i) l.premises ≡ b
          → (v : Bool) → fits net lines l.rule l.premises (l.node + 1) e ≡ v → IsInstance net lines i l ⊎ BreaksSome i l
      by within e at false later v is = inr (O2, (within, later))
      by within e at true earlier true is = inl (record { node = e; exists = at; earlier = earlier; rule = is })
      by within e at true earlier false is = inr (O3, (earlier, (e, at, is)))

  -- the first line that breaks a rule is objected to
  objects_to : (i : ℕ) (l : CertLine) (rule : Rule) → EachUpTo net lines i → slice_get lines i ≡ Some l → LineBreaks net lines i l rule → Objects net lines (i + 1) rule
  objects_to i l O1 each at h = (i, l, refl, each, at, h)
  objects_to i l O2 each at h = (i, l, refl, each, at, h)
  objects_to i l O3 each at h = (i, l, refl, each, at, h)
  objects_to i l _ each at h = absurd h

  abbrev Judged : Type 0
  Judged = Derives net lines ⊎ ((n : ℕ) × (rule : Rule) × Objects net lines n rule)

  -- where each line is an instance of its rule
  each_fine : ((i : ℕ) (l : CertLine) → slice_get lines i ≡ Some l → IsInstance net lines i l) → Judged
  each_fine all = by (literals_decided net) (list_all (has_line lines) (obligations net)) refl
    where
      upto : EachUpTo net lines (length lines)
      upto i lt l at = all i l at

      by : LiteralsFit net ⊎ LiteralMisfits net → (b : Bool) → list_all (has_line lines) (obligations net) ≡ b → Judged
      by (inr misfit) b is = inr (length lines + 1, O5, (refl, upto, misfit))
      by (inl fit) false is = inr (length lines + 1, O4, (refl, upto, fit, is))
      by (inl fit) true is = inl (record { each = all; literals = fit; covered = is })

  pub judged : Derives net lines ⊎ ((n : ℕ) × (rule : Rule) × Objects net lines n rule)
  judged = by (first_item (IsInstance net lines) BreaksSome line_decided lines)
    where
      by : FirstItem (IsInstance net lines) BreaksSome lines ⊎ ((i : ℕ) (l : CertLine) → slice_get lines i ≡ Some l → IsInstance net lines i l) → Judged
      by (inl f) = let broken = f.holds in inr (f.at + 1, broken.0, objects_to f.at f.item broken.0 (λ i lt l at. f.before i l lt at) f.here broken.1)
      by (inr all) = each_fine all
