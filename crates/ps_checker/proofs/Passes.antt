-- The certificate of an accepted application passes.
use Rattle.std.proofs.Common.{◌≡◌, ℕ, suc, zero, ◌+◌, ◌-◌, ◌≤◌, ◌<◌, true, List, [], ◌∷◌, ◌++◌, length, Some, sym, ◌∙◌, refl, subst, ⊎_elim, arith, append_assoc, append-nil}
use Rattle.std.specs.Prelude.{slice_get, slice_index_or, ◌==◌}
use Rattle.std.specs.List.{list_any, list_all, flat_map}
use Rattle.std.proofs.lemmas.Bool.{cases_Bool, or_left, or_right, and_from, cond-true, cond-false, eq-eqb}
use Rattle.std.proofs.lemmas.List.Folds.{list_any-append}
use Rattle.ps_model.specs.declared.kind.Ty.{Ty}
use Rattle.ps_model.specs.declared.kind.Ty.TheVariants.{Safe, Bool as Plain, Time}
use Rattle.ps_model.specs.Action.{Action, Actual, free, literal, time, wired, assigns, calls}
use Rattle.ps_model.specs.Blocks.{Pin, block}
use Rattle.ps_model.specs.Scanning.{pin_at, no_pin}
use Rattle.ps_model.specs.Network.{Network, kind_at}
use Rattle.ps_model.specs.Typing.{Accepted, MayStand, safe, is_safe_signal}
use Rattle.ps_model.specs.Nodes.{nodes, nodes_at_pin, nodes_of_step, app_nodes}
use Rattle.ps_model.specs.Obligations.{Obligation, obligation_at, obligations_at_pins, obligations_of_step, obligations_from, obligations}
use Rattle.ps_flow.specs.Refusals.{FitsStep}
use Rattle.ps_flow.proofs.Refused.{accepted_fits}
use Rattle.ps_flow.specs.declared.certificate.CertLine.{CertLine}
use Rattle.ps_flow.specs.declared.certificate.LineRule.TheVariants.{Src}
use Rattle.ps_flow.specs.Derivation.{line, derivation, derivations, certificate}
use Rattle.ps_model.specs.Standing.{StandsAt}
use Rattle.ps_checker.specs.Derives.{Derives, spoken, literal_fits, has_line}
use Rattle.ps_model.proofs.NodePlaces.{first_stands, rest_stands, whole_stands}
use Rattle.ps_checker.proofs.Derived.{AllFine, derivation_done}

has_spoken : (lines : List CertLine) (p n : ℕ) → 1 ≤ p → p ≤ length lines → spoken lines p ≡ n → list_any (λ l. l.node == n) lines ≡ true
has_spoken lines p n low high e = at lines (p - 1) (omega arith) e
  where
    at : (xs : List CertLine) (k : ℕ) → k < length xs → (slice_index_or xs k (line 0 Src [])).node ≡ n → list_any (λ l. l.node == n) xs ≡ true
    at [] k h e = absurd (omega arith)
    at (x ∷ xs) zero h e = or_left (x.node == n) (list_any (λ l. l.node == n) xs) (eq-eqb x.node n e)
    at (x ∷ xs) (suc k) h e = or_right (x.node == n) (list_any (λ l. l.node == n) xs) (at xs k (omega arith) e)

module _ (net : Network) where
  -- each is holds_safe, and stands at its node
  abbrev Ready : List Obligation → Type 0
  Ready [] = Unit {0}
  Ready (o ∷ os) = (safe net o.value ≡ true) × StandsAt (app_nodes net) o.node (nodes o.value) × Ready os

  ready_both : (os ps : List Obligation) → Ready os → Ready ps → Ready (os ++ ps)
  ready_both [] ps r q = q
  ready_both (o ∷ os) ps r q = (r.0, r.1, ready_both os ps r.2 q)

  ready_pin : (n : ℕ) (ty : Ty) (a : Actual) → MayStand net ty a → StandsAt (app_nodes net) n (nodes_at_pin a) → Ready (obligation_at n ty a)
  ready_pin n Safe (wired e) m s = (m.1 refl, s, tt)
  ready_pin n Plain (wired e) m s = tt
  ready_pin n Time (wired e) m s = tt
  ready_pin n Safe free m s = tt
  ready_pin n Plain free m s = tt
  ready_pin n Time free m s = tt
  ready_pin n Safe (literal b) m s = tt
  ready_pin n Plain (literal b) m s = tt
  ready_pin n Time (literal b) m s = tt
  ready_pin n Safe (time t) m s = tt
  ready_pin n Plain (time t) m s = tt
  ready_pin n Time (time t) m s = tt

  ready_pins : (n : ℕ) (pins : List Pin) (args : List Actual) → StandsAt (app_nodes net) n (flat_map nodes_at_pin args) →
      ((j : ℕ) → j < length args → MayStand net (slice_index_or pins j no_pin).ty (slice_index_or args j free)) → Ready (obligations_at_pins n pins args)
  ready_pins n [] args s m = tt
  ready_pins n (p ∷ pins) [] s m = tt
  ready_pins n (p ∷ pins) (a ∷ args) s m =
      ready_both (obligation_at n p.ty a) (obligations_at_pins (n + length (nodes_at_pin a)) pins args)
      (ready_pin n p.ty a (m 0 (omega arith)) (first_stands (app_nodes net) n (nodes_at_pin a) (flat_map nodes_at_pin args) s))
      (ready_pins (n + length (nodes_at_pin a)) pins args
      (rest_stands (app_nodes net) n (n + length (nodes_at_pin a)) (nodes_at_pin a) (flat_map nodes_at_pin args) refl s) (λ j h. m (suc j) (omega arith)))

  ready_step : (n : ℕ) (a : Action) → FitsStep net a → StandsAt (app_nodes net) n (nodes_of_step a) → Ready (obligations_of_step net n a)
  ready_step n (assigns t e) fit s =
      ⊎_elim
      (λ holds_safe. subst Ready (sym (cond-true (is_safe_signal net t) (record { node = n; value = e } ∷ []) [] holds_safe)) (fit holds_safe, s, tt))
      (λ plain. subst Ready (sym (cond-false (is_safe_signal net t) (record { node = n; value = e } ∷ []) [] plain)) tt)
      (cases_Bool (is_safe_signal net t))
  ready_step n (calls i args) fit s = ready_pins n (block (kind_at net i)).inputs args s fit

  ready_steps : (n : ℕ) (steps : List Action) → StandsAt (app_nodes net) n (flat_map nodes_of_step steps) →
      ((k : ℕ) (a : Action) → slice_get steps k ≡ Some a → FitsStep net a) → Ready (obligations_from net n steps)
  ready_steps n [] s m = tt
  ready_steps n (a ∷ steps) s m =
      ready_both (obligations_of_step net n a) (obligations_from net (n + length (nodes_of_step a)) steps)
      (ready_step n a (m 0 a refl) (first_stands (app_nodes net) n (nodes_of_step a) (flat_map nodes_of_step steps) s))
      (ready_steps (n + length (nodes_of_step a)) steps
      (rest_stands (app_nodes net) n (n + length (nodes_of_step a)) (nodes_of_step a) (flat_map nodes_of_step steps) refl s) (λ k b at. m (suc k) b at))

  record AllDone (lines : List CertLine) (os : List Obligation) : Type 0 where
    pub fine : AllFine net lines
    pub covered : list_all (has_line lines) os ≡ true

  derivations_done : (before : List CertLine) (b : ℕ) (os : List Obligation) → b ≡ length before → Ready os → AllFine net before → AllDone (before ++ derivations net b os) os
  derivations_done before b [] is r fine = record { fine = subst (AllFine net) (sym (append-nil before)) fine; covered = refl }
  derivations_done before b (o ∷ os) is r fine =
      let d = derivation net b o.node o.value in
      let more = derivations net (b + length d) os in
      let x = derivation_done net before b o.node o.value is r.0 r.1 fine in
      let y = derivations_done (before ++ d) (b + length d) os x.all r.2 x.fine in
      let low = x.low in
      let all = x.all in
      subst (λ z. AllDone z (o ∷ os)) (append_assoc before d more)
      (record {
        fine = y.fine;
        covered = and_from (has_line ((before ++ d) ++ more) o) (list_all (has_line ((before ++ d) ++ more)) os)
            (list_any-append (λ l. l.node == o.node) (before ++ d) more
            ∙ or_left (list_any (λ l. l.node == o.node) (before ++ d)) (list_any (λ l. l.node == o.node) more)
            (has_spoken (before ++ d) (b + length d) o.node low (omega arith) x.speaks)) y.covered;
      })

  literal_of : (ty : Ty) (a : Actual) → MayStand net ty a → literal_fits ty a ≡ true
  literal_of ty free m = refl
  literal_of Safe (literal b) m = refl
  literal_of Plain (literal b) m = refl
  literal_of Time (literal b) m = absurd (m refl)
  literal_of Safe (time t) m = cc
  literal_of Plain (time t) m = cc
  literal_of Time (time t) m = refl
  literal_of Safe (wired e) m = refl
  literal_of Plain (wired e) m = refl
  literal_of Time (wired e) m = absurd (m.0 refl)

  pub passes : Accepted net → Derives net (certificate net)
  passes ok =
      let steps : (k : ℕ) (a : Action) → slice_get net.steps k ≡ Some a → FitsStep net a = accepted_fits net ok in
      let done = derivations_done [] 0 (obligations net) refl (ready_steps 0 net.steps (whole_stands (app_nodes net)) steps) (record { each = λ i l at. cc }) in
      record {
        each = done.fine.each;
        literals = λ k i j args at h. literal_of (pin_at (kind_at net i) j).ty (slice_index_or args j free) (ok.at_pins k i j args at h);
        covered = done.covered;
      }
