-- A certificate that derives an application shows that it is accepted.
use Rattle.std.proofs.Common.{◌≡◌, ℕ, suc, zero, ◌+◌, ◌-◌, ◌≤◌, ◌<◌, true, List, [], ◌∷◌, length, Some, None, sym, ap, ◌∙◌, refl, subst, ⊎_elim, arith}
use Rattle.std.specs.Prelude.{slice_get, slice_index_or, nat_le, ◌==◌}
use Rattle.std.specs.List.{list_any, list_all, flat_map}
use Rattle.std.proofs.lemmas.Bool.{false≢true, or_cases, or_left, or_right, and_parts, and_from, cond-true, eqb-true}
use Rattle.std.proofs.lemmas.List.Folds.{list_all-append}
use Rattle.std.proofs.lemmas.Option.{slice_get_within}
use borrow.Author.Tests.{leb-true}
use Rattle.ps_model.specs.declared.kind.Ty.{Ty}
use Rattle.ps_model.specs.declared.kind.Ty.TheVariants.{Safe, Bool as Plain, Time}
use Rattle.ps_model.specs.Formula.{Formula, Formulas, signal, all_of, any_of, no_operand, operand}
use Rattle.ps_model.specs.Action.{Action, Actual, free, literal, time, wired, assigns, calls}
use Rattle.ps_model.specs.Blocks.{Pin, block}
use Rattle.ps_model.specs.Scanning.{pin_at, no_pin}
use Rattle.ps_model.specs.Network.{Network, kind_at}
use Rattle.ps_model.specs.Typing.{Accepted, MayStand, safe, is_safe_signal, some_safe, each_safe}
use Rattle.ps_model.specs.Nodes.{nodes, nodes_below, nodes_at_pin, nodes_of_step, app_nodes, operand_places}
use Rattle.ps_model.specs.Obligations.{Obligation, obligation_at, obligations_at_pins, obligations_of_step, obligations_from}
use Rattle.ps_model.proofs.Once.{place_of, element_at}
use Rattle.ps_flow.specs.declared.certificate.CertLine.{CertLine}
use Rattle.ps_flow.specs.declared.certificate.LineRule.{LineRule}
use Rattle.ps_flow.specs.declared.certificate.LineRule.TheVariants.{Src, And, Or}
use Rattle.ps_flow.specs.Derivation.{line}
use Rattle.ps_flow.proofs.Walk.{found_or}
use Rattle.ps_checker.specs.Derives.{Derives, IsInstance, is_earlier, spoken, speak_of, speaks_of_one, fits, literal_fits, has_line}
use Rattle.ps_model.specs.Standing.{StandsAt}
use Rattle.ps_model.proofs.NodePlaces.{app_at, stands_found, first_stands, rest_stands, whole_stands}

module _ (net : Network) (lines : List CertLine) where
  -- what earlier lines speak of is safe
  abbrev pub EarlierSafe : ℕ → Type 0
  EarlierSafe i = (p : ℕ) → is_earlier i p ≡ true → (e : Formula) → slice_get (app_nodes net) (spoken lines p) ≡ Some e → safe net e ≡ true

  -- the root of a value
  pub root : (n : ℕ) (e : Formula) → StandsAt (app_nodes net) n (nodes e) → slice_get (app_nodes net) n ≡ Some e
  root n (signal x) r = stands_found (app_nodes net) n (signal x) [] r
  root n (all_of fs) r = stands_found (app_nodes net) n (all_of fs) (nodes_below fs) r
  root n (any_of fs) r = stands_found (app_nodes net) n (any_of fs) (nodes_below fs) r

  pub operands_stand : (n : ℕ) (f : Formula) (es : Formulas) → nodes f ≡ f ∷ nodes_below es → StandsAt (app_nodes net) n (nodes f) → StandsAt (app_nodes net) (n + 1) (nodes_below es)
  operands_stand n f es is s = rest_stands (app_nodes net) n (n + 1) (f ∷ []) (nodes_below es) refl (subst (λ z. StandsAt (app_nodes net) n z) is s)

  module _ (i : ℕ) (earlier : EarlierSafe i) where
    one_safe : (es : Formulas) (n : ℕ) → StandsAt (app_nodes net) n (nodes_below es) → (p : ℕ) → is_earlier i p ≡ true →
        list_any (λ m. m == spoken lines p) (operand_places n es) ≡ true → some_safe net es ≡ true
    one_safe no_operand n s p ok h = h
    one_safe (operand e es) n s p ok h =
        ⊎_elim
        (λ here. or_left (safe net e) (some_safe net es) (earlier p ok e
        (ap (slice_get (app_nodes net)) (sym (eqb-true n (spoken lines p) here)) ∙ root n e (first_stands (app_nodes net) n (nodes e) (nodes_below es) s))))
        (λ later. or_right (safe net e) (some_safe net es)
        (one_safe es (n + length (nodes e)) (rest_stands (app_nodes net) n (n + length (nodes e)) (nodes e) (nodes_below es) refl s) p ok later))
        (or_cases (n == spoken lines p) (list_any (λ m. m == spoken lines p) (operand_places (n + length (nodes e)) es)) h)

    all_safe : (es : Formulas) (n : ℕ) → StandsAt (app_nodes net) n (nodes_below es) → (premises : List ℕ) → list_all (is_earlier i) premises ≡ true →
        speak_of lines premises (operand_places n es) ≡ true → each_safe net es ≡ true
    all_safe no_operand n s premises ok h = refl
    all_safe (operand e es) n s [] ok h = absurd (false≢true h)
    all_safe (operand e es) n s (p ∷ premises) ok h =
        let both = and_parts (spoken lines p == n) (speak_of lines premises (operand_places (n + length (nodes e)) es)) h in
        let oks = and_parts (is_earlier i p) (list_all (is_earlier i) premises) ok in
        and_from (safe net e) (each_safe net es)
        (earlier p oks.0 e (ap (slice_get (app_nodes net)) (eqb-true (spoken lines p) n both.0) ∙ root n e (first_stands (app_nodes net) n (nodes e) (nodes_below es) s)))
        (all_safe es (n + length (nodes e)) (rest_stands (app_nodes net) n (n + length (nodes e)) (nodes e) (nodes_below es) refl s) premises oks.1 both.1)

    one_premise : (premises : List ℕ) (es : Formulas) (n : ℕ) → list_all (is_earlier i) premises ≡ true → StandsAt (app_nodes net) n (nodes_below es) →
        speaks_of_one lines premises (operand_places n es) ≡ true → some_safe net es ≡ true
    one_premise [] es n ok s h = absurd (false≢true h)
    one_premise (p ∷ []) es n ok s h = one_safe es n s p (and_parts (is_earlier i p) true ok).0 h
    one_premise (p ∷ q ∷ premises) es n ok s h = absurd (false≢true h)

    -- a line whose rule fits speaks of a safe value
    pub by_rule : (rule : LineRule) (premises : List ℕ) (n : ℕ) (e : Formula) → list_all (is_earlier i) premises ≡ true → StandsAt (app_nodes net) n (nodes e) →
        fits net lines rule premises (n + 1) e ≡ true → safe net e ≡ true
    by_rule Src [] n (signal s) ok r h = h
    by_rule Src [] n (all_of es) ok r h = absurd (false≢true h)
    by_rule Src [] n (any_of es) ok r h = absurd (false≢true h)
    by_rule Src (p ∷ ps) n e ok r h = absurd (false≢true h)
    by_rule And ps n (signal s) ok r h = absurd (false≢true h)
    by_rule And ps n (all_of es) ok r h = one_premise ps es (n + 1) ok (operands_stand n (all_of es) es refl r) h
    by_rule And ps n (any_of es) ok r h = absurd (false≢true h)
    by_rule Or ps n (signal s) ok r h = absurd (false≢true h)
    by_rule Or ps n (all_of es) ok r h = absurd (false≢true h)
    by_rule Or ps n (any_of es) ok r h = all_safe es (n + 1) (operands_stand n (any_of es) es refl r) ps ok h

  module _ (each : (i : ℕ) (l : CertLine) → slice_get lines i ≡ Some l → IsInstance net lines i l) where
    -- each line speaks of a safe value
    pub safe_line : (bound i : ℕ) (l : CertLine) (e : Formula) → i < bound → slice_get lines i ≡ Some l → slice_get (app_nodes net) l.node ≡ Some e → safe net e ≡ true
    safe_line zero i l e h at node = absurd (omega arith)
    safe_line (suc b) i l e h at node =
        let ok = each i l at in
        by_rule i
        (λ p early f speaks.
        let parts = and_parts (nat_le 1 p) (nat_le p i) early in
        let low : 1 ≤ p = leb-true 1 p parts.0 in
        let high : p ≤ i = leb-true p i parts.1 in
        let inside : i < length lines = slice_get_within lines i l at in
        let found = element_at lines (p - 1) (omega arith) in
        safe_line b (p - 1) found.0 f (omega arith) found.1
        (ap (λ x. slice_get (app_nodes net) x) (sym (ap (λ y. y.node) (found_or lines (p - 1) found.0 (line 0 Src []) found.1))) ∙ speaks))
        l.rule l.premises l.node e ok.earlier (app_at net l.node e node)
        (ap (fits net lines l.rule l.premises (l.node + 1)) (some_same (sym node ∙ ok.exists)) ∙ ok.rule)
      where
        some_same : {x y : Formula} → Some x ≡ Some y → x ≡ y
        some_same h = cc

    -- the value of an obligation that has a line is safe
    pub obligation_is_safe : (o : Obligation) → has_line lines o ≡ true → slice_get (app_nodes net) o.node ≡ Some o.value → safe net o.value ≡ true
    obligation_is_safe o h at =
        let p = place_of (λ l. l.node == o.node) lines h in
        safe_line (suc p.0) p.0 p.1 o.value (omega arith) p.2 (ap (slice_get (app_nodes net)) (eqb-true p.1.node o.node p.3) ∙ at)

    pub pins_are_safe : (n : ℕ) (pins : List Pin) (args : List Actual) → StandsAt (app_nodes net) n (flat_map nodes_at_pin args) →
        list_all (has_line lines) (obligations_at_pins n pins args) ≡ true →
        (j : ℕ) (e : Formula) → (slice_index_or pins j no_pin).ty ≡ Safe → slice_index_or args j free ≡ wired e → safe net e ≡ true
    pins_are_safe n [] args s h j e ty is = cc
    pins_are_safe n (p ∷ pins) [] s h j e ty is = cc
    pins_are_safe n (p ∷ pins) (a ∷ args) s h zero e ty is =
        let os = obligations_at_pins (n + length (nodes_at_pin a)) pins args in
        let both = and_parts (list_all (has_line lines) (obligation_at n p.ty a)) (list_all (has_line lines) os)
        (sym (list_all-append (has_line lines) (obligation_at n p.ty a) os) ∙ h) in
        let one : list_all (has_line lines) (obligation_at n Safe (wired e)) ≡ true =
        subst (λ y. list_all (has_line lines) (obligation_at n y (wired e)) ≡ true) ty (subst (λ x. list_all (has_line lines) (obligation_at n p.ty x) ≡ true) is both.0) in
        obligation_is_safe (record { node = n; value = e }) (and_parts (has_line lines (record { node = n; value = e })) true one).0
        (root n e (subst (λ x. StandsAt (app_nodes net) n (nodes_at_pin x)) is (first_stands (app_nodes net) n (nodes_at_pin a) (flat_map nodes_at_pin args) s)))
    pins_are_safe n (p ∷ pins) (a ∷ args) s h (suc j) e ty is =
        let os = obligations_at_pins (n + length (nodes_at_pin a)) pins args in
        let both = and_parts (list_all (has_line lines) (obligation_at n p.ty a)) (list_all (has_line lines) os)
        (sym (list_all-append (has_line lines) (obligation_at n p.ty a) os) ∙ h) in
        pins_are_safe (n + length (nodes_at_pin a)) pins args
        (rest_stands (app_nodes net) n (n + length (nodes_at_pin a)) (nodes_at_pin a) (flat_map nodes_at_pin args) refl s) both.1 j e ty is

    abbrev pub StepIsSafe : Action → Type 0
    StepIsSafe (assigns t e) = is_safe_signal net t ≡ true → safe net e ≡ true
    StepIsSafe (calls i args) = (j : ℕ) (e : Formula) → (pin_at (kind_at net i) j).ty ≡ Safe → slice_index_or args j free ≡ wired e → safe net e ≡ true

    pub step_is_safe : (n : ℕ) (a : Action) → StandsAt (app_nodes net) n (nodes_of_step a) → list_all (has_line lines) (obligations_of_step net n a) ≡ true → StepIsSafe a
    step_is_safe n (assigns t e) s h = λ holds_safe.
        let one : list_all (has_line lines) (record { node = n; value = e } ∷ []) ≡ true =
        ap (list_all (has_line lines)) (sym (cond-true (is_safe_signal net t) (record { node = n; value = e } ∷ []) [] holds_safe)) ∙ h in
        obligation_is_safe (record { node = n; value = e }) (and_parts (has_line lines (record { node = n; value = e })) true one).0 (root n e s)
    step_is_safe n (calls i args) s h = pins_are_safe n (block (kind_at net i)).inputs args s h

    pub steps_are_safe : (n : ℕ) (steps : List Action) → StandsAt (app_nodes net) n (flat_map nodes_of_step steps) →
        list_all (has_line lines) (obligations_from net n steps) ≡ true → (k : ℕ) (a : Action) → slice_get steps k ≡ Some a → StepIsSafe a
    steps_are_safe n [] s h k a at = absurd (let e : None ≡ Some a = at in cc)
    steps_are_safe n (b ∷ steps) s h zero a at =
        let same : b ≡ a = cc in
        let os = obligations_from net (n + length (nodes_of_step b)) steps in
        let both = and_parts (list_all (has_line lines) (obligations_of_step net n b)) (list_all (has_line lines) os)
        (sym (list_all-append (has_line lines) (obligations_of_step net n b) os) ∙ h) in
        subst StepIsSafe same (step_is_safe n b (first_stands (app_nodes net) n (nodes_of_step b) (flat_map nodes_of_step steps) s) both.0)
    steps_are_safe n (b ∷ steps) s h (suc k) a at =
        let os = obligations_from net (n + length (nodes_of_step b)) steps in
        let both = and_parts (list_all (has_line lines) (obligations_of_step net n b)) (list_all (has_line lines) os)
        (sym (list_all-append (has_line lines) (obligations_of_step net n b) os) ∙ h) in
        steps_are_safe (n + length (nodes_of_step b)) steps
        (rest_stands (app_nodes net) n (n + length (nodes_of_step b)) (nodes_of_step b) (flat_map nodes_of_step steps) refl s) both.1 k a at

may_stand : (net : Network) (ty : Ty) (a : Actual) → literal_fits ty a ≡ true → ((e : Formula) → ty ≡ Safe → a ≡ wired e → safe net e ≡ true) → MayStand net ty a
may_stand net ty free fit holds_safe = tt
may_stand net Safe (literal b) fit holds_safe = λ h. cc
may_stand net Plain (literal b) fit holds_safe = λ h. cc
may_stand net Time (literal b) fit holds_safe = absurd (false≢true fit)
may_stand net Safe (time t) fit holds_safe = absurd (false≢true fit)
may_stand net Plain (time t) fit holds_safe = absurd (false≢true fit)
may_stand net Time (time t) fit holds_safe = refl
may_stand net Safe (wired e) fit holds_safe = ((λ h. cc), λ h. holds_safe e refl refl)
may_stand net Plain (wired e) fit holds_safe = ((λ h. cc), λ h. holds_safe e h refl)
may_stand net Time (wired e) fit holds_safe = absurd (false≢true fit)

pub derives_accepted : (net : Network) (lines : List CertLine) → Derives net lines → Accepted net
derives_accepted net lines d =
    let all : (k : ℕ) (a : Action) → slice_get net.steps k ≡ Some a → StepIsSafe net lines d.each a =
    steps_are_safe net lines d.each 0 net.steps (whole_stands (app_nodes net)) d.covered in
    record {
      assigned = λ k t e at. all k (assigns t e) at;
      at_pins = λ k i j args at h.
          may_stand net (pin_at (kind_at net i) j).ty (slice_index_or args j free) (d.literals k i j args at h) (λ e ty is. all k (calls i args) at j e ty is);
    }
