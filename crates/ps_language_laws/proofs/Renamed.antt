-- Statements under other names say what they say, where each name is at the path of the one in whose place it stands.
use Rattle.std.proofs.Common.{◌≡◌, ℕ, Bool, true, false, cond, List, [], ◌∷◌, Option, None, Some, map, refl, ap, ◌∙◌, ◌&&◌, ◌||◌}
use Rattle.std.specs.List.{find}
use Rattle.ps_base.specs.LetterCase.{folded, is_same_name}
use Rattle.ps_model.specs.declared.kind.Kind.{Kind}
use Rattle.ps_model.specs.Blocks.{block}
use Rattle.ps_model.specs.Action.{literal}
use Rattle.ps_parser.specs.declared.name.Name.{Name}
use Rattle.ps_parser.specs.declared.statement.Target.{Target}
use Rattle.ps_parser.specs.declared.statement.Target.TheVariants as target
use Rattle.ps_parser.specs.Tree.{FactorTree, Signal, Pin, Literal, Time, Group, ProductTree, no_factor, factor, SumTree, no_product, product, ArgumentTree, StatementTree, Assign, Call}
use Rattle.ps_derived.specs.Bodies.{same}
use Rattle.ps_derived.specs.Renaming.{factor_renamed, product_renamed, sum_renamed, target_renamed, argument_renamed, statement_renamed}
use Rattle.ps_language_laws.specs.Paths.{at, copy_at}
use Rattle.ps_language_laws.specs.Reading.{Scan, Before, Reading, and_then, drives, calls, signal_seen, output_seen, factor_value, product_value, sum_value}
use Rattle.ps_language_laws.specs.Equations.{Callee, standard, derived, argument_value, actual_of, given, actuals, kind_at, HasMoved, Moves, inputs_driven, call_leaves, target_leaves, statement_leaves, statements_leave, dotted_seen, reading_at, InputsHold, CallHolds, StatementHolds, StatementsHold}

-- what becomes of names, and where: from the copy at one path to the copy at another
module _ (rename : Name → Name) (path copy : List ℕ) (who whom : Name → Callee)
    (at_renamed : (n : Name) → at path (rename n) ≡ at copy n) (copy_renamed : (n : Name) → copy_at path (rename n) ≡ copy_at copy n)
    (callee_renamed : (n : Name) → ◌≡◌ {A = Callee} (who (rename n)) (whom n)) where
  -- ---- what is driven and called

  target_leaves_same : (t : Target) → target_leaves path (target_renamed rename t) ≡ target_leaves copy t
  target_leaves_same (target.Name n) = ap drives (at_renamed n)
  target_leaves_same (target.Pin n q) = refl

  call_leaves_same : (n : Name) (c : Callee) → call_leaves path (rename n) c ≡ call_leaves copy n c
  call_leaves_same n standard = ap calls (at_renamed n)
  call_leaves_same n (derived b) = (λ i. and_then (inputs_driven (copy_renamed n i) b.inputs) (b.leaves (copy_renamed n i)))

  leaves_same : (s : StatementTree) → statement_leaves who path (statement_renamed rename s) ≡ statement_leaves whom copy s
  leaves_same (Assign t s) = target_leaves_same t
  leaves_same (Call n args) = ap (call_leaves path (rename n)) (callee_renamed n) ∙ call_leaves_same n (whom n)

  pub all_leave_same : (ss : List StatementTree) → statements_leave who path (map (statement_renamed rename) ss) ≡ statements_leave whom copy ss
  all_leave_same [] = refl
  all_leave_same (s ∷ ss) = (λ i. and_then (leaves_same s i) (all_leave_same ss i))

  module _ (scan : Scan) where
    module _ (before : Before) where
      abbrev outer : Reading
      outer = reading_at who path scan before

      abbrev inner : Reading
      inner = reading_at whom copy scan before

      dotted_same : (n q : Name) (c : Callee) → dotted_seen who path scan before (rename n) q c ≡ dotted_seen whom copy scan before n q c
      dotted_same n q standard = ap (λ p. output_seen scan before p (folded q.text)) (at_renamed n)
      dotted_same n q (derived b) = ap (λ p. signal_seen scan before (at p q)) (copy_renamed n)

      mutual
        factor_same : (f : FactorTree) → factor_value outer (factor_renamed rename f) ≡ factor_value inner f
        factor_same (Signal n) = ap (signal_seen scan before) (at_renamed n)
        factor_same (Pin n q) = ap (dotted_seen who path scan before (rename n) q) (callee_renamed n) ∙ dotted_same n q (whom n)
        factor_same (Literal b p) = refl
        factor_same (Time t p) = refl
        factor_same (Group s) = sum_same s

        product_same : (p : ProductTree) → product_value outer (product_renamed rename p) ≡ product_value inner p
        product_same no_factor = refl
        product_same (factor f fs) = (λ i. factor_same f i && product_same fs i)

        sum_same : (s : SumTree) → sum_value outer (sum_renamed rename s) ≡ sum_value inner s
        sum_same no_product = refl
        sum_same (product p ps) = (λ i. product_same p i || sum_same ps i)

      -- ---- arguments

      actual_same : (s : SumTree) → actual_of outer (sum_renamed rename s) ≡ actual_of inner s
      actual_same (product (factor (Time t p) no_factor) no_product) = refl
      actual_same s = ap literal (sum_same s)

      given_same : (pin : List ℕ) (args : List ArgumentTree) →
          given outer (find (λ a. is_same_name a.pin.text pin) (map (argument_renamed rename) args)) ≡ given inner (find (λ a. is_same_name a.pin.text pin) args)
      given_same pin [] = refl
      given_same pin (a ∷ args) = by (is_same_name a.pin.text pin) (given_same pin args)
        where
          by : (b : Bool) →
              given outer (find (λ a. is_same_name a.pin.text pin) (map (argument_renamed rename) args)) ≡ given inner (find (λ a. is_same_name a.pin.text pin) args) →
              given outer (cond b (Some (argument_renamed rename a)) (find (λ a. is_same_name a.pin.text pin) (map (argument_renamed rename) args)))
              ≡ given inner (cond b (Some a) (find (λ a. is_same_name a.pin.text pin) args))
          by true rest = actual_same a.value
          by false rest = rest

      argument_same : (x : Name) (args : List ArgumentTree) →
          argument_value outer (find (λ a. same x a.pin) (map (argument_renamed rename) args)) ≡ argument_value inner (find (λ a. same x a.pin) args)
      argument_same x [] = refl
      argument_same x (a ∷ args) = by (same x a.pin) (argument_same x args)
        where
          by : (b : Bool) →
              argument_value outer (find (λ a. same x a.pin) (map (argument_renamed rename) args)) ≡ argument_value inner (find (λ a. same x a.pin) args) →
              argument_value outer (cond b (Some (argument_renamed rename a)) (find (λ a. same x a.pin) (map (argument_renamed rename) args)))
              ≡ argument_value inner (cond b (Some a) (find (λ a. same x a.pin) args))
          by true rest = sum_same a.value
          by false rest = rest

      actuals_same : (kind : Kind) (args : List ArgumentTree) → actuals outer kind (map (argument_renamed rename) args) ≡ actuals inner kind args
      actuals_same kind args = (λ i. map (λ p. given_same p.name args i) (block kind).inputs)

      -- ---- statements

      moves_same : (args : List ArgumentTree) (p : List ℕ) (o : Option Kind) → ◌≡◌ {A = Type 0} (Moves scan p outer (map (argument_renamed rename) args) o) (Moves scan p inner args o)
      moves_same args p None = refl
      moves_same args p (Some kind) = ap (HasMoved scan p kind) (actuals_same kind args)

      inputs_same : (c : List ℕ) (args : List ArgumentTree) (xs : List Name) →
          ◌≡◌ {A = Type 0} (InputsHold who path scan before c (map (argument_renamed rename) args) xs) (InputsHold whom copy scan before c args xs)
      inputs_same c args [] = refl
      inputs_same c args (x ∷ xs) = (λ i. (scan.new.signal (at c x) ≡ argument_same x args i) × inputs_same c args xs i)

      call_same : (n : Name) (args : List ArgumentTree) (c : Callee) →
          ◌≡◌ {A = Type 0} (CallHolds who path scan before (rename n) (map (argument_renamed rename) args) c) (CallHolds whom copy scan before n args c)
      call_same n args standard =
          ap (λ p. Moves scan p outer (map (argument_renamed rename) args) (kind_at scan.instances p)) (at_renamed n)
          ∙ moves_same args (at copy n) (kind_at scan.instances (at copy n))
      call_same n args (derived b) =
          ap (λ c. InputsHold who path scan before c (map (argument_renamed rename) args) b.inputs × b.Holds scan c (and_then before (inputs_driven c b.inputs))) (copy_renamed n)
          ∙ ap (λ (T : Type 0). T × b.Holds scan (copy_at copy n) (and_then before (inputs_driven (copy_at copy n) b.inputs))) (inputs_same (copy_at copy n) args b.inputs)

      holds_same : (s : StatementTree) → ◌≡◌ {A = Type 0} (StatementHolds who path scan before (statement_renamed rename s)) (StatementHolds whom copy scan before s)
      holds_same (Assign (target.Name n) s) = (λ i. scan.new.signal (at_renamed n i) ≡ sum_same s i)
      holds_same (Assign (target.Pin n q) s) = refl
      holds_same (Call n args) = ap (CallHolds who path scan before (rename n) (map (argument_renamed rename) args)) (callee_renamed n) ∙ call_same n args (whom n)

    pub all_hold_same : (before : Before) (ss : List StatementTree) →
        ◌≡◌ {A = Type 0} (StatementsHold who path scan before (map (statement_renamed rename) ss)) (StatementsHold whom copy scan before ss)
    all_hold_same before [] = refl
    all_hold_same before (s ∷ ss) =
        let rest = all_hold_same (and_then before (statement_leaves who path (statement_renamed rename s))) ss
        ∙ ap (λ l. StatementsHold whom copy scan (and_then before l) ss) (leaves_same s) in
        (λ i. holds_same before s i × rest i)
