-- The operands that are written are those that decide, in order.
use Rattle.std.proofs.Common.{◌≡◌, ◌+◌, ◌∙◌, ◌++◌, ℕ, zero, suc, Bool, true, false, List, [], ◌∷◌, Option, Some, None, length, map, refl, sym, ap, subst, append_assoc, append-nil, arith}
use Rattle.std.specs.Prelude.{slice_get, slice_index_or, unwrap_or}
use Rattle.std.specs.Option.{option_map}
use Rattle.std.specs.List.{find, flat_map, range_with_len}
use Rattle.std.specs.Prelude.{◌*◌, if◌then◌else◌}
use Rattle.std.proofs.lemmas.Option.{slice_get-map}
use Rattle.ps_base.specs.LetterCase.{is_same_name}
use Rattle.ps_cover.specs.Listing.{call_points, decision_points, does_count, listed, mark_points, operand_points, pin_points, place_points, points_below, points_of, root_points, signal_points, step_points, steps_points, value_points}
use Rattle.ps_cover.specs.Points as points
use Rattle.ps_cover.specs.Points.{Point, decision, has, marks}
use Rattle.ps_cover.specs.Tallying.{called_kind}
use Rattle.ps_model.specs.Action.{Action}
use Rattle.ps_model.specs.Blocks.{Pin as PinRow, block}
use Rattle.ps_model.specs.Formula.{Formula, all_of, any_of}
use Rattle.ps_model.specs.Network.{Network, declared_count, kind_at}
use Rattle.ps_model.specs.declared.kind.Kind.{Kind}
use Rattle.ps_names.specs.Names.{entries, sort_at, sort_of}
use Rattle.ps_names.specs.Stands.{action, actual_at, actual_of, factor_formula, factor_formulas, given, kind_of, network_of, number, product_formula, product_formulas, sum_formula}
use Rattle.ps_names.specs.declared.entry.Entry.{Entry}
use Rattle.ps_names.specs.declared.entry.Sort.TheVariants.{Instance, Nothing}
use Rattle.ps_names.proofs.OneDriver.{callee_at}
use Rattle.ps_names.proofs.Unbroken.{IsUnbroken, unbroken}
use Rattle.ps_names.proofs.Whole.{kind_of_called}
use Rattle.ps_parser.specs.declared.name.Name.{Name}
use Rattle.ps_ways.specs.Tables.{ways_of}
use Rattle.ps_parser.specs.Tree.{FactorTree, Signal, Pin, Literal, Time, Group, ProductTree, no_factor, factor, SumTree, no_product, product, factors, products, ArgumentTree, StatementTree, Assign, Call}
use Rattle.ps_bench_cover.specs.OfOperands.{IsWritten, PlacesAreOfOperands, formula_of}
use Rattle.ps_bench_cover.specs.Standing.{placed, places_of, source_operands, step_operands}
use Rattle.ps_bench_cover.specs.Operands.{Operand, given_operands, nowhere, of_and, of_or, own_factors, own_products, pin_operands, place_of, statement_operands, sum_operands, within_factor, within_factors, within_products}

module _ (es : List Entry) where
  -- the decisions among these points are of these operands, in order
  abbrev pub AreOf : List Point → List Operand → Type 0
  AreOf [] [] = Unit {0}
  AreOf [] (w ∷ ws) = ⊥
  AreOf (marks k m ∷ ps) ws = AreOf ps ws
  AreOf (has s ∷ ps) ws = AreOf ps ws
  AreOf (decision o ∷ ps) [] = ⊥
  AreOf (decision o ∷ ps) (w ∷ ws) = (slice_get o.operands o.place ≡ Some (formula_of es w)) × AreOf ps ws

  both : (ps qs : List Point) (us vs : List Operand) → AreOf ps us → AreOf qs vs → AreOf (ps ++ qs) (us ++ vs)
  both [] qs [] vs first second = second
  both [] qs (u ∷ us) vs first second = absurd first
  both (marks k m ∷ ps) qs us vs first second = both ps qs us vs first second
  both (has s ∷ ps) qs us vs first second = both ps qs us vs first second
  both (decision o ∷ ps) qs [] vs first second = absurd first
  both (decision o ∷ ps) qs (u ∷ us) vs first second = (first.0, both ps qs us vs first.1 second)

  -- what stands after some elements
  behind_at : (before : List Formula) (f : Formula) (rest : List Formula) → slice_get (before ++ f ∷ rest) (length before) ≡ Some f
  behind_at [] f rest = refl
  behind_at (b ∷ before) f rest = behind_at before f rest

  -- the operands of an AND or an OR itself
  roots : (k : ℕ) (b : Bool) (before xs : List Formula) (ws : List Operand) → xs ≡ before ++ map (formula_of es) ws →
      AreOf (flat_map (place_points k b xs) (range_with_len (length before) (length ws))) ws
  roots k b before xs [] is = tt
  roots k b before xs (w ∷ ws) is =
      let here : slice_get xs (length before) ≡ Some (formula_of es w) =
      ap (λ ys. slice_get ys (length before)) is ∙ behind_at before (formula_of es w) (map (formula_of es) ws) in
      let next : length before + 1 ≡ length (before ++ formula_of es w ∷ []) = one_longer before (formula_of es w) in (
        here,
        subst (λ n. AreOf (flat_map (place_points k b xs) (range_with_len n (length ws))) ws) (sym next)
            (roots k b (before ++ formula_of es w ∷ []) xs ws (is ∙ sym (append_assoc before (formula_of es w ∷ []) (map (formula_of es) ws)))),
      )
    where
      one_longer : (ys : List Formula) (f : Formula) → length ys + 1 ≡ length (ys ++ f ∷ [])
      one_longer [] f = refl
      one_longer (y ∷ ys) f = let rest = one_longer ys f in omega (arith, rest)

  own : (k : ℕ) (b : Bool) (xs : List Formula) (ws : List Operand) → xs ≡ map (formula_of es) ws → AreOf (operand_points k b xs) ws
  own k b xs ws is =
      subst (λ n. AreOf (flat_map (place_points k b xs) (range_with_len 0 n)) ws) (sym (ap length is ∙ as_many ws)) (roots k b [] xs ws is)
    where
      as_many : (vs : List Operand) → length (map (formula_of es) vs) ≡ length vs
      as_many [] = refl
      as_many (v ∷ vs) = ap suc (as_many vs)

  listed_factors : (p : ProductTree) → listed (factor_formulas es p) ≡ map (formula_of es) (map of_and (factors p))
  listed_factors no_factor = refl
  listed_factors (factor f fs) = ap (λ xs. factor_formula es f ∷ xs) (listed_factors fs)

  listed_products : (s : SumTree) → listed (product_formulas es s) ≡ map (formula_of es) (map of_or (products s))
  listed_products no_product = refl
  listed_products (product p ps) = ap (λ xs. product_formula es p ∷ xs) (listed_products ps)

  mutual
    factor_are : (k : ℕ) (f : FactorTree) → AreOf (decision_points k (factor_formula es f)) (within_factor f)
    factor_are k (Signal n) = tt
    factor_are k (Pin n q) = tt
    factor_are k (Literal b p) = tt
    factor_are k (Time t p) = tt
    factor_are k (Group s) = sum_are k s

    factors_are : (k : ℕ) (p : ProductTree) → AreOf (points_below k (factor_formulas es p)) (within_factors p)
    factors_are k no_factor = tt
    factors_are k (factor f fs) =
        both (decision_points k (factor_formula es f)) (points_below k (factor_formulas es fs)) (within_factor f) (within_factors fs) (factor_are k f) (factors_are k fs)

    product_are : (k : ℕ) (p : ProductTree) → AreOf (decision_points k (product_formula es p)) (own_factors p ++ within_factors p)
    product_are k no_factor = tt
    product_are k (factor f no_factor) =
        subst (λ ws. AreOf (decision_points k (factor_formula es f)) ws) (sym (append-nil (within_factor f))) (factor_are k f)
    product_are k (factor f (factor g gs)) =
        both (root_points k (all_of (factor_formulas es (factor f (factor g gs))))) (points_below k (factor_formulas es (factor f (factor g gs))))
        (own_factors (factor f (factor g gs))) (within_factors (factor f (factor g gs)))
        (own k true _ (own_factors (factor f (factor g gs))) (listed_factors (factor f (factor g gs))))
        (both (decision_points k (factor_formula es f)) (points_below k (factor_formulas es (factor g gs))) (within_factor f) (within_factors (factor g gs))
        (factor_are k f) (factors_are k (factor g gs)))

    sum_are : (k : ℕ) (s : SumTree) → AreOf (decision_points k (sum_formula es s)) (own_products s ++ within_products s)
    sum_are k no_product = tt
    sum_are k (product p no_product) =
        subst (λ ws. AreOf (decision_points k (product_formula es p)) ws) (sym (append-nil (own_factors p ++ within_factors p))) (product_are k p)
    sum_are k (product p (product q qs)) =
        both (root_points k (any_of (product_formulas es (product p (product q qs))))) (points_below k (product_formulas es (product p (product q qs))))
        (own_products (product p (product q qs))) (within_products (product p (product q qs)))
        (own k false _ (own_products (product p (product q qs))) (listed_products (product p (product q qs))))
        (both (decision_points k (product_formula es p)) (points_below k (product_formulas es (product q qs))) (own_factors p ++ within_factors p) (within_products (product q qs))
        (product_are k p) (products_are k (product q qs)))

    products_are : (k : ℕ) (s : SumTree) → AreOf (points_below k (product_formulas es s)) (within_products s)
    products_are k no_product = tt
    products_are k (product p ps) =
        both (decision_points k (product_formula es p)) (points_below k (product_formulas es ps)) (own_factors p ++ within_factors p) (within_products ps)
        (product_are k p) (products_are k ps)

  -- what stands at a pin
  value_are : (k : ℕ) (s : SumTree) → AreOf (pin_points k (actual_of es s)) (sum_operands s)
  value_are k no_product = sum_are k no_product
  value_are k (product no_factor ps) = sum_are k (product no_factor ps)
  value_are k (product (factor (Signal n) fs) ps) = sum_are k (product (factor (Signal n) fs) ps)
  value_are k (product (factor (Pin n q) fs) ps) = sum_are k (product (factor (Pin n q) fs) ps)
  value_are k (product (factor (Group s) fs) ps) = sum_are k (product (factor (Group s) fs) ps)
  value_are k (product (factor (Literal b p) no_factor) no_product) = tt
  value_are k (product (factor (Literal b p) no_factor) (product q qs)) = sum_are k (product (factor (Literal b p) no_factor) (product q qs))
  value_are k (product (factor (Literal b p) (factor g gs)) ps) = sum_are k (product (factor (Literal b p) (factor g gs)) ps)
  value_are k (product (factor (Time t p) no_factor) no_product) = tt
  value_are k (product (factor (Time t p) no_factor) (product q qs)) = sum_are k (product (factor (Time t p) no_factor) (product q qs))
  value_are k (product (factor (Time t p) (factor g gs)) ps) = sum_are k (product (factor (Time t p) (factor g gs)) ps)

  given_are : (k : ℕ) (o : Option ArgumentTree) → AreOf (pin_points k (given es o)) (given_operands o)
  given_are k None = tt
  given_are k (Some a) = value_are k a.value

  pins_are : (k : ℕ) (args : List ArgumentTree) (pins : List PinRow) →
      AreOf (flat_map (pin_points k) (map (λ (p : PinRow). actual_at es args p.name) pins)) (flat_map (λ (p : PinRow). pin_operands args p.name) pins)
  pins_are k args [] = tt
  pins_are k args (p ∷ pins) =
      both (pin_points k (actual_at es args p.name)) (flat_map (pin_points k) (map (λ (q : PinRow). actual_at es args q.name) pins))
      (pin_operands args p.name) (flat_map (λ (q : PinRow). pin_operands args q.name) pins)
      (given_are k (find (λ a. is_same_name a.pin.text p.name) args)) (pins_are k args pins)

  -- marks are no decisions
  mark_are : (k : ℕ) (kind : Kind) (m : ℕ) (b : Bool) → b ≡ does_count kind m → AreOf (mark_points k kind m) []
  mark_are k kind m true is = subst (λ (x : Bool). AreOf (if x then marks k m ∷ [] else []) []) is tt
  mark_are k kind m false is = subst (λ (x : Bool). AreOf (if x then marks k m ∷ [] else []) []) is tt

  marks_are : (k : ℕ) (kind : Kind) (ms : List ℕ) → AreOf (flat_map (mark_points k kind) ms) []
  marks_are k kind [] = tt
  marks_are k kind (m ∷ ms) = both (mark_points k kind m) (flat_map (mark_points k kind) ms) [] [] (mark_are k kind m (does_count kind m) refl) (marks_are k kind ms)

  signals_are : (ss : List ℕ) → AreOf (flat_map value_points ss) []
  signals_are [] = tt
  signals_are (s ∷ ss) = signals_are ss

-- the place of a decision is that of its operand
placed_are : (es : List Entry) (ps : List Point) (ws : List Operand) → AreOf es ps ws → (n : ℕ) (o : points.Operand) → slice_get ps n ≡ Some (decision o) →
    (w : Operand) × (slice_get o.operands o.place ≡ Some (formula_of es w)) × (slice_index_or (placed ps (map place_of ws)) n nowhere ≡ place_of w)
placed_are es [] ws are n o at = cc
placed_are es (marks k m ∷ ps) ws are zero o at = cc
placed_are es (marks k m ∷ ps) ws are (suc n) o at = placed_are es ps ws are n o at
placed_are es (has s ∷ ps) ws are zero o at = cc
placed_are es (has s ∷ ps) ws are (suc n) o at = placed_are es ps ws are n o at
placed_are es (decision d ∷ ps) [] are n o at = absurd are
placed_are es (decision d ∷ ps) (w ∷ ws) are zero o at =
    let same : d ≡ o = cc in
    (w, subst (λ (x : points.Operand). slice_get x.operands x.place ≡ Some (formula_of es w)) same are.0, refl)
placed_are es (decision d ∷ ps) (w ∷ ws) are (suc n) o at = placed_are es ps ws are.1 n o at

module _ (name : List ℕ) (es : List Entry) (ss : List StatementTree) (clean : IsUnbroken es ss) where
  abbrev app : Network
  app = network_of name es ss

  -- the kind of a called instance is that of its name
  kind_of_call : (k : ℕ) (n : Name) (more : List ArgumentTree) → slice_get ss k ≡ Some (Call n more) → kind_of (unwrap_or (sort_of es n) Nothing) ≡ kind_at app (number es n)
  kind_of_call k n more at =
      let t = callee_at name es ss clean k n more at in
      let sort : sort_of es n ≡ Some (Instance t.kind) = ap (sort_at es) t.declared ∙ ap (option_map (λ e. e.sort)) t.is ∙ ap Some t.sort in
      ap (λ s. kind_of (unwrap_or s Nothing)) sort ∙ sym (kind_of_called name es ss clean n t)

  -- a statement
  statement_are : (k : ℕ) (s : StatementTree) → slice_get ss k ≡ Some s →
      AreOf es (step_points app k (Some (action es s))) (statement_operands (called_kind app (Some (action es s))) s)
  statement_are k (Assign t v) at = sum_are es k v
  statement_are k (Call n args) at =
      let kind = kind_at app (number es n) in
      both es (call_points k kind) _ [] (flat_map (λ (p : PinRow). pin_operands args p.name) (block kind).inputs) (marks_are es k kind (range_with_len 0 (2 * length (ways_of kind))))
      (subst (λ (x : Kind). AreOf es (flat_map (pin_points k) (map (λ (p : PinRow). actual_at es args p.name) (block x).inputs)) (flat_map (λ (p : PinRow). pin_operands args p.name) (block kind).inputs))
      (sym (kind_of_call k n args at)) (pins_are es k args (block kind).inputs))

  -- a step, where there is one
  step_are : (k : ℕ) (o : Option StatementTree) → slice_get ss k ≡ o → AreOf es (step_points app k (slice_get app.steps k)) (step_operands app k o)
  step_are k None at =
      subst (λ (a : Option Action). AreOf es (step_points app k a) []) (sym (slice_get-map (action es) ss k ∙ ap (option_map (action es)) at)) tt
  step_are k (Some s) at =
      subst (λ (a : Option Action). AreOf es (step_points app k a) (statement_operands (called_kind app a) s))
      (sym (slice_get-map (action es) ss k ∙ ap (option_map (action es)) at)) (statement_are k s at)

  steps_are : (ks : List ℕ) →
      AreOf es (flat_map (λ k. step_points app k (slice_get app.steps k)) ks) (flat_map (λ k. step_operands app k (slice_get ss k)) ks)
  steps_are [] = tt
  steps_are (k ∷ ks) =
      both es (step_points app k (slice_get app.steps k)) (flat_map (λ k. step_points app k (slice_get app.steps k)) ks)
      (step_operands app k (slice_get ss k)) (flat_map (λ k. step_operands app k (slice_get ss k)) ks) (step_are k (slice_get ss k) refl) (steps_are ks)

  all_are : AreOf es (points_of app) (flat_map (λ k. step_operands app k (slice_get ss k)) (range_with_len 0 (length app.steps)))
  all_are =
      both es (signal_points app) (steps_points app) [] _ (signals_are es (range_with_len 0 (declared_count app))) (steps_are (range_with_len 0 (length app.steps)))

pub places_are : PlacesAreOfOperands
places_are tree net stands =
    subst (λ (m : Network). (n : ℕ) (o : points.Operand) → slice_get (points_of m) n ≡ Some (decision o) →
    (w : Operand) × IsWritten tree o w × (slice_index_or (places_of m tree) n nowhere ≡ place_of w)) (sym stands.is)
    (λ n o at.
    let clean = unbroken tree.name.place (entries tree) tree.statements stands.unbroken in
    let net' = network_of tree.name.text (entries tree) tree.statements in
    let r = placed_are (entries tree) (points_of net') (source_operands net' tree) (all_are tree.name.text (entries tree) tree.statements clean) n o at in
    (r.0, record { is = r.1 }, r.2))
