-- The statements of a body say what its flat statements say.
use Rattle.std.proofs.Common.{◌≡◌, ◌↔◌, ℕ, Bool, true, false, cond, List, [], ◌∷◌, ◌++◌, Option, None, Some, map, refl, sym, ap, subst, ◌∙◌, ◌&&◌, ◌||◌, if◌then◌else◌}
use Rattle.std.specs.List.{flat_map, find, AllByRecursion}
use Rattle.std.specs.Str.{bytes_eq}
use Rattle.std.proofs.SliceLists.{all_by_recursion_push}
use Rattle.std.proofs.lemmas.List.{append-nil}
use Rattle.std.proofs.lemmas.List.Folds.{list_any-append}
use Rattle.std.proofs.lemmas.Slice.Eq.{bytes_eq-Decides}
use Rattle.std.proofs.Math.Bool.{or-false}
use Rattle.ps_base.specs.LetterCase.{folded, is_same_name}
use Rattle.ps_model.specs.declared.kind.Kind.{Kind}
use Rattle.ps_model.specs.Blocks.{block}
use Rattle.ps_model.specs.Action.{literal}
use Rattle.ps_parser.specs.declared.name.Name.{Name}
use Rattle.ps_parser.specs.declared.statement.Target.TheVariants as target
use Rattle.ps_parser.specs.Tree.{FactorTree, Signal, Pin, Literal, Time, Group, ProductTree, no_factor, factor, SumTree, no_product, product, ArgumentTree, StatementTree, Assign, Call}
use Rattle.ps_derived.specs.declared.declared.Declared.{Declared}
use Rattle.ps_derived.specs.Bodies.{same, first_declared, inputs}
use Rattle.ps_derived.specs.Dotted.{inside, statement_inside}
use Rattle.ps_derived.specs.Spelling.{spelling}
use Rattle.ps_derived.proofs.Spelt.{spelt_same}
use Rattle.ps_derived.specs.Flat.{FlatBlock, DerivedInstance, instance_if, instance_of, output_read, factor_flat, product_flat, sum_flat, argument_flat, input_assigned, call_flat, statement_flat}
use Rattle.ps_language_laws.specs.Paths.{at, copy_at, is_among}
use Rattle.ps_language_laws.specs.Reading.{Scan, Before, Reading, and_then, drives, calls, signal_seen, output_seen, factor_value, product_value, sum_value}
use Rattle.ps_language_laws.specs.Equations.{Callee, argument_value, actual_of, given, actuals, kind_at, HasMoved, Moves, inputs_driven, call_leaves, statement_leaves, statements_leave, dotted_seen, reading_at, InputsHold, CallHolds, StatementHolds, StatementsHold}
use Rattle.ps_language_laws.specs.TextScans.{plain}
use Rattle.ps_language_laws.proofs.Walk.{then_nothing, then_then, leave_append, hold_append}
use Rattle.ps_language_laws.specs.Nested.{callee_of}
use Rattle.ps_language_laws.proofs.PathNames.{at_inside, at_same, copy_same}
use Rattle.ps_language_laws.proofs.Inside.{all_leave_inside, all_hold_inside}
use Rattle.ps_language_laws.proofs.Plainly.{HasNoDot, own_name, one_copy}
use Rattle.ps_language_laws.proofs.FirstInputs.{IsInputOf, inputs_are, never_both}
use Rattle.ps_language_laws.proofs.FineCalls.{OutputRead, FactorFine, ProductFine, SumFine, StatementFine}
use Rattle.ps_language_laws.proofs.Pairs.{Pair, laid_of, bodies, Seen, no_instance, instance, instance_there, callee_seen, seen, instance_is, callee_of_is}

-- ---- equivalences

pub both : {A B C D : Type 0} → (A ↔ B) → (C ↔ D) → (A × C) ↔ (B × D)
both f g = (λ h. (f.0 h.0, g.0 h.1), λ h. (f.1 h.0, g.1 h.1))

pub through : {A B C : Type 0} → (A ↔ B) → (B ↔ C) → A ↔ C
through f g = (λ a. g.0 (f.0 a), λ c. f.1 (g.1 c))

pub same_type : (A B : Type 0) → ◌≡◌ {A = Type 0} A B → A ↔ B
same_type A B e = subst (λ X. A ↔ X) e (λ a. a, λ a. a)

alone : {A : Type 0} → A ↔ (A × Unit {0})
alone = (λ a. (a, tt), λ h. h.0)

module _ (ps : List Pair) (ds : List Declared) (path : List ℕ) where
  abbrev who : Name → Callee
  who = callee_of (bodies ps) ds

  abbrev flat_instance : Name → Option DerivedInstance
  flat_instance = instance_of (laid_of ps) ds

  module _ (scan : Scan) (before : Before) where
    -- what the body reads, and what its flat statements read
    abbrev nested : Reading
    nested = reading_at who path scan before

    abbrev laid : Reading
    laid = reading_at plain path scan before

    dotted_as : (n q : Name) (s : Seen n) → dotted_seen who path scan before n q (callee_seen n s) ≡ factor_value laid (output_read n q (instance_there n s))
    dotted_as n q no_instance = refl
    dotted_as n q (instance g is p) =
        ap (signal_seen scan before)
        (ap (λ c. at c q) (copy_same path n g (sym is))
        ∙ at_same (copy_at path g) q (record { text = spelling q (first_declared p.laid.declared q); place = n.place }) (sym (spelt_same p.laid.declared q))
        ∙ sym (at_inside path g (record { text = spelling q (first_declared p.laid.declared q); place = n.place })))

    mutual
      factor_laid : (f : FactorTree) → factor_value nested f ≡ factor_value laid (factor_flat (laid_of ps) ds f)
      factor_laid (Signal n) = refl
      factor_laid (Pin n q) =
          ap (dotted_seen who path scan before n q) (callee_of_is ps n ds) ∙ dotted_as n q (seen ps ds n)
          ∙ sym (ap (λ o. factor_value laid (output_read n q o)) (instance_is ps n ds))
      factor_laid (Literal b p) = refl
      factor_laid (Time t p) = refl
      factor_laid (Group s) = sum_laid s

      product_laid : (p : ProductTree) → product_value nested p ≡ product_value laid (product_flat (laid_of ps) ds p)
      product_laid no_factor = refl
      product_laid (factor f fs) = (λ i. factor_laid f i && product_laid fs i)

      sum_laid : (s : SumTree) → sum_value nested s ≡ sum_value laid (sum_flat (laid_of ps) ds s)
      sum_laid no_product = refl
      sum_laid (product p qs) = (λ i. product_laid p i || sum_laid qs i)

    read_actual : (n q : Name) (o : Option DerivedInstance) (fs : ProductTree) (qs : SumTree) →
        actual_of laid (product (factor (output_read n q o) fs) qs) ≡ literal (sum_value laid (product (factor (output_read n q o) fs) qs))
    read_actual n q None fs qs = refl
    read_actual n q (Some i) fs qs = refl

    actual_laid : (s : SumTree) → actual_of nested s ≡ actual_of laid (sum_flat (laid_of ps) ds s)
    actual_laid (product (factor (Time t p) no_factor) no_product) = refl
    actual_laid (product (factor (Pin n q) fs) qs) =
        ap literal (sum_laid (product (factor (Pin n q) fs) qs)) ∙ sym (read_actual n q (flat_instance n) (product_flat (laid_of ps) ds fs) (sum_flat (laid_of ps) ds qs))
    actual_laid s = ap literal (sum_laid s)

    given_laid : (test : ArgumentTree → Bool) → ((a : ArgumentTree) → test (argument_flat (laid_of ps) ds a) ≡ test a) → (args : List ArgumentTree) →
        given nested (find test args) ≡ given laid (find test (map (argument_flat (laid_of ps) ds) args))
    given_laid test alike [] = refl
    given_laid test alike (a ∷ args) = by (test a) (test (argument_flat (laid_of ps) ds a)) (sym (alike a)) (given_laid test alike args)
      where
        by : (b c : Bool) → b ≡ c → given nested (find test args) ≡ given laid (find test (map (argument_flat (laid_of ps) ds) args)) →
            given nested (cond b (Some a) (find test args)) ≡ given laid (cond c (Some (argument_flat (laid_of ps) ds a)) (find test (map (argument_flat (laid_of ps) ds) args)))
        by true true e rest = actual_laid a.value
        by true false e rest = cc
        by false true e rest = cc
        by false false e rest = rest

    actuals_laid : (kind : Kind) (args : List ArgumentTree) → actuals nested kind args ≡ actuals laid kind (map (argument_flat (laid_of ps) ds) args)
    actuals_laid kind args = (λ i. map (λ p. given_laid (λ a. is_same_name a.pin.text p.name) (λ a. refl) args i) (block kind).inputs)

    moves_laid : (args : List ArgumentTree) (p : List ℕ) (o : Option Kind) → ◌≡◌ {A = Type 0} (Moves scan p nested args o) (Moves scan p laid (map (argument_flat (laid_of ps) ds) args) o)
    moves_laid args p None = refl
    moves_laid args p (Some kind) = ap (HasMoved scan p kind) (actuals_laid kind args)

    -- an input has the value of its argument in both
    argument_laid : (o : Option ArgumentTree) (x : Name) →
        ◌≡◌ {A = Type 0} (scan.new.signal (at path x) ≡ argument_value nested o) (StatementHolds plain path scan before (input_assigned (laid_of ps) ds x o))
    argument_laid None x = refl
    argument_laid (Some a) x = (λ i. scan.new.signal (at path x) ≡ sum_laid a.value i)

  -- ---- inputs of a copy

  input_leaves : (x : Name) (o : Option ArgumentTree) → statement_leaves plain path (input_assigned (laid_of ps) ds x o) ≡ drives (at path x)
  input_leaves x None = refl
  input_leaves x (Some a) = refl

  abbrev assigned : Name → List ArgumentTree → Name → StatementTree
  assigned g args x = input_assigned (laid_of ps) ds (inside g x) (find (λ a. same x a.pin) args)

  input_driven : (g : Name) (args : List ArgumentTree) (x : Name) → statement_leaves plain path (assigned g args x) ≡ drives (at (copy_at path g) x)
  input_driven g args x = input_leaves (inside g x) (find (λ a. same x a.pin) args) ∙ ap drives (at_inside path g x)

  inputs_leave : (g : Name) (args : List ArgumentTree) (xs : List Name) → statements_leave plain path (map (assigned g args) xs) ≡ inputs_driven (copy_at path g) xs
  inputs_leave g args [] = refl
  inputs_leave g args (x ∷ xs) = (λ i. and_then (input_driven g args x i) (inputs_leave g args xs i))

  -- one more input of a copy
  more_driven : (copy : List ℕ) (xs : List Name) (x : Name) → inputs_driven copy (xs ++ x ∷ []) ≡ and_then (inputs_driven copy xs) (drives (at copy x))
  more_driven copy [] x = then_nothing (drives (at copy x))
  more_driven copy (y ∷ xs) x = ap (and_then (drives (at copy y))) (more_driven copy xs x) ∙ sym (then_then (drives (at copy y)) (inputs_driven copy xs) (drives (at copy x)))

  none_called : (copy : List ℕ) (xs : List Name) → (inputs_driven copy xs).called ≡ []
  none_called copy [] = refl
  none_called copy (x ∷ xs) = none_called copy xs

  unlike : (p q : List ℕ) → (p ≡ q → ⊥) → bytes_eq p q ≡ false
  unlike p q apart = by (bytes_eq p q) refl
    where
      by : (b : Bool) → bytes_eq p q ≡ b → b ≡ false
      by true h = absurd (apart ((bytes_eq-Decides p q).0 h))
      by false h = refl

  none_driven : (copy p : List ℕ) (P : Name → Type 0) (xs : List Name) → AllByRecursion P xs → ((x : Name) → P x → p ≡ at copy x → ⊥) → is_among p (inputs_driven copy xs).driven ≡ false
  none_driven copy p P [] all apart = refl
  none_driven copy p P (x ∷ xs) all apart = (λ i. unlike p (at copy x) (apart x all.0) i || none_driven copy p P xs all.1 apart i)

  -- ---- arguments are read alike before and after the inputs of the copy

  module _ (scan : Scan) (before : Before) (n g : Name) (is : folded g.text ≡ folded n.text) (block : FlatBlock)
      (here : flat_instance n ≡ Some (record { name = g; block = block })) (plain_ : HasNoDot (folded n.text))
      (xs : List Name) (of_block : AllByRecursion (IsInputOf block.declared) xs) where
    abbrev after : Before
    after = and_then before (inputs_driven (copy_at path g) xs)

    seen_alike : (p : List ℕ) → is_among p (inputs_driven (copy_at path g) xs).driven ≡ false → signal_seen scan before p ≡ signal_seen scan after p
    seen_alike p none =
        ap (λ b. if b then scan.new.signal p else scan.old.signal p)
        (sym (list_any-append (bytes_eq p) before.driven (inputs_driven (copy_at path g) xs).driven ∙ ap (λ b. is_among p before.driven || b) none ∙ or-false (is_among p before.driven)))

    output_alike : (p pin : List ℕ) → output_seen scan before p pin ≡ output_seen scan after p pin
    output_alike p pin =
        ap (λ l. if is_among p l then scan.new.output p pin else scan.old.output p pin)
        (sym (ap (λ l. before.called ++ l) (none_called (copy_at path g) xs) ∙ append-nil before.called))

    own_apart : (m : Name) → HasNoDot (folded m.text) → is_among (at path m) (inputs_driven (copy_at path g) xs).driven ≡ false
    own_apart m plain_m = none_driven (copy_at path g) (at path m) (IsInputOf block.declared) xs of_block (λ x input e. own_name path m g x plain_m e)

    output_apart : (m q : Name) → HasNoDot (folded m.text) → OutputRead q (flat_instance m) → is_among (at (copy_at path m) q) (inputs_driven (copy_at path g) xs).driven ≡ false
    output_apart m q plain_m output = none_driven (copy_at path g) (at (copy_at path m) q) (IsInputOf block.declared) xs of_block apart
      where
        apart : (x : Name) → IsInputOf block.declared x → at (copy_at path m) q ≡ at (copy_at path g) x → ⊥
        apart x input e =
            let one = one_copy path m q g x plain_m (subst HasNoDot (sym is) plain_) e in
            let same_instance : flat_instance m ≡ flat_instance n = ap (λ t. instance_if (laid_of ps) (find (λ d. bytes_eq t (folded d.name.text)) ds)) (one.0 ∙ is) in
            never_both block.declared q x one.1 (subst (OutputRead q) (same_instance ∙ here) output) input

    dotted_alike : (m q : Name) → HasNoDot (folded m.text) → OutputRead q (flat_instance m) → (s : Seen m) →
        dotted_seen who path scan before m q (callee_seen m s) ≡ dotted_seen who path scan after m q (callee_seen m s)
    dotted_alike m q plain_m output no_instance = output_alike (at path m) (folded q.text)
    dotted_alike m q plain_m output (instance h e p) = seen_alike (at (copy_at path m) q) (output_apart m q plain_m output)

    mutual
      factor_alike : (f : FactorTree) → FactorFine (laid_of ps) ds f → factor_value (nested scan before) f ≡ factor_value (nested scan after) f
      factor_alike (Signal m) fine = seen_alike (at path m) (own_apart m fine)
      factor_alike (Pin m q) fine =
          ap (dotted_seen who path scan before m q) (callee_of_is ps m ds) ∙ dotted_alike m q fine.0 fine.1 (seen ps ds m)
          ∙ sym (ap (dotted_seen who path scan after m q) (callee_of_is ps m ds))
      factor_alike (Literal b p) fine = refl
      factor_alike (Time t p) fine = refl
      factor_alike (Group s) fine = sum_alike s fine

      product_alike : (p : ProductTree) → ProductFine (laid_of ps) ds p → product_value (nested scan before) p ≡ product_value (nested scan after) p
      product_alike no_factor fine = refl
      product_alike (factor f fs) fine = (λ i. factor_alike f fine.0 i && product_alike fs fine.1 i)

      sum_alike : (s : SumTree) → SumFine (laid_of ps) ds s → sum_value (nested scan before) s ≡ sum_value (nested scan after) s
      sum_alike no_product fine = refl
      sum_alike (product p qs) fine = (λ i. product_alike p fine.0 i || sum_alike qs fine.1 i)

    argument_alike : (args : List ArgumentTree) (test : ArgumentTree → Bool) → AllByRecursion (λ (a : ArgumentTree). SumFine (laid_of ps) ds a.value) args →
        argument_value (nested scan before) (find test args) ≡ argument_value (nested scan after) (find test args)
    argument_alike [] test fine = refl
    argument_alike (a ∷ args) test fine = by (test a) (argument_alike args test fine.1)
      where
        by : (b : Bool) → argument_value (nested scan before) (find test args) ≡ argument_value (nested scan after) (find test args) →
            argument_value (nested scan before) (cond b (Some a) (find test args)) ≡ argument_value (nested scan after) (cond b (Some a) (find test args))
        by true rest = sum_alike a.value fine.0
        by false rest = rest

  module _ (scan : Scan) (before : Before) (n g : Name) (is : folded g.text ≡ folded n.text) (block : FlatBlock)
      (here : flat_instance n ≡ Some (record { name = g; block = block })) (plain_ : HasNoDot (folded n.text))
      (args : List ArgumentTree) (fine : AllByRecursion (λ (a : ArgumentTree). SumFine (laid_of ps) ds a.value) args) where
    inputs_hold : (given_ xs : List Name) → AllByRecursion (IsInputOf block.declared) given_ → AllByRecursion (IsInputOf block.declared) xs →
        ◌≡◌ {A = Type 0} (InputsHold who path scan before (copy_at path g) args xs)
        (StatementsHold plain path scan (and_then before (inputs_driven (copy_at path g) given_)) (map (assigned g args) xs))
    inputs_hold given_ [] were are = refl
    inputs_hold given_ (x ∷ xs) were are =
        let o = find (λ a. same x a.pin) args in
        let after_ = and_then before (inputs_driven (copy_at path g) given_) in
        let one = ap (λ p. ◌≡◌ {A = Bool} (scan.new.signal p) (argument_value (nested scan before) o)) (sym (at_inside path g x))
        ∙ ap (◌≡◌ {A = Bool} (scan.new.signal (at path (inside g x)))) (argument_alike scan before n g is block here plain_ given_ were args (λ a. same x a.pin) fine)
        ∙ argument_laid scan after_ o (inside g x) in
        let moved : and_then before (inputs_driven (copy_at path g) (given_ ++ x ∷ [])) ≡ and_then after_ (statement_leaves plain path (assigned g args x)) =
        ap (and_then before) (more_driven (copy_at path g) given_ x) ∙ sym (then_then before (inputs_driven (copy_at path g) given_) (drives (at (copy_at path g) x)))
        ∙ ap (and_then after_) (sym (input_driven g args x)) in
        let rest = inputs_hold (given_ ++ x ∷ []) xs (all_by_recursion_push (IsInputOf block.declared) given_ x were are.0) are.1
        ∙ ap (λ l. StatementsHold plain path scan l (map (assigned g args) xs)) moved in
        (λ i. one i × rest i)

  -- ---- a call

  abbrev copied : Name → List ArgumentTree → Pair → List StatementTree
  copied g args p = map (assigned g args) (inputs p.laid.declared) ++ map (statement_inside g) p.laid.flat.statements

  copy_leaves : (n g : Name) (is : folded g.text ≡ folded n.text) (args : List ArgumentTree) (p : Pair) →
      and_then (inputs_driven (copy_at path n) p.body.inputs) (p.body.leaves (copy_at path n)) ≡ statements_leave plain path (copied g args p)
  copy_leaves n g is args p =
      (λ i. and_then (inputs_driven (copy_same path n g (sym is) i) (sym p.meant.inputs_are i)) (p.body.leaves (copy_same path n g (sym is) i)))
      ∙ (λ i. and_then (sym (inputs_leave g args (inputs p.laid.declared)) i) ((p.meant.leaves (copy_at path g) ∙ sym (all_leave_inside path g p.laid.flat.statements)) i))
      ∙ sym (leave_append plain path (map (assigned g args) (inputs p.laid.declared)) (map (statement_inside g) p.laid.flat.statements))

  call_leaves_as : (n : Name) (args : List ArgumentTree) (s : Seen n) →
      call_leaves path n (callee_seen n s) ≡ statements_leave plain path (call_flat (laid_of ps) ds n args (instance_there n s))
  call_leaves_as n args no_instance = sym (then_nothing (calls (at path n)))
  call_leaves_as n args (instance g is p) = copy_leaves n g is args p

  copy_holds : (scan : Scan) (before : Before) (n g : Name) (is : folded g.text ≡ folded n.text) (args : List ArgumentTree) (p : Pair) →
      flat_instance n ≡ Some (record { name = g; block = p.laid }) → StatementFine (laid_of ps) ds (Call n args) →
      CallHolds who path scan before n args (callee_seen n (instance g is p)) ↔ StatementsHold plain path scan before (copied g args p)
  copy_holds scan before n g is args p here fine =
      let given_ = map (assigned g args) (inputs p.laid.declared) in
      let inside_ = map (statement_inside g) p.laid.flat.statements in
      let front = same_type _ _
      ((λ i. InputsHold who path scan before (copy_same path n g (sym is) i) args (sym p.meant.inputs_are i))
      ∙ inputs_hold scan before n g is p.laid here fine.0 args fine.1 [] (inputs p.laid.declared) tt (inputs_are p.laid.declared)
      ∙ ap (λ l. StatementsHold plain path scan l given_) (then_nothing before)) in
      let back = through
      (same_type _ _
      ((λ i. p.body.Holds scan (copy_same path n g (sym is) i) (and_then before (inputs_driven (copy_same path n g (sym is) i) (sym p.meant.inputs_are i))))
      ∙ ap (λ l. p.body.Holds scan (copy_at path g) (and_then before l)) (sym (inputs_leave g args (inputs p.laid.declared)))))
      (through (p.meant.holds scan (copy_at path g) (and_then before (statements_leave plain path given_)))
      (same_type _ _ (sym (all_hold_inside path g scan (and_then before (statements_leave plain path given_)) p.laid.flat.statements)))) in
      let joined = hold_append plain path scan before given_ inside_ in
      through (both front back) (joined.1, joined.0)

  call_holds_as : (scan : Scan) (before : Before) (n : Name) (args : List ArgumentTree) (s : Seen n) →
      flat_instance n ≡ instance_there n s → StatementFine (laid_of ps) ds (Call n args) →
      CallHolds who path scan before n args (callee_seen n s) ↔ StatementsHold plain path scan before (call_flat (laid_of ps) ds n args (instance_there n s))
  call_holds_as scan before n args no_instance here fine = through (same_type _ _ (moves_laid scan before args (at path n) (kind_at scan.instances (at path n)))) alone
  call_holds_as scan before n args (instance g is p) here fine = copy_holds scan before n g is args p here fine

  -- ---- statements

  pub statement_leaves_flat : (s : StatementTree) → statement_leaves who path s ≡ statements_leave plain path (statement_flat (laid_of ps) ds s)
  statement_leaves_flat (Assign t s) = sym (then_nothing (statement_leaves plain path (Assign t s)))
  statement_leaves_flat (Call n args) =
      ap (call_leaves path n) (callee_of_is ps n ds) ∙ call_leaves_as n args (seen ps ds n)
      ∙ sym (ap (λ o. statements_leave plain path (call_flat (laid_of ps) ds n args o)) (instance_is ps n ds))

  pub statement_holds_flat : (scan : Scan) (before : Before) (s : StatementTree) → StatementFine (laid_of ps) ds s →
      StatementHolds who path scan before s ↔ StatementsHold plain path scan before (statement_flat (laid_of ps) ds s)
  statement_holds_flat scan before (Assign (target.Name n) s) fine = through (same_type _ _ (λ i. scan.new.signal (at path n) ≡ sum_laid scan before s i)) alone
  statement_holds_flat scan before (Assign (target.Pin n q) s) fine = alone
  statement_holds_flat scan before (Call n args) fine =
      through (same_type _ _ (ap (CallHolds who path scan before n args) (callee_of_is ps n ds)))
      (through (call_holds_as scan before n args (seen ps ds n) (instance_is ps n ds) fine)
      (same_type _ _ (sym (ap (λ o. StatementsHold plain path scan before (call_flat (laid_of ps) ds n args o)) (instance_is ps n ds)))))

  pub leaves_flat : (ss : List StatementTree) → statements_leave who path ss ≡ statements_leave plain path (flat_map (statement_flat (laid_of ps) ds) ss)
  leaves_flat [] = refl
  leaves_flat (s ∷ ss) =
      (λ i. and_then (statement_leaves_flat s i) (leaves_flat ss i))
      ∙ sym (leave_append plain path (statement_flat (laid_of ps) ds s) (flat_map (statement_flat (laid_of ps) ds) ss))

  pub holds_flat : (scan : Scan) (before : Before) (ss : List StatementTree) → AllByRecursion (StatementFine (laid_of ps) ds) ss →
      StatementsHold who path scan before ss ↔ StatementsHold plain path scan before (flat_map (statement_flat (laid_of ps) ds) ss)
  holds_flat scan before [] fine = (λ h. h, λ h. h)
  holds_flat scan before (s ∷ ss) fine =
      let joined = hold_append plain path scan before (statement_flat (laid_of ps) ds s) (flat_map (statement_flat (laid_of ps) ds) ss) in
      let moved = same_type _ _ (ap (λ l. StatementsHold plain path scan (and_then before l) (flat_map (statement_flat (laid_of ps) ds) ss)) (statement_leaves_flat s)) in
      through (both (statement_holds_flat scan before s fine.0) (through (holds_flat scan (and_then before (statement_leaves who path s)) ss fine.1) moved)) (joined.1, joined.0)
