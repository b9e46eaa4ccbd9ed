-- Where no rule is broken, an application has at most as many nodes as are counted on its source.
use Rattle.std.proofs.Common.{◌≡◌, ℕ, ◌+◌, ◌<◌, ◌≤◌, Bool, true, false, cond, List, [], ◌∷◌, Some, length, map, refl, sym, ap, ◌∙◌, arith, length-append}
use Rattle.std.specs.Prelude.{sum_by, count_by}
use Rattle.std.specs.List.{flat_map, find, AllByRecursion}
use Rattle.std.proofs.lemmas.Grind.{flat_map-append}
use Rattle.std.proofs.lemmas.List.Sums.{sum_by-cons}
use Rattle.ps_model.specs.declared.kind.Kind.{Kind}
use Rattle.ps_model.specs.Blocks as blocks
use Rattle.ps_model.specs.Blocks.{block}
use Rattle.ps_model.specs.Nodes.{nodes_at_pin, nodes_of_step, nodes_of_steps}
use Rattle.ps_parser.specs.declared.name.Name.{Name}
use Rattle.ps_parser.specs.Tree as tree
use Rattle.ps_parser.specs.Tree.{ProductTree, no_factor, factor, SumTree, no_product, product, ArgumentTree, StatementTree, Assign, Call}
use Rattle.ps_parser.specs.Whole.{SumWhole, ArgumentWhole, StatementWhole}
use Rattle.ps_names.specs.declared.entry.Entry.{Entry}
use Rattle.ps_base.specs.LetterCase.{is_same_name}
use Rattle.ps_names.specs.Names.{sort_of}
use Rattle.ps_names.specs.Limits.{sum_nodes, statement_nodes}
use Rattle.ps_names.specs.Uses.{gives, runs, value_uses, argument_uses, statement_uses, target_use}
use Rattle.ps_names.specs.Rules.{broken_by, at_read, at_read_pin}
use Rattle.ps_names.specs.Stands.{sort_or, kind_of, number, pin_number, actual_of, given, actual_at, action}
use Rattle.ps_names.proofs.Distinct.{none_left, none_right}
use Rattle.ps_names.proofs.PinNames.{inputs_apart}
use Rattle.ps_names.proofs.Fine.{sum_fine}

module _ (es : List Entry) where
  -- how many nodes stand at a pin with this name
  weight : List ArgumentTree → List ℕ → ℕ
  weight arguments pin = length (nodes_at_pin (actual_at es arguments pin))

module _ {X : Type 0} (p : X → Bool) (c : ℕ) where
  none_counts : (ys : List X) → count_by p ys ≡ 0 → sum_by (λ y. cond (p y) c 0) ys ≡ 0
  none_counts [] none = refl
  none_counts (y ∷ ys) none = by (p y) refl (none_counts ys)
    where
      by : (b : Bool) → p y ≡ b → (count_by p ys ≡ 0 → sum_by (λ y. cond (p y) c 0) ys ≡ 0) → sum_by (λ y. cond (p y) c 0) (y ∷ ys) ≡ 0
      by true e later =
          let all : count_by p (y ∷ ys) ≡ 1 + count_by p ys = sum_by-cons (λ z. cond (p z) 1 0) y ys ∙ ap (λ b. cond b 1 0 + count_by p ys) e in
          absurd (omega arith)
      by false e later =
          let all : count_by p (y ∷ ys) ≡ 0 + count_by p ys = sum_by-cons (λ z. cond (p z) 1 0) y ys ∙ ap (λ b. cond b 1 0 + count_by p ys) e in
          let sum : sum_by (λ y. cond (p y) c 0) (y ∷ ys) ≡ 0 + sum_by (λ y. cond (p y) c 0) ys =
          sum_by-cons (λ z. cond (p z) c 0) y ys ∙ ap (λ b. cond b c 0 + sum_by (λ y. cond (p y) c 0) ys) e in
          let none_later = later (omega arith) in
          omega arith

  -- a number for each element that passes is at most this number where one passes at most
  once_only : (xs : List X) → count_by p xs ≤ 1 → sum_by (λ x. cond (p x) c 0) xs ≤ c
  once_only [] h = omega arith
  once_only (x ∷ xs) h = by (p x) refl (once_only xs)
    where
      by : (b : Bool) → p x ≡ b → (count_by p xs ≤ 1 → sum_by (λ y. cond (p y) c 0) xs ≤ c) → sum_by (λ y. cond (p y) c 0) (x ∷ xs) ≤ c
      by true e later =
          let all : count_by p (x ∷ xs) ≡ 1 + count_by p xs = sum_by-cons (λ z. cond (p z) 1 0) x xs ∙ ap (λ b. cond b 1 0 + count_by p xs) e in
          let sum : sum_by (λ y. cond (p y) c 0) (x ∷ xs) ≡ c + sum_by (λ y. cond (p y) c 0) xs =
          sum_by-cons (λ z. cond (p z) c 0) x xs ∙ ap (λ b. cond b c 0 + sum_by (λ y. cond (p y) c 0) xs) e in
          let none = none_counts xs (omega arith) in
          omega arith
      by false e later =
          let all : count_by p (x ∷ xs) ≡ 0 + count_by p xs = sum_by-cons (λ z. cond (p z) 1 0) x xs ∙ ap (λ b. cond b 1 0 + count_by p xs) e in
          let sum : sum_by (λ y. cond (p y) c 0) (x ∷ xs) ≡ 0 + sum_by (λ y. cond (p y) c 0) xs =
          sum_by-cons (λ z. cond (p z) c 0) x xs ∙ ap (λ b. cond b c 0 + sum_by (λ y. cond (p y) c 0) xs) e in
          let some = later (omega arith) in
          omega arith

module _ (es : List Entry) where
  no_argument : (pins : List blocks.Pin) → sum_by (λ (p : blocks.Pin). weight es [] p.name) pins ≡ 0
  unfolding weight
  no_argument [] = refl
  no_argument (p ∷ pins) = let all = sum_by-cons (λ (p : blocks.Pin). weight es [] p.name) p pins in let later = no_argument pins in omega arith

  one_argument : (a : ArgumentTree) (rest : List ArgumentTree) (c : ℕ) (pin : List ℕ) → length (nodes_at_pin (actual_of es a.value)) ≤ c →
      weight es (a ∷ rest) pin ≤ cond (is_same_name a.pin.text pin) c 0 + weight es rest pin
  unfolding weight
  one_argument a rest c pin few = by (is_same_name a.pin.text pin)
    where
      by : (b : Bool) → length (nodes_at_pin (given es (cond b (Some a) (find (λ x. is_same_name x.pin.text pin) rest)))) ≤ cond b c 0 + weight es rest pin
      by true = omega arith
      by false = omega arith

  more_arguments : (a : ArgumentTree) (rest : List ArgumentTree) (c : ℕ) (pins : List blocks.Pin) → length (nodes_at_pin (actual_of es a.value)) ≤ c →
      sum_by (λ (p : blocks.Pin). weight es (a ∷ rest) p.name) pins
      ≤ sum_by (λ (p : blocks.Pin). cond (is_same_name a.pin.text p.name) c 0) pins + sum_by (λ (p : blocks.Pin). weight es rest p.name) pins
  more_arguments a rest c [] few = omega arith
  more_arguments a rest c (p ∷ pins) few =
      let x = sum_by-cons (λ (p : blocks.Pin). weight es (a ∷ rest) p.name) p pins in
      let y = sum_by-cons (λ (p : blocks.Pin). cond (is_same_name a.pin.text p.name) c 0) p pins in
      let z = sum_by-cons (λ (p : blocks.Pin). weight es rest p.name) p pins in
      let one = one_argument a rest c p.name few in
      let later = more_arguments a rest c pins few in
      omega arith

module _ (IsNamed : List ℕ → Type 0) (es : List Entry) (limit : ℕ)
    (name_below : (n : Name) → at_read n (sort_of es n) ≡ [] → number es n < limit)
    (pin_below : (n q : Name) → at_read_pin n q (sort_of es n) ≡ [] → pin_number es n q < limit) where
  -- what stands at a pin has at most the nodes of its argument
  few_at_pin : (v : SumTree) → SumWhole IsNamed v → flat_map (broken_by es) (value_uses v) ≡ [] → length (nodes_at_pin (actual_of es v)) ≤ sum_nodes v
  few_at_pin no_product w none = absurd w
  few_at_pin (product no_factor ps) w none = absurd w.0
  few_at_pin (product (factor (tree.Literal b p) no_factor) no_product) w none = omega arith
  few_at_pin (product (factor (tree.Time t p) no_factor) no_product) w none = omega arith
  few_at_pin v w none = let f = (sum_fine IsNamed es limit name_below pin_below v w none).nodes_are in omega arith

  few_in_call : (n : Name) (kind : Kind) (arguments : List ArgumentTree) → AllByRecursion (ArgumentWhole IsNamed) arguments →
      flat_map (broken_by es) (flat_map (argument_uses n) arguments) ≡ [] →
      sum_by (λ (p : blocks.Pin). weight es arguments p.name) (block kind).inputs ≤ sum_by (λ a. sum_nodes a.value) arguments
  few_in_call n kind [] w none = let z = no_argument es (block kind).inputs in omega arith
  few_in_call n kind (a ∷ rest) w none =
      let both = sym (flat_map-append (broken_by es) (argument_uses n a) (flat_map (argument_uses n) rest)) ∙ none in
      let here = none_right (broken_by es (gives n a.pin)) (flat_map (broken_by es) (value_uses a.value)) (none_left _ (flat_map (broken_by es) (flat_map (argument_uses n) rest)) both) in
      let few = few_at_pin a.value w.0.1 here in
      let later = few_in_call n kind rest w.1 (none_right (flat_map (broken_by es) (argument_uses n a)) _ both) in
      let more = more_arguments es a rest (sum_nodes a.value) (block kind).inputs few in
      let once = once_only (λ (p : blocks.Pin). is_same_name a.pin.text p.name) (sum_nodes a.value) (block kind).inputs (inputs_apart kind a.pin.text) in
      let sum = sum_by-cons (λ (x : ArgumentTree). sum_nodes x.value) a rest in
      omega arith

  weights_are : (arguments : List ArgumentTree) (pins : List blocks.Pin) →
      length (flat_map nodes_at_pin (map (λ (p : blocks.Pin). actual_at es arguments p.name) pins)) ≡ sum_by (λ (p : blocks.Pin). weight es arguments p.name) pins
  unfolding weight
  weights_are arguments [] = refl
  weights_are arguments (p ∷ pins) =
      length-append (nodes_at_pin (actual_at es arguments p.name)) (flat_map nodes_at_pin (map (λ (p : blocks.Pin). actual_at es arguments p.name) pins))
      ∙ ap (λ k. length (nodes_at_pin (actual_at es arguments p.name)) + k) (weights_are arguments pins)
      ∙ sym (sum_by-cons (λ (p : blocks.Pin). weight es arguments p.name) p pins)

  few_in_step : (st : StatementTree) → StatementWhole IsNamed st → flat_map (broken_by es) (statement_uses st) ≡ [] → length (nodes_of_step (action es st)) ≤ statement_nodes st
  few_in_step (Assign t v) w none =
      let f = (sum_fine IsNamed es limit name_below pin_below v w.1 (none_right (broken_by es (target_use t)) _ none)).nodes_are in omega arith
  few_in_step (Call n arguments) w none =
      let few = few_in_call n (kind_of (sort_or (sort_of es n))) arguments w.1 (none_right (broken_by es (runs n)) _ none) in
      let are = weights_are arguments (block (kind_of (sort_or (sort_of es n)))).inputs in
      omega arith

  pub few_in_steps : (ss : List StatementTree) → AllByRecursion (StatementWhole IsNamed) ss → flat_map (broken_by es) (flat_map statement_uses ss) ≡ [] →
      length (nodes_of_steps (map (action es) ss)) ≤ sum_by statement_nodes ss
  few_in_steps [] w none = omega arith
  few_in_steps (st ∷ ss) w none =
      let both = sym (flat_map-append (broken_by es) (statement_uses st) (flat_map statement_uses ss)) ∙ none in
      let here = few_in_step st w.0 (none_left _ (flat_map (broken_by es) (flat_map statement_uses ss)) both) in
      let later = few_in_steps ss w.1 (none_right (flat_map (broken_by es) (statement_uses st)) _ both) in
      let all = length-append (nodes_of_step (action es st)) (nodes_of_steps (map (action es) ss)) in
      let sum = sum_by-cons statement_nodes st ss in
      omega arith
