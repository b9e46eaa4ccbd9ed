-- How many rows and bytes the code of an application has, and that each number fits its bytes.
use Rattle.std.proofs.Common.{◌≡◌, ℕ, zero, suc, ◌+◌, ◌*◌, ◌^◌, ◌<◌, ◌≤◌, Bool, true, false, List, [], ◌∷◌, length, take, drop, refl, ap, ◌∙◌, arith, length-append, lit<, Some, get_or}
use Rattle.std.specs.Prelude.{slice_index_or, slice_get, sum_by}
use Rattle.std.specs.List.{flat_map, range_with_len}
use Rattle.std.proofs.lemmas.List.{drop_more}
use Rattle.std.proofs.lemmas.List.Sums.{sum_by-cons}
use Rattle.ps_model.specs.declared.kind.Kind.{Kind}
use Rattle.ps_model.specs.Formula.{Formula, Formulas, signal, all_of, any_of, no_operand, operand}
use Rattle.ps_model.specs.Action.{Action, Actual, free, literal, time, wired, assigns, calls}
use Rattle.ps_model.specs.Blocks.{block}
use Rattle.ps_model.specs.Budgets.{boolean_count, IsCall}
use Rattle.ps_model.specs.Network.{Network, signal_count, instance_count, kind_at, first_pin}
use Rattle.ps_model.specs.Nodes.{nodes, nodes_below, nodes_at_pin, nodes_of_step}
use Rattle.ps_model.specs.Scanning.{pin_at, limit_of}
use Rattle.ps_model.specs.Sound.{IsSound}
use Rattle.ps_model.specs.Values.{IsBelow, AreBelow}
use Rattle.ps_model.proofs.Budgeting.{boolean_within}
use Rattle.ps_model.proofs.Counting.{few_steps}
use Rattle.ps_model.proofs.KindNumbers.{number_at_most}
use Rattle.ps_machine.specs.Bytes.{bit}
use Rattle.ps_machine.proofs.Fine.{IsFinePin}
use Rattle.ps_machine.proofs.Fitting.{StepFits, AllFit}
use Rattle.ps_machine.proofs.PastPins.{few_pins}
use Rattle.ps_decision.specs.declared.layout.TheConstants.{PIN_CELLS, FIRST_PIN}
use Rattle.ps_decision.specs.declared.row.Row.TheVariants.{Set, Call, End}
use Rattle.ps_decision.specs.Budget.{decisions, decisions_below, count_at_pin, count_of_step, turns_c}
use Rattle.ps_decision.specs.Code.{size_all, behind_value, if_last, value_rows, all_rows, any_rows, assigned_rows, pin_rows, rows_at_pin, in_order, pins_rows, step_rows, network_rows, code_c}
use Rattle.ps_decision.proofs.PlacedRows.{AreShort, short-append, size_all-append, length-bytes, sizes_at_most}

-- ---- the rows of a value
mutual
  pub length_of_value : (e : Formula) (at yes_at no_at : ℕ) → length (value_rows e at yes_at no_at) ≡ decisions e
  length_of_value (signal s) at yes_at no_at = refl
  length_of_value (all_of es) at yes_at no_at = length_of_all es at yes_at no_at
  length_of_value (any_of es) at yes_at no_at = length_of_any es at yes_at no_at

  length_of_all : (es : Formulas) (at yes_at no_at : ℕ) → length (all_rows es at yes_at no_at) ≡ decisions_below es
  length_of_all no_operand at yes_at no_at = refl
  length_of_all (operand e es) at yes_at no_at =
      let behind = behind_value at e in
      omega (
        arith,
        length-append (value_rows e at (if_last es yes_at behind) no_at) (all_rows es behind yes_at no_at),
        length_of_value e at (if_last es yes_at behind) no_at,
        length_of_all es behind yes_at no_at,
      )

  length_of_any : (es : Formulas) (at yes_at no_at : ℕ) → length (any_rows es at yes_at no_at) ≡ decisions_below es
  length_of_any no_operand at yes_at no_at = refl
  length_of_any (operand e es) at yes_at no_at =
      let behind = behind_value at e in
      omega (
        arith,
        length-append (value_rows e at yes_at (if_last es no_at behind)) (any_rows es behind yes_at no_at),
        length_of_value e at yes_at (if_last es no_at behind),
        length_of_any es behind yes_at no_at,
      )

mutual
  pub size_of_value : (e : Formula) (at yes_at no_at : ℕ) → size_all (value_rows e at yes_at no_at) ≡ 11 * decisions e
  size_of_value (signal s) at yes_at no_at = refl
  size_of_value (all_of es) at yes_at no_at = size_of_all es at yes_at no_at
  size_of_value (any_of es) at yes_at no_at = size_of_any es at yes_at no_at

  pub size_of_all : (es : Formulas) (at yes_at no_at : ℕ) → size_all (all_rows es at yes_at no_at) ≡ 11 * decisions_below es
  size_of_all no_operand at yes_at no_at = refl
  size_of_all (operand e es) at yes_at no_at =
      let behind = behind_value at e in
      omega (
        arith,
        size_all-append (value_rows e at (if_last es yes_at behind) no_at) (all_rows es behind yes_at no_at),
        size_of_value e at (if_last es yes_at behind) no_at,
        size_of_all es behind yes_at no_at,
      )

  pub size_of_any : (es : Formulas) (at yes_at no_at : ℕ) → size_all (any_rows es at yes_at no_at) ≡ 11 * decisions_below es
  size_of_any no_operand at yes_at no_at = refl
  size_of_any (operand e es) at yes_at no_at =
      let behind = behind_value at e in
      omega (
        arith,
        size_all-append (value_rows e at yes_at (if_last es no_at behind)) (any_rows es behind yes_at no_at),
        size_of_value e at yes_at (if_last es no_at behind),
        size_of_any es behind yes_at no_at,
      )

-- ---- how many rows
assigned_are : (target : ℕ) (e : Formula) (at : ℕ) → length (assigned_rows target e at) ≡ decisions e + 2
assigned_are target e at =
    let set = behind_value at e in
    omega (
      arith,
      length-append (value_rows e at set (set + 8)) (Set target 1 (set + 16) ∷ Set target 0 (set + 16) ∷ []),
      length_of_value e at set (set + 8),
    )

pub pin_are : (target : ℕ) (default : Bool) (a : Actual) (at : ℕ) → length (pin_rows target default a at) ≡ count_at_pin a
pin_are target default free at = refl
pin_are target default (literal b) at = refl
pin_are target default (time t) at = refl
pin_are target default (wired e) at = assigned_are target e at

pub pins_are : (kind : Kind) (args : List Actual) (n j at : ℕ) → j + n ≤ length args →
    length (in_order (rows_at_pin kind args) (range_with_len j n) at) ≡ sum_by count_at_pin (take n (drop j args))
pins_are kind args zero j at low = refl
pins_are kind args (suc n) j at low =
    let inside : j < length args = omega arith in
    let a = get_or args j free in
    let rest : take (suc n) (drop j args) ≡ a ∷ take n (drop (j + 1) args) = ap (take (suc n)) (drop_more args j free inside) in
    let here = rows_at_pin kind args j at in
    let next = at + size_all here in
    omega (
      arith,
      length-append here (in_order (rows_at_pin kind args) (range_with_len (j + 1) n) next),
      pin_are (FIRST_PIN + j) (pin_at kind j).free a at,
      pins_are kind args n (j + 1) next (omega arith),
      ap (sum_by count_at_pin) rest ∙ sum_by-cons count_at_pin a (take n (drop (j + 1) args)),
    )

pub step_are : (net : Network) (a : Action) (at : ℕ) → IsCall net a → length (step_rows net a at) ≡ count_of_step net a
step_are net (assigns t e) at is = assigned_are t e at
step_are net (calls i args) at is =
    let kind = kind_at net i in
    let many = is.1 in
    let within = boolean_within kind in
    omega (
      arith,
      length-append (pins_rows kind args at) (Call i (block kind).number (first_pin net i) (limit_of kind args) ∷ []),
      pins_are kind args (boolean_count kind) 0 at (omega arith),
    )

-- each of these steps that is a call is one of a declared instance, with its arguments
abbrev pub AreCalls : Network → List Action → Type 0
AreCalls net steps = (k : ℕ) (a : Action) → slice_get steps k ≡ Some a → IsCall net a

pub are_calls : (net : Network) → IsSound net → AreCalls net net.steps
are_calls net sound k (assigns t e) at = tt
are_calls net sound k (calls i args) at = (sound.instances k i args at, sound.arguments k i args at)

pub steps_are : (net : Network) (steps : List Action) (at : ℕ) → AreCalls net steps → length (in_order (step_rows net) steps at) ≡ sum_by (count_of_step net) steps
steps_are net [] at are = refl
steps_are net (a ∷ rest) at are =
    let here = step_rows net a at in
    omega (
      arith,
      length-append here (in_order (step_rows net) rest (at + size_all here)),
      step_are net a at (are 0 a refl),
      steps_are net rest (at + size_all here) (λ k b there. are (suc k) b there),
      sum_by-cons (count_of_step net) a rest,
    )

pub turns_are : (net : Network) → IsSound net → length (network_rows net) ≡ turns_c net
turns_are net sound = omega (arith, length-append (in_order (step_rows net) net.steps 0) (End ∷ []), steps_are net net.steps 0 (are_calls net sound))

-- ---- and that these are few
mutual
  decisions_few : (e : Formula) → decisions e ≤ length (nodes e)
  decisions_few (signal s) = omega arith
  decisions_few (all_of es) = omega (arith, below_few es)
  decisions_few (any_of es) = omega (arith, below_few es)

  below_few : (es : Formulas) → decisions_below es ≤ length (nodes_below es)
  below_few no_operand = omega arith
  below_few (operand e es) = omega (arith, decisions_few e, below_few es, length-append (nodes e) (nodes_below es))

pin_few : (a : Actual) → count_at_pin a ≤ length (nodes_at_pin a) + 2
pin_few free = omega arith
pin_few (literal b) = omega arith
pin_few (time t) = omega arith
pin_few (wired e) = omega (arith, decisions_few e)

pins_few : (args : List Actual) (n : ℕ) → sum_by count_at_pin (take n args) ≤ length (flat_map nodes_at_pin args) + 2 * n
pins_few args zero = omega arith
pins_few [] (suc n) = omega arith
pins_few (a ∷ args) (suc n) =
    omega (arith, sum_by-cons count_at_pin a (take n args), pin_few a, pins_few args n, length-append (nodes_at_pin a) (flat_map nodes_at_pin args))

step_few : (net : Network) (a : Action) → count_of_step net a ≤ length (nodes_of_step a) + 27
step_few net (assigns t e) = omega (arith, decisions_few e)
step_few net (calls i args) = omega (arith, pins_few args (boolean_count (kind_at net i)), few_pins (kind_at net i))

steps_few : (net : Network) (steps : List Action) → sum_by (count_of_step net) steps ≤ length (flat_map nodes_of_step steps) + 27 * length steps
steps_few net [] = omega arith
steps_few net (a ∷ rest) =
    omega (arith, sum_by-cons (count_of_step net) a rest, step_few net a, steps_few net rest, length-append (nodes_of_step a) (flat_map nodes_of_step rest))

pub turns_few : (net : Network) → IsSound net → turns_c net ≤ 1000000
turns_few net sound = omega (arith, steps_few net net.steps, sound.few_nodes, few_steps net sound, sound.few_signals)

pub code_small : (net : Network) → IsSound net → length (code_c net) < 2 ^ 32
code_small net sound = omega (arith, length-bytes (network_rows net), sizes_at_most (network_rows net), turns_are net sound, turns_few net sound)

-- ---- each number fits its bytes
bit_short : (b : Bool) → bit b < 256
bit_short true = lit< tt
bit_short false = lit< tt

either_short : (es : Formulas) (last more : ℕ) → last < 2 ^ 32 → more < 2 ^ 32 → if_last es last more < 2 ^ 32
either_short no_operand last more l m = l
either_short (operand e es) last more l m = m

module _ (n : ℕ) (few : n ≤ 4000) where
  mutual
    value_short : (e : Formula) (at yes_at no_at : ℕ) → IsBelow n e → at + 11 * decisions e < 2 ^ 32 → yes_at < 2 ^ 32 → no_at < 2 ^ 32 → AreShort (value_rows e at yes_at no_at)
    value_short (signal s) at yes_at no_at is room y n = ((omega arith, y, n), tt)
    value_short (all_of es) at yes_at no_at is room y n = all_short es at yes_at no_at is room y n
    value_short (any_of es) at yes_at no_at is room y n = any_short es at yes_at no_at is room y n

    all_short : (es : Formulas) (at yes_at no_at : ℕ) → AreBelow n es → at + 11 * decisions_below es < 2 ^ 32 → yes_at < 2 ^ 32 → no_at < 2 ^ 32 → AreShort (all_rows es at yes_at no_at)
    all_short no_operand at yes_at no_at is room y n = tt
    all_short (operand e es) at yes_at no_at is room y n =
        let behind = behind_value at e in
        let goes = if_last es yes_at behind in
        short-append (value_rows e at goes no_at) (all_rows es behind yes_at no_at)
        (value_short e at goes no_at is.0 (omega arith) (either_short es yes_at behind y (omega arith)) n)
        (all_short es behind yes_at no_at is.1 (omega arith) y n)

    any_short : (es : Formulas) (at yes_at no_at : ℕ) → AreBelow n es → at + 11 * decisions_below es < 2 ^ 32 → yes_at < 2 ^ 32 → no_at < 2 ^ 32 → AreShort (any_rows es at yes_at no_at)
    any_short no_operand at yes_at no_at is room y n = tt
    any_short (operand e es) at yes_at no_at is room y n =
        let behind = behind_value at e in
        let goes = if_last es no_at behind in
        short-append (value_rows e at yes_at goes) (any_rows es behind yes_at no_at)
        (value_short e at yes_at goes is.0 (omega arith) y (either_short es no_at behind n (omega arith)))
        (any_short es behind yes_at no_at is.1 (omega arith) y n)

  assigned_short : (target : ℕ) (e : Formula) (at : ℕ) → target < 2 ^ 16 → IsBelow n e → at + 11 * (decisions e + 2) < 2 ^ 32 → AreShort (assigned_rows target e at)
  assigned_short target e at low is room =
      let set = behind_value at e in
      short-append (value_rows e at set (set + 8)) (Set target 1 (set + 16) ∷ Set target 0 (set + 16) ∷ [])
      (value_short e at set (set + 8) is (omega arith) (omega arith) (omega arith))
      ((low, lit< tt, omega arith), ((low, lit< tt, omega arith), tt))

  pin_short : (target : ℕ) (default : Bool) (a : Actual) (at : ℕ) → target < 2 ^ 16 → IsFinePin n a → at + 11 * count_at_pin a < 2 ^ 32 → AreShort (pin_rows target default a at)
  pin_short target default free at low is room = ((low, bit_short default, omega arith), tt)
  pin_short target default (literal b) at low is room = ((low, bit_short b, omega arith), tt)
  pin_short target default (time t) at low is room = ((low, lit< tt, omega arith), tt)
  pin_short target default (wired e) at low is room = assigned_short target e at low is.below room

  pins_short : (kind : Kind) (args : List Actual) (count j at : ℕ) → j + count ≤ PIN_CELLS → ((k : ℕ) → IsFinePin n (slice_index_or args k free)) →
      at + 11 * length (in_order (rows_at_pin kind args) (range_with_len j count) at) < 2 ^ 32 → AreShort (in_order (rows_at_pin kind args) (range_with_len j count) at)
  pins_short kind args zero j at low is room = tt
  pins_short kind args (suc count) j at low is room =
      let here = rows_at_pin kind args j at in
      let next = at + size_all here in
      let rest = in_order (rows_at_pin kind args) (range_with_len (j + 1) count) next in
      let a = slice_index_or args j free in
      let long = length-append here rest in
      let most = sizes_at_most here in
      let same = pin_are (FIRST_PIN + j) (pin_at kind j).free a at in
      short-append here rest (pin_short (FIRST_PIN + j) (pin_at kind j).free a at (omega arith) (is j) (omega arith))
      (pins_short kind args count (j + 1) next (omega arith) is (omega arith))

module _ (net : Network) (few : signal_count net ≤ 4000) (instances : instance_count net ≤ 400) where
  step_short : (a : Action) (at : ℕ) → IsCall net a → StepFits net a → at + 11 * count_of_step net a < 2 ^ 32 → AreShort (step_rows net a at)
  step_short (assigns t e) at call fits room = let low = fits.0 in assigned_short (signal_count net) few t e at (omega arith) fits.1.below room
  step_short (calls i args) at call fits room =
      let kind = kind_at net i in
      let within = fits.within in
      let outs = fits.room in
      let many = call.1 in
      let inside = boolean_within kind in
      let rows = pins_are kind args (boolean_count kind) 0 at (omega arith) in
      short-append (pins_rows kind args at) (Call i (block kind).number (first_pin net i) (limit_of kind args) ∷ [])
      (pins_short (signal_count net) few kind args (boolean_count kind) 0 at (omega (arith, fits.few)) fits.pins (omega arith))
      ((omega arith, omega (arith, number_at_most kind), omega arith, fits.limit), tt)

  steps_short : (steps : List Action) (at : ℕ) → AreCalls net steps → AllFit net steps → at + 11 * sum_by (count_of_step net) steps < 2 ^ 32 → AreShort (in_order (step_rows net) steps at)
  steps_short [] at are fits room = tt
  steps_short (a ∷ rest) at are fits room =
      let here = step_rows net a at in
      let total = sum_by-cons (count_of_step net) a rest in
      let most = sizes_at_most here in
      let same = step_are net a at (are 0 a refl) in
      short-append here (in_order (step_rows net) rest (at + size_all here)) (step_short a at (are 0 a refl) fits.0 (omega arith))
      (steps_short rest (at + size_all here) (λ k b there. are (suc k) b there) fits.1 (omega arith))

  pub network_short : IsSound net → AllFit net net.steps → AreShort (network_rows net)
  network_short sound fits =
      let small = turns_few net sound in
      short-append (in_order (step_rows net) net.steps 0) (End ∷ []) (steps_short net.steps 0 (are_calls net sound) fits (omega arith)) (tt, tt)

-- ---- sums of some of the parts
pub sum_within : {X : Type 0} (f : X → ℕ) (xs : List X) (k n : ℕ) (x : X) → slice_get xs k ≡ Some x → k < n → sum_by f (take k xs) + f x ≤ sum_by f (take n xs)
sum_within f [] k n x at low = absurd cc
sum_within f (y ∷ xs) k zero x at low = absurd (omega arith)
sum_within f (y ∷ xs) zero (suc n) x at low =
    let same : y ≡ x = cc in
    omega (arith, sum_by-cons f y (take n xs), ap f same)
sum_within f (y ∷ xs) (suc k) (suc n) x at low =
    omega (arith, sum_by-cons f y (take k xs), sum_by-cons f y (take n xs), sum_within f xs k n x at (omega arith))

pub sum_within_all : {X : Type 0} (f : X → ℕ) (xs : List X) (k : ℕ) (x : X) → slice_get xs k ≡ Some x → sum_by f (take k xs) + f x ≤ sum_by f xs
sum_within_all f [] k x at = absurd cc
sum_within_all f (y ∷ xs) zero x at =
    let same : y ≡ x = cc in
    omega (arith, sum_by-cons f y xs, ap f same)
sum_within_all f (y ∷ xs) (suc k) x at =
    omega (arith, sum_by-cons f y (take k xs), sum_by-cons f y xs, sum_within_all f xs k x at)
