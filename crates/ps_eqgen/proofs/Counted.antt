-- How many rows and bytes the code of an application has, and that each number fits its bytes.
use Rattle.std.proofs.Common.{◌≡◌, ℕ, zero, suc, ◌+◌, ◌-◌, ◌*◌, ◌^◌, ◌<◌, ◌≤◌, Bool, true, false, List, [], ◌∷◌, ◌++◌, length, map, drop, refl, ap, ◌∙◌, arith, length-append, lit<, Some, get_or}
use Rattle.std.specs.Prelude.{slice_index_or, slice_get}
use Rattle.std.specs.List.{flat_map, range_with_len}
use Rattle.std.proofs.lemmas.List.{drop_more}
use Rattle.std.proofs.lemmas.List.FromFn.{length-map-range_with_len}
use Rattle.ps_model.specs.declared.kind.Kind.{Kind}
use Rattle.ps_model.specs.Formula.{Formula, Formulas, signal, all_of, any_of, no_operand, operand}
use Rattle.ps_model.specs.Action.{Action, Actual, free, literal, time, wired, assigns, calls}
use Rattle.ps_model.specs.Budgets.{equation_rows, equation_rows_below, equation_rows_at_pin, equation_rows_of_step, turns_b, boolean_count}
use Rattle.ps_model.specs.Network.{Network, signal_count, instance_count, kind_at}
use Rattle.ps_model.specs.Nodes.{nodes, nodes_below, nodes_at_pin, nodes_of_step}
use Rattle.ps_model.specs.Scanning.{pin_at}
use Rattle.ps_model.specs.Sound.{IsSound}
use Rattle.ps_model.proofs.Budgeting.{boolean_within}
use Rattle.ps_machine.proofs.Fine.{IsFine, AreFine, IsFinePin, first_fine, later_fine}
use Rattle.ps_machine.proofs.Fitting.{StepFits, AllFit}
use Rattle.ps_machine.proofs.Totals.{length_of_steps, length_of_pins, steps_small}
use Rattle.ps_eqvm.specs.declared.layout.TheConstants.{WORK_CELLS}
use Rattle.ps_eqvm.specs.Rows.{EquationRow, last_row, set_row, all_row, any_row, size_of}
use Rattle.ps_eqvm.specs.Code.{encoded, bytes_of, work, constant_of, operand_at, expression_rows, group_rows, later_rows, pin_rows, pin_operand, rows_at, operand_of_pin, pins_rows, call_row, step_rows, network_rows, code_b}
use Rattle.ps_eqgen.proofs.Decoding.{size_all, size_all-append, length-encoded, IsShort, AreShort, Words, short-append}

-- ---- how many rows
mutual
  rows_are : (d : ℕ) (e : Formula) → length (expression_rows d e) ≡ equation_rows e
  rows_are d (signal s) = refl
  rows_are d (all_of es) = group_are d all_row es
  rows_are d (any_of es) = group_are d any_row es

  group_are : (d : ℕ) (join : ℕ → ℕ → EquationRow) (es : Formulas) → length (group_rows d join es) ≡ equation_rows_below es
  group_are d join no_operand = refl
  group_are d join (operand e es) =
      omega (
        arith,
        length-append (expression_rows (d + 1) e) (set_row (work d) (operand_at (d + 1) e) ∷ later_rows d join es),
        rows_are (d + 1) e,
        later_are d join es,
      )

  later_are : (d : ℕ) (join : ℕ → ℕ → EquationRow) (es : Formulas) → length (later_rows d join es) ≡ equation_rows_below es
  later_are d join no_operand = refl
  later_are d join (operand e es) =
      omega (
        arith,
        length-append (expression_rows (d + 1) e) (join (work d) (operand_at (d + 1) e) ∷ later_rows d join es),
        rows_are (d + 1) e,
        later_are d join es,
      )

pin_are : (d : ℕ) (a : Actual) → length (pin_rows d a) ≡ equation_rows_at_pin a
pin_are d free = refl
pin_are d (literal b) = refl
pin_are d (time t) = refl
pin_are d (wired e) = rows_are d e

step_are : (net : Network) (sound : IsSound net) (k : ℕ) (a : Action) → slice_get net.steps k ≡ Some a → length (step_rows net a) ≡ equation_rows_of_step net a
step_are net sound k (assigns t e) at = omega (arith, length-append (expression_rows 0 e) (set_row t (operand_at 0 e) ∷ []), rows_are 0 e)
step_are net sound k (calls i args) at =
    let kind = kind_at net i in
    let many = sound.arguments k i args at in
    let within = boolean_within kind in
    let all = length_of_pins (rows_at args) equation_rows_at_pin args free (boolean_count kind) 0 (λ j. pin_are j (slice_index_or args j free)) (omega arith) in
    omega (arith, length-append (pins_rows kind args) (call_row net i args ∷ []), all)

pub turns_are : (net : Network) → IsSound net → length (network_rows net) ≡ turns_b net
turns_are net sound = omega (arith, length-append (flat_map (step_rows net) net.steps) (last_row ∷ []), length_of_steps (step_rows net) (equation_rows_of_step net) net.steps (step_are net sound))

-- ---- how many bytes
mutual
  size_bound : (d : ℕ) (e : Formula) → size_all (expression_rows d e) + 5 ≤ 5 * length (nodes e)
  size_bound d (signal s) = omega arith
  size_bound d (all_of es) = omega (arith, group_bound d all_row (λ t c. refl) es)
  size_bound d (any_of es) = omega (arith, group_bound d any_row (λ t c. refl) es)

  group_bound : (d : ℕ) (join : ℕ → ℕ → EquationRow) → ((t c : ℕ) → size_of (join t c) ≡ 5) → (es : Formulas) → size_all (group_rows d join es) ≤ 5 * length (nodes_below es)
  group_bound d join five no_operand = omega arith
  group_bound d join five (operand e es) =
      omega (
        arith,
        size_all-append (expression_rows (d + 1) e) (set_row (work d) (operand_at (d + 1) e) ∷ later_rows d join es),
        size_bound (d + 1) e,
        later_bound d join five es,
        length-append (nodes e) (nodes_below es),
      )

  later_bound : (d : ℕ) (join : ℕ → ℕ → EquationRow) → ((t c : ℕ) → size_of (join t c) ≡ 5) → (es : Formulas) → size_all (later_rows d join es) ≤ 5 * length (nodes_below es)
  later_bound d join five no_operand = omega arith
  later_bound d join five (operand e es) =
      omega (
        arith,
        size_all-append (expression_rows (d + 1) e) (join (work d) (operand_at (d + 1) e) ∷ later_rows d join es),
        size_bound (d + 1) e,
        later_bound d join five es,
        length-append (nodes e) (nodes_below es),
        five (work d) (operand_at (d + 1) e),
      )

pin_bound : (d : ℕ) (a : Actual) → size_all (pin_rows d a) ≤ 5 * length (nodes_at_pin a)
pin_bound d free = omega arith
pin_bound d (literal b) = omega arith
pin_bound d (time t) = omega arith
pin_bound d (wired e) = omega (arith, size_bound d e)

pins_bound : (args : List Actual) (count j : ℕ) → j + count ≤ length args →
    size_all (flat_map (rows_at args) (range_with_len j count)) ≤ 5 * length (flat_map nodes_at_pin (drop j args))
pins_bound args zero j low = omega arith
pins_bound args (suc count) j low =
    let inside : j < length args = omega arith in
    let a = get_or args j free in
    let rest : flat_map nodes_at_pin (drop j args) ≡ nodes_at_pin a ++ flat_map nodes_at_pin (drop (j + 1) args) = ap (flat_map nodes_at_pin) (drop_more args j free inside) in
    omega (
      arith,
      size_all-append (rows_at args j) (flat_map (rows_at args) (range_with_len (j + 1) count)),
      pin_bound j a,
      pins_bound args count (j + 1) (omega arith),
      ap length rest ∙ length-append (nodes_at_pin a) (flat_map nodes_at_pin (drop (j + 1) args)),
    )

step_bound : (net : Network) (sound : IsSound net) (k : ℕ) (a : Action) → slice_get net.steps k ≡ Some a → StepFits net a → size_all (step_rows net a) ≤ 5 * length (nodes_of_step a) + 37
step_bound net sound k (assigns t e) at fits = omega (arith, size_all-append (expression_rows 0 e) (set_row t (operand_at 0 e) ∷ []), size_bound 0 e)
step_bound net sound k (calls i args) at fits =
    let kind = kind_at net i in
    let many = sound.arguments k i args at in
    let within = boolean_within kind in
    let few = fits.few in
    omega (
      arith,
      size_all-append (pins_rows kind args) (call_row net i args ∷ []),
      pins_bound args (boolean_count kind) 0 (omega arith),
      length-map-range_with_len (operand_of_pin kind args) 0 (boolean_count kind),
    )

length-bytes : (rs : List EquationRow) → length (bytes_of rs) ≡ size_all rs
length-bytes [] = refl
length-bytes (r ∷ rs) = omega (arith, length-append (encoded r) (bytes_of rs), length-encoded r, length-bytes rs)

pub code_small : (net : Network) → IsSound net → ((k : ℕ) (a : Action) → slice_get net.steps k ≡ Some a → StepFits net a) → length (code_b net) < 2 ^ 32
code_small net sound fits =
    let all = steps_small size_all (step_rows net) refl size_all-append net sound (λ k a at. step_bound net sound k a at (fits k a at)) in
    omega (arith, length-bytes (network_rows net), size_all-append (flat_map (step_rows net) net.steps) (last_row ∷ []), all)

-- ---- each number fits its bytes
module _ (n : ℕ) (few : n ≤ 4000) where
  operand_short : (e : Formula) (r d : ℕ) → IsFine n r e → d + r ≤ WORK_CELLS → operand_at d e < 2 ^ 16
  operand_short (signal s) r d is low = let below : s < n = is.below in omega arith
  operand_short (all_of es) r d is low = omega arith
  operand_short (any_of es) r d is low = omega arith

  abbrev JoinsShort : (ℕ → ℕ → EquationRow) → Type 0
  JoinsShort join = (t c : ℕ) → t < 2 ^ 16 → c < 2 ^ 16 → IsShort (join t c)

  mutual
    expression_short : (e : Formula) (r d : ℕ) → IsFine n r e → d + r ≤ WORK_CELLS → AreShort (expression_rows d e)
    expression_short (signal s) r d is low = tt
    expression_short (all_of es) r d is low =
        let deep = is.shallow in
        let fine : AreFine n (r - 1) es = record { below = is.below; full = is.full.1; shallow = omega arith } in
        group_short all_row (λ t c a b. (a, b)) es (r - 1) d fine (omega arith)
    expression_short (any_of es) r d is low =
        let deep = is.shallow in
        let fine : AreFine n (r - 1) es = record { below = is.below; full = is.full.1; shallow = omega arith } in
        group_short any_row (λ t c a b. (a, b)) es (r - 1) d fine (omega arith)

    group_short : (join : ℕ → ℕ → EquationRow) → JoinsShort join → (es : Formulas) (r d : ℕ) → AreFine n r es → d + 1 + r ≤ WORK_CELLS → AreShort (group_rows d join es)
    group_short join j no_operand r d is low = tt
    group_short join j (operand e es) r d is low =
        let first = first_fine n r e es is in
        short-append (expression_rows (d + 1) e) (set_row (work d) (operand_at (d + 1) e) ∷ later_rows d join es) (expression_short e r (d + 1) first low)
        ((omega arith, operand_short e r (d + 1) first low), later_short join j es r d (later_fine n r e es is) low)

    later_short : (join : ℕ → ℕ → EquationRow) → JoinsShort join → (es : Formulas) (r d : ℕ) → AreFine n r es → d + 1 + r ≤ WORK_CELLS → AreShort (later_rows d join es)
    later_short join j no_operand r d is low = tt
    later_short join j (operand e es) r d is low =
        let first = first_fine n r e es is in
        short-append (expression_rows (d + 1) e) (join (work d) (operand_at (d + 1) e) ∷ later_rows d join es) (expression_short e r (d + 1) first low)
        (j (work d) (operand_at (d + 1) e) (omega arith) (operand_short e r (d + 1) first low), later_short join j es r d (later_fine n r e es is) low)

  constant_short : (b : Bool) → constant_of b < 2 ^ 16
  constant_short true = lit< tt
  constant_short false = lit< tt

  pin_short : (a : Actual) (d : ℕ) → IsFinePin n a → d + 34 ≤ WORK_CELLS → AreShort (pin_rows d a)
  pin_short free d is low = tt
  pin_short (literal b) d is low = tt
  pin_short (time t) d is low = tt
  pin_short (wired e) d is low = expression_short e 34 d is low

  pin_operand_short : (default : Bool) (a : Actual) (d : ℕ) → IsFinePin n a → d + 34 ≤ WORK_CELLS → pin_operand default d a < 2 ^ 16
  pin_operand_short default free d is low = constant_short default
  pin_operand_short default (literal b) d is low = constant_short b
  pin_operand_short default (time t) d is low = constant_short false
  pin_operand_short default (wired e) d is low = operand_short e 34 d is low

  pins_short : (args : List Actual) (count j : ℕ) → ((i : ℕ) → IsFinePin n (slice_index_or args i free)) → j + count ≤ 14 → AreShort (flat_map (rows_at args) (range_with_len j count))
  pins_short args zero j is low = tt
  pins_short args (suc count) j is low =
      let low' : j + 1 + count ≤ 14 = omega arith in
      short-append (rows_at args j) (flat_map (rows_at args) (range_with_len (j + 1) count)) (pin_short (slice_index_or args j free) j (is j) (omega arith)) (pins_short args count (j + 1) is low')

  operands_short : (kind : Kind) (args : List Actual) (count j : ℕ) → ((i : ℕ) → IsFinePin n (slice_index_or args i free)) → j + count ≤ 14 →
      Words (map (operand_of_pin kind args) (range_with_len j count))
  operands_short kind args zero j is low = tt
  operands_short kind args (suc count) j is low =
      let low' : j + 1 + count ≤ 14 = omega arith in
      (pin_operand_short (pin_at kind j).free (slice_index_or args j free) j (is j) (omega arith), operands_short kind args count (j + 1) is low')

module _ (net : Network) (few : signal_count net ≤ 4000) (instances : instance_count net ≤ 400) where
  step_short : (a : Action) → StepFits net a → AreShort (step_rows net a)
  step_short (assigns t e) fits =
      let low = fits.0 in
      short-append (expression_rows 0 e) (set_row t (operand_at 0 e) ∷ []) (expression_short (signal_count net) few e 34 0 fits.1 (omega arith))
      ((omega arith, operand_short (signal_count net) few e 34 0 fits.1 (omega arith)), tt)
  step_short (calls i args) fits =
      let kind = kind_at net i in
      let many = fits.few in
      let within = fits.within in
      let room = fits.room in
      short-append (pins_rows kind args) (call_row net i args ∷ []) (pins_short (signal_count net) few args (boolean_count kind) 0 fits.pins (omega arith))
      ((omega arith, omega arith, fits.limit, operands_short (signal_count net) few kind args (boolean_count kind) 0 fits.pins (omega arith)), tt)

  steps_short : (steps : List Action) → AllFit net steps → AreShort (flat_map (step_rows net) steps)
  steps_short [] fits = tt
  steps_short (a ∷ rest) fits = short-append (step_rows net a) (flat_map (step_rows net) rest) (step_short a fits.0) (steps_short rest fits.1)

  pub network_short : AllFit net net.steps → AreShort (network_rows net)
  network_short fits = short-append (flat_map (step_rows net) net.steps) (last_row ∷ []) (steps_short net.steps fits) (tt, tt)
