-- How many instructions and bytes the code of an application has, and that each number fits its bytes.
use Rattle.std.proofs.Common.{◌≡◌, ℕ, zero, suc, ◌+◌, ◌-◌, ◌*◌, ◌^◌, ◌<◌, ◌≤◌, Bool, true, false, List, [], ◌∷◌, ◌++◌, length, drop, refl, ap, ◌∙◌, arith, length-append, lit<, Some, get_or}
use Rattle.std.specs.Prelude.{slice_index_or, slice_get}
use Rattle.std.specs.List.{flat_map, range_with_len}
use Rattle.std.proofs.lemmas.List.{drop_more}
use Rattle.ps_model.specs.declared.kind.Kind.{Kind}
use Rattle.ps_model.specs.Formula.{Formula, Formulas, signal, all_of, any_of, no_operand, operand}
use Rattle.ps_model.specs.Action.{Action, Actual, free, literal, time, wired, assigns, calls}
use Rattle.ps_model.specs.Blocks.{block}
use Rattle.ps_model.specs.Budgets.{instructions, joined, instructions_at_pin, instructions_of_step, turns_a, boolean_count}
use Rattle.ps_model.specs.Network.{Network, signal_count, instance_count, kind_at, first_pin}
use Rattle.ps_model.specs.Nodes.{nodes, nodes_below, nodes_at_pin, nodes_of_step}
use Rattle.ps_model.specs.Scanning.{pin_at, limit_of}
use Rattle.ps_model.specs.Sound.{IsSound}
use Rattle.ps_model.specs.Values.{IsBelow, AreBelow, HasOperands, HaveOperands, operand_count}
use Rattle.ps_model.proofs.Budgeting.{boolean_within}
use Rattle.ps_model.proofs.KindNumbers.{number_at_most}
use Rattle.ps_machine.specs.Bytes.{bit}
use Rattle.ps_machine.proofs.Fine.{IsFinePin}
use Rattle.ps_machine.proofs.Fitting.{StepFits, AllFit}
use Rattle.ps_machine.proofs.Totals.{length_of_steps, length_of_pins, steps_small}
use Rattle.ps_stackvm.specs.declared.instruction.Instruction.{Instruction}
use Rattle.ps_stackvm.specs.declared.instruction.Instruction.TheVariants.{Store, And, Or, Call, End}
use Rattle.ps_stackvm.specs.Instructions.{size_of}
use Rattle.ps_stackvm.specs.Code.{encoded, bytes_of, expression_code, group_code, later_code, pin_code, code_at_pin, pins_code, step_code, network_code, code_a}
use Rattle.ps_stackgen.proofs.Instructions.{size_all, size_all-append, length-encoded, IsShort, AreShort, short-append}

-- ---- how many instructions
mutual
  instructions_are : (e : Formula) → HasOperands e → length (expression_code e) ≡ instructions e
  instructions_are (signal s) is = refl
  instructions_are (all_of es) is = group_are And es is.0 is.1
  instructions_are (any_of es) is = group_are Or es is.0 is.1

  group_are : (i : Instruction) (es : Formulas) → 2 ≤ operand_count es → HaveOperands es → length (group_code i es) ≡ joined es - 1
  group_are i no_operand some is = absurd (omega arith)
  group_are i (operand e es) some is =
      omega (arith, length-append (expression_code e) (later_code i es), instructions_are e is.0, later_are i es is.1)

  later_are : (i : Instruction) (es : Formulas) → HaveOperands es → length (later_code i es) ≡ joined es
  later_are i no_operand is = refl
  later_are i (operand e es) is =
      omega (arith, length-append (expression_code e) (i ∷ later_code i es), instructions_are e is.0, later_are i es is.1)

pin_are : (n : ℕ) (default : Bool) (a : Actual) → IsFinePin n a → length (pin_code default a) ≡ instructions_at_pin a
pin_are n default free is = refl
pin_are n default (literal b) is = refl
pin_are n default (time t) is = refl
pin_are n default (wired e) is = instructions_are e is.full

step_are : (net : Network) (sound : IsSound net) (k : ℕ) (a : Action) → slice_get net.steps k ≡ Some a → StepFits net a → length (step_code net a) ≡ instructions_of_step net a
step_are net sound k (assigns t e) at fits = omega (arith, length-append (expression_code e) (Store t ∷ []), instructions_are e fits.1.full)
step_are net sound k (calls i args) at fits =
    let kind = kind_at net i in
    let many = sound.arguments k i args at in
    let within = boolean_within kind in
    let each : (j : ℕ) → length (code_at_pin kind args j) ≡ instructions_at_pin (slice_index_or args j free) =
    λ j. pin_are (signal_count net) (pin_at kind j).free (slice_index_or args j free) (fits.pins j) in
    let all = length_of_pins (code_at_pin kind args) instructions_at_pin args free (boolean_count kind) 0 each (omega arith) in
    omega (arith, length-append (pins_code kind args) (Call i (block kind).number (first_pin net i) (limit_of kind args) ∷ []), all)

pub turns_are : (net : Network) → IsSound net → ((k : ℕ) (a : Action) → slice_get net.steps k ≡ Some a → StepFits net a) → length (network_code net) ≡ turns_a net
turns_are net sound fits =
    omega (arith, length-append (flat_map (step_code net) net.steps) (End ∷ []), length_of_steps (step_code net) (instructions_of_step net) net.steps (λ k a at. step_are net sound k a at (fits k a at)))

-- ---- how many bytes
mutual
  size_bound : (e : Formula) → size_all (expression_code e) + 1 ≤ 4 * length (nodes e)
  size_bound (signal s) = omega arith
  size_bound (all_of es) = omega (arith, group_bound And es refl)
  size_bound (any_of es) = omega (arith, group_bound Or es refl)

  group_bound : (i : Instruction) (es : Formulas) → size_of i ≡ 1 → size_all (group_code i es) ≤ 4 * length (nodes_below es)
  group_bound i no_operand one = omega arith
  group_bound i (operand e es) one =
      omega (arith, size_all-append (expression_code e) (later_code i es), size_bound e, later_bound i es one, length-append (nodes e) (nodes_below es))

  later_bound : (i : Instruction) (es : Formulas) → size_of i ≡ 1 → size_all (later_code i es) ≤ 4 * length (nodes_below es)
  later_bound i no_operand one = omega arith
  later_bound i (operand e es) one =
      omega (arith, size_all-append (expression_code e) (i ∷ later_code i es), size_bound e, later_bound i es one, length-append (nodes e) (nodes_below es), one)

pin_bound : (default : Bool) (a : Actual) → size_all (pin_code default a) ≤ 4 * length (nodes_at_pin a) + 2
pin_bound default free = omega arith
pin_bound default (literal b) = omega arith
pin_bound default (time t) = omega arith
pin_bound default (wired e) = omega (arith, size_bound e)

pins_bound : (kind : Kind) (args : List Actual) (count j : ℕ) → j + count ≤ length args →
    size_all (flat_map (code_at_pin kind args) (range_with_len j count)) ≤ 4 * length (flat_map nodes_at_pin (drop j args)) + 2 * count
pins_bound kind args zero j low = omega arith
pins_bound kind args (suc count) j low =
    let inside : j < length args = omega arith in
    let a = get_or args j free in
    let rest : flat_map nodes_at_pin (drop j args) ≡ nodes_at_pin a ++ flat_map nodes_at_pin (drop (j + 1) args) = ap (flat_map nodes_at_pin) (drop_more args j free inside) in
    omega (
      arith,
      size_all-append (code_at_pin kind args j) (flat_map (code_at_pin kind args) (range_with_len (j + 1) count)),
      pin_bound (pin_at kind j).free a,
      pins_bound kind args count (j + 1) (omega arith),
      ap length rest ∙ length-append (nodes_at_pin a) (flat_map nodes_at_pin (drop (j + 1) args)),
    )

step_bound : (net : Network) (sound : IsSound net) (k : ℕ) (a : Action) → slice_get net.steps k ≡ Some a → StepFits net a → size_all (step_code net a) ≤ 5 * length (nodes_of_step a) + 37
step_bound net sound k (assigns t e) at fits = omega (arith, size_all-append (expression_code e) (Store t ∷ []), size_bound e)
step_bound net sound k (calls i args) at fits =
    let kind = kind_at net i in
    let many = sound.arguments k i args at in
    let within = boolean_within kind in
    let few = fits.few in
    omega (arith, size_all-append (pins_code kind args) (Call i (block kind).number (first_pin net i) (limit_of kind args) ∷ []), pins_bound kind args (boolean_count kind) 0 (omega arith))

length-bytes : (is : List Instruction) → length (bytes_of is) ≡ size_all is
length-bytes [] = refl
length-bytes (i ∷ is) = omega (arith, length-append (encoded i) (bytes_of is), length-encoded i, length-bytes is)

pub code_small : (net : Network) → IsSound net → ((k : ℕ) (a : Action) → slice_get net.steps k ≡ Some a → StepFits net a) → length (code_a net) < 2 ^ 32
code_small net sound fits =
    let all = steps_small size_all (step_code net) refl size_all-append net sound (λ k a at. step_bound net sound k a at (fits k a at)) in
    omega (arith, length-bytes (network_code net), size_all-append (flat_map (step_code net) net.steps) (End ∷ []), all)

-- ---- each number fits its bytes
bit_short : (b : Bool) → bit b < 256
bit_short true = lit< tt
bit_short false = lit< tt

module _ (n : ℕ) (few : n ≤ 4000) where
  mutual
    expression_short : (e : Formula) → IsBelow n e → AreShort (expression_code e)
    expression_short (signal s) is = (omega arith, tt)
    expression_short (all_of es) is = group_short And tt es is
    expression_short (any_of es) is = group_short Or tt es is

    group_short : (i : Instruction) → IsShort i → (es : Formulas) → AreBelow n es → AreShort (group_code i es)
    group_short i h no_operand is = tt
    group_short i h (operand e es) is = short-append (expression_code e) (later_code i es) (expression_short e is.0) (later_short i h es is.1)

    later_short : (i : Instruction) → IsShort i → (es : Formulas) → AreBelow n es → AreShort (later_code i es)
    later_short i h no_operand is = tt
    later_short i h (operand e es) is = short-append (expression_code e) (i ∷ later_code i es) (expression_short e is.0) (h, later_short i h es is.1)

  pin_short : (default : Bool) (a : Actual) → IsFinePin n a → AreShort (pin_code default a)
  pin_short default free is = (bit_short default, tt)
  pin_short default (literal b) is = (bit_short b, tt)
  pin_short default (time t) is = (lit< tt, tt)
  pin_short default (wired e) is = expression_short e is.below

  pins_short : (kind : Kind) (args : List Actual) (count j : ℕ) → ((k : ℕ) → IsFinePin n (slice_index_or args k free)) → AreShort (flat_map (code_at_pin kind args) (range_with_len j count))
  pins_short kind args zero j is = tt
  pins_short kind args (suc count) j is =
      short-append (code_at_pin kind args j) (flat_map (code_at_pin kind args) (range_with_len (j + 1) count)) (pin_short (pin_at kind j).free (slice_index_or args j free) (is j)) (pins_short kind args count (j + 1) is)

module _ (net : Network) (few : signal_count net ≤ 4000) (instances : instance_count net ≤ 400) where
  step_short : (a : Action) → StepFits net a → AreShort (step_code net a)
  step_short (assigns t e) fits =
      let low = fits.0 in
      short-append (expression_code e) (Store t ∷ []) (expression_short (signal_count net) few e fits.1.below) (omega arith, tt)
  step_short (calls i args) fits =
      let kind = kind_at net i in
      let within = fits.within in
      let room = fits.room in
      short-append (pins_code kind args) (Call i (block kind).number (first_pin net i) (limit_of kind args) ∷ []) (pins_short (signal_count net) few kind args (boolean_count kind) 0 fits.pins)
      ((omega arith, omega (arith, number_at_most kind), omega arith, fits.limit), tt)

  steps_short : (steps : List Action) → AllFit net steps → AreShort (flat_map (step_code net) steps)
  steps_short [] fits = tt
  steps_short (a ∷ rest) fits = short-append (step_code net a) (flat_map (step_code net) rest) (step_short a fits.0) (steps_short rest fits.1)

  pub network_short : AllFit net net.steps → AreShort (network_code net)
  network_short fits = short-append (flat_map (step_code net) net.steps) (End ∷ []) (steps_short net.steps fits) (tt, tt)
