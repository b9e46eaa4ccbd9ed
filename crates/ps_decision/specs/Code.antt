-- The decision code of an application (profile). A value has a yes place and a no place: where its rows go on if it is
-- TRUE, and if it is FALSE. `at` is where the rows of a part begin.
use Rattle.std.specs.Prelude.{ℕ, ◌+◌, ◌*◌, Bool, List, [], ◌∷◌, ◌++◌, slice_index_or}
use Rattle.std.specs.List.{range_with_len}
use Rattle.ps_model.specs.declared.kind.Kind.{Kind}
use Rattle.ps_model.specs.Formula.{Formula, Formulas, signal, all_of, any_of, no_operand, operand}
use Rattle.ps_model.specs.Action.{Action, Actual, free, literal, time, wired, assigns, calls}
use Rattle.ps_model.specs.Blocks.{block}
use Rattle.ps_model.specs.Budgets.{boolean_count}
use Rattle.ps_model.specs.Network.{Network, kind_at, first_pin}
use Rattle.ps_model.specs.Scanning.{pin_at, limit_of}
use Rattle.ps_machine.specs.Bytes.{bit}
use Rattle.ps_decision.specs.declared.row.Row.{Row}
use Rattle.ps_decision.specs.declared.row.Row.TheVariants.{Decide, Set, Call, End}
use Rattle.ps_decision.specs.declared.layout.TheConstants.{FIRST_PIN}
use Rattle.ps_decision.specs.Rows.{size_of, bytes_of}
use Rattle.ps_decision.specs.Budget.{decisions}

-- how many bytes rows have
abbrev pub size_all : List Row → ℕ
size_all [] = 0
size_all (row ∷ rows) = size_of row + size_all rows

-- where the rows after those of a value begin: each of its signals has one row
abbrev pub behind_value : (at : ℕ) → Formula → ℕ
behind_value at e = at + 11 * decisions e

-- a place for the last operand, and another for one that has others after it
abbrev pub if_last : Formulas → (last more : ℕ) → ℕ
if_last no_operand last more = last
if_last (operand e es) last more = more

-- A signal is one DECIDE. In an AND each operand but the last has the beginning of the next as its yes place and the
-- AND's no place; the last has both of the AND's. An OR is the same with yes and no exchanged.
abbrev mutual
  pub value_rows : Formula → (at yes_at no_at : ℕ) → List Row
  value_rows (signal s) at yes_at no_at = Decide s yes_at no_at ∷ []
  value_rows (all_of es) at yes_at no_at = all_rows es at yes_at no_at
  value_rows (any_of es) at yes_at no_at = any_rows es at yes_at no_at

  pub all_rows : Formulas → (at yes_at no_at : ℕ) → List Row
  all_rows no_operand at yes_at no_at = []
  all_rows (operand e es) at yes_at no_at =
      value_rows e at (if_last es yes_at (behind_value at e)) no_at ++ all_rows es (behind_value at e) yes_at no_at

  pub any_rows : Formulas → (at yes_at no_at : ℕ) → List Row
  any_rows no_operand at yes_at no_at = []
  any_rows (operand e es) at yes_at no_at =
      value_rows e at yes_at (if_last es no_at (behind_value at e)) ++ any_rows es (behind_value at e) yes_at no_at

-- the value's rows, SET of the target with 1, which is their yes place, and SET with 0, which is their no place; both
-- go on after the second
abbrev pub assigned_rows : (target : ℕ) → Formula → (at : ℕ) → List Row
assigned_rows target e at =
    let set = behind_value at e in
    value_rows e at set (set + 8) ++ Set target 1 (set + 16) ∷ Set target 0 (set + 16) ∷ []

-- one SET of a literal or free value, which goes on after itself; a value as it is assigned; a TIME literal is FALSE
-- there
abbrev pub pin_rows : (target : ℕ) → Bool → Actual → (at : ℕ) → List Row
pin_rows target default free at = Set target (bit default) (at + 8) ∷ []
pin_rows target default (literal b) at = Set target (bit b) (at + 8) ∷ []
pin_rows target default (time t) at = Set target 0 (at + 8) ∷ []
pin_rows target default (wired e) at = assigned_rows target e at

-- Boolean pin j of a call, which is pin cell j
abbrev pub rows_at_pin : Kind → List Actual → (j at : ℕ) → List Row
rows_at_pin kind args j at = pin_rows (FIRST_PIN + j) (pin_at kind j).free (slice_index_or args j free) at

-- the rows of parts one after another
abbrev pub in_order : {X : Type 0} → (X → (at : ℕ) → List Row) → List X → (at : ℕ) → List Row
in_order rows [] at = []
in_order rows (x ∷ xs) at = rows x at ++ in_order rows xs (at + size_all (rows x at))

-- the Boolean pins of a call in order
abbrev pub pins_rows : Kind → List Actual → (at : ℕ) → List Row
pins_rows kind args at = in_order (rows_at_pin kind args) (range_with_len 0 (boolean_count kind)) at

-- a value and its target, or the pins and the call
abbrev pub step_rows : Network → Action → (at : ℕ) → List Row
step_rows net (assigns t e) at = assigned_rows t e at
step_rows net (calls i args) at =
    pins_rows (kind_at net i) args at ++ Call i (block (kind_at net i)).number (first_pin net i) (limit_of (kind_at net i) args) ∷ []

-- all steps in order, and the row that ends the scan
abbrev pub network_rows : Network → List Row
network_rows net = in_order (step_rows net) net.steps 0 ++ End ∷ []

-- the code bytes of channel C
abbrev pub code_c : Network → List ℕ
code_c net = bytes_of (network_rows net)
