-- All that scans of an application may show, in order: the values of its signals, and then step by step the marks of
-- its calls and the operands that may decide.
use Rattle.std.specs.Prelude.{ℕ, ◌-◌, ◌*◌, Bool, true, false, List, [], ◌∷◌, ◌++◌, Option, Some, None, ◌&&◌, ◌==◌, not}
use Rattle.std.specs.Prelude.{length, nat_lt, slice_get, slice_index_or, if◌then◌else◌}
use Rattle.std.specs.List.{flat_map, range_with_len}
use Rattle.ps_model.specs.Action.{Action, Actual, assigns, calls, free, literal, time, wired}
use Rattle.ps_model.specs.Formula.{Formula, Formulas, all_of, any_of, no_operand, operand, signal}
use Rattle.ps_model.specs.Network.{Network, declared_count, kind_at}
use Rattle.ps_model.specs.declared.kind.Kind.{Kind}
use Rattle.ps_ways.specs.Tables.{ways_of}
use Rattle.ps_ways.specs.declared.way.Literal.TheVariants.{Any}
use Rattle.ps_ways.specs.declared.way.Way.{Way}
use Rattle.ps_cover.specs.Points.{Point, decision, has, marks}

-- a signal
abbrev pub value_points : ℕ → List Point
value_points s = has s ∷ []

-- what stands past the ways of a kind
abbrev pub no_way : Way
no_way = record { state = 0; number = 0; next = 0; first = Any; second = Any; third = Any }

-- a way is of the same state as the one before it
abbrev pub goes_on_state : List Way → (place : ℕ) → Bool
goes_on_state ws n = not (n == 0) && (slice_index_or ws (n - 1) no_way).state == (slice_index_or ws n no_way).state

-- a way is a further alternative of the guard of the one before it
abbrev pub goes_on_guard : List Way → (place : ℕ) → Bool
goes_on_guard ws n =
    goes_on_state ws n && (slice_index_or ws (n - 1) no_way).number == (slice_index_or ws n no_way).number

-- A mark that counts: of the alternatives of a guard the first, and of the ways of a state the first.
abbrev pub does_count : Kind → (mark : ℕ) → Bool
does_count kind mark =
    if nat_lt mark (length (ways_of kind)) then not (goes_on_guard (ways_of kind) mark)
    else not (goes_on_state (ways_of kind) (mark - length (ways_of kind)))

-- a mark of the call of a step, where it counts
abbrev pub mark_points : (step : ℕ) → Kind → (mark : ℕ) → List Point
mark_points k kind mark = if does_count kind mark then marks k mark ∷ [] else []

-- the marks of the call of a step
abbrev pub call_points : (step : ℕ) → Kind → List Point
call_points k kind = flat_map (mark_points k kind) (range_with_len 0 (2 * length (ways_of kind)))

-- the operand at a place
abbrev pub place_points : (step : ℕ) → (of_and : Bool) → List Formula → (place : ℕ) → List Point
place_points k of_and es place =
    decision (record { step = k; of_and = of_and; operands = es; place = place }) ∷ []

-- the operands of an AND or an OR, in order
abbrev pub operand_points : (step : ℕ) → (of_and : Bool) → List Formula → List Point
operand_points k of_and es = flat_map (place_points k of_and es) (range_with_len 0 (length es))

-- operands as a list
abbrev pub listed : Formulas → List Formula
listed no_operand = []
listed (operand e es) = e ∷ listed es

-- the operands of an AND or an OR itself; a signal has none
abbrev pub root_points : (step : ℕ) → Formula → List Point
root_points k (signal s) = []
root_points k (all_of es) = operand_points k true (listed es)
root_points k (any_of es) = operand_points k false (listed es)

-- the operands of each AND and OR of a value, each before those within it
abbrev mutual
  pub decision_points : (step : ℕ) → Formula → List Point
  decision_points k (signal s) = []
  decision_points k (all_of es) = root_points k (all_of es) ++ points_below k es
  decision_points k (any_of es) = root_points k (any_of es) ++ points_below k es

  -- of these values, one after another
  pub points_below : (step : ℕ) → Formulas → List Point
  points_below k no_operand = []
  points_below k (operand e es) = decision_points k e ++ points_below k es

-- what stands at a pin
abbrev pub pin_points : (step : ℕ) → Actual → List Point
pin_points k (wired e) = decision_points k e
pin_points k free = []
pin_points k (literal b) = []
pin_points k (time t) = []

-- the points of a step
abbrev pub step_points : Network → (step : ℕ) → Option Action → List Point
step_points net k (Some (assigns t e)) = decision_points k e
step_points net k (Some (calls i args)) = call_points k (kind_at net i) ++ flat_map (pin_points k) args
step_points net k None = []

-- the values of the inputs, outputs and locals
abbrev pub signal_points : Network → List Point
signal_points net = flat_map value_points (range_with_len 0 (declared_count net))

-- the points of all steps
abbrev pub steps_points : Network → List Point
steps_points net = flat_map (λ k. step_points net k (slice_get net.steps k)) (range_with_len 0 (length net.steps))

-- all points of an application
abbrev pub points_of : Network → List Point
points_of net = signal_points net ++ steps_points net
