-- What a scan of an application may show, and when it shows it.
use Rattle.std.specs.Prelude.{ℕ, Bool, false, List, Option, Some, None, ◌||◌, ◌&&◌, ◌==◌, length, nat_lt}
use Rattle.std.specs.Prelude.{slice_get, slice_index_or}
use Rattle.std.specs.List.{list_all, range_with_len}
use Rattle.ps_model.specs.Action.{Action, assigns, calls}
use Rattle.ps_model.specs.Formula.{Formula, signal, value}
use Rattle.ps_model.specs.Network.{Network}
use Rattle.ps_model.specs.Scanning.{read_at, signal_in}
use Rattle.ps_cover.specs.Deciding.{is_value}
use Rattle.ps_cover.specs.Applying.{ScanStep, makes}

-- An operand of an AND or of an OR: the number of its step, whether it is of an AND, all operands, and its place among
-- them.
pub record Operand : Type 0 where
  pub step : ℕ
  pub of_and : Bool
  pub operands : List Formula
  pub place : ℕ

-- the value of one of these formulas under v
abbrev pub value_at : (ℕ → Bool) → List Formula → ℕ → Bool
value_at v es j = value v (slice_index_or es j (signal 0))

-- The operand at place j is the one at this place, or has the value that leaves the decision to that one: TRUE in an
-- AND, FALSE in an OR.
abbrev pub leaves : (ℕ → Bool) → (of_and : Bool) → List Formula → (place j : ℕ) → Bool
leaves v of_and es place j = j == place || is_value of_and (value_at v es j)

-- all operands but the one at this place leave the decision to it
abbrev pub others_leave : (ℕ → Bool) → (of_and : Bool) → List Formula → (place : ℕ) → Bool
others_leave v of_and es place = list_all (leaves v of_and es place) (range_with_len 0 (length es))

-- The operand at this place decides with value b: it has this value, and the others leave the decision to it (unique
-- cause).
abbrev pub decides : (ℕ → Bool) → (of_and : Bool) → List Formula → (place : ℕ) → (b : Bool) → Bool
decides v of_and es place b =
    nat_lt place (length es) && is_value b (value_at v es place) && others_leave v of_and es place

-- What scans may show: a mark of the call of a step, which is a state that is entered or a way that is taken; both
-- values of a signal; or that an operand decides with both values.
pub data Point : Type 0 where
  marks : (step mark : ℕ) → Point
  has : (signal : ℕ) → Point
  decision : Operand → Point

-- a step makes a mark in a scan: one that calls a block
abbrev pub makes_at : Network → (step : ℕ) → Option Action → (mark : ℕ) → ScanStep → Bool
makes_at net k (Some (calls i args)) mark s = makes net (record { step = k; instance = i; args = args }) mark s
makes_at net k (Some (assigns t e)) mark s = false
makes_at net k None mark s = false

-- A scan shows a point with value b. A mark has no value, and is shown with both alike; an operand is read at its step.
abbrev pub shows : Network → (b : Bool) → Point → ScanStep → Bool
shows net b (marks k mark) s = makes_at net k (slice_get net.steps k) mark s
shows net b (has x) s = is_value b (signal_in s.new x)
shows net b (decision o) s = decides (read_at net s.old s.new o.step) o.of_and o.operands o.place b
