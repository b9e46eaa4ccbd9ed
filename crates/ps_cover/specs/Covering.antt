-- What the code keeps of the scans so far, and when it is so.
use Rattle.std.specs.Prelude.{◌≡◌, ◌||◌, ℕ, Bool, false, List, Option, Some, None, length, map, option_map, slice_get}
use Rattle.std.specs.Prelude.{slice_index_or}
use Rattle.ps_model.specs.Action.{Action, assigns, calls}
use Rattle.ps_model.specs.Exprs.{formula}
use Rattle.ps_model.specs.Network.{Network, kind_at}
use Rattle.ps_model.specs.Stored.{IsKept}
use Rattle.ps_rows.specs.Counted.{kept_of}
use Rattle.ps_ways.specs.Marks.{made}
use Rattle.ps_cover.specs.Blocks.{called_in}
use Rattle.ps_cover.specs.Points as points
use Rattle.ps_model.specs.Formula.{Formula}
use Rattle.ps_cover.specs.Points.{decides, leaves, others_leave}
use Rattle.ps_cover.specs.Deciding.{is_value}
use Rattle.ps_machine.specs.Reading.{read_in}
use Rattle.ps_cover.specs.declared.block.Called.{Called}
use Rattle.ps_cover.specs.declared.point.Point.{Point}
use Rattle.ps_cover.specs.declared.point.Point.TheVariants.{Mark, Value, Decides}
use Rattle.ps_cover.specs.declared.point.Decision.{Decision}
use Rattle.ps_machine.specs.declared.signals.Signals.{Signals}

-- the operands of a decision
abbrev pub operands_in : Decision → List Formula
operands_in d = map formula d.operands.now.items.items

-- the operand of a decision
abbrev pub operand_of : Decision → points.Operand
operand_of d = record { step = d.step; of_and = d.of_and; operands = operands_in d; place = d.place }

-- what a point of the code says
abbrev pub point_of : Point → points.Point
point_of (Mark k mark) = points.marks k mark
point_of (Value s) = points.has s
point_of (Decides d) = points.decision (operand_of d)

-- the step of a block makes a mark; a step that assigns makes none
abbrev pub makes_in : Network → Option Action → Option Called → (mark : ℕ) → Bool
makes_in net (Some (calls i args)) (Some c) mark =
    made (kind_at net i) c.moved.from c.moved.number c.moved.block.code mark
makes_in net (Some (calls i args)) None mark = false
makes_in net (Some (assigns t e)) c mark = false
makes_in net None c mark = false

-- an operand leaves the decision to the one at the place, or is it
abbrev pub leaves_in : Network → Signals → Decision → (j : ℕ) → Bool
leaves_in net x d = leaves (read_in net x d.step) d.of_and (operands_in d) d.place

-- all operands but the one at the place leave the decision to it
abbrev pub others_leave_in : Network → Signals → Decision → Bool
others_leave_in net x d = others_leave (read_in net x d.step) d.of_and (operands_in d) d.place

-- the operand at the place decides with value b
abbrev pub decides_in : Network → Signals → (b : Bool) → Decision → Bool
decides_in net x b d = decides (read_in net x d.step) d.of_and (operands_in d) d.place b

-- a scan with these signals, after which the calls stand so, shows a point with value b
abbrev pub shows_in : Network → Signals → List Called → (b : Bool) → Point → Bool
shows_in net x cs b (Mark k mark) = makes_in net (slice_get net.steps k) (slice_get cs k) mark
shows_in net x cs b (Value s) = is_value b (slice_index_or x.behind.now s false)
shows_in net x cs b (Decides d) = decides_in net x b d

-- What was seen with value b before a scan, and what the scan shows with it, is seen after it.
pub record Looks (net : Network) (x : Signals) (cs : List Called) (b : Bool) (points : List Point)
    (before behind : List Bool) : Type 0 where
  pub each : length behind ≡ length before
  pub seen : (n : ℕ) (p : Point) → slice_get points n ≡ Some p →
      slice_index_or behind n false ≡ (slice_index_or before n false || shows_in net x cs b p)

-- the block that a step calls is one that its kind can keep
abbrev pub IsCallKept : Network → Option Action → Called → Type 0
IsCallKept net (Some (calls i args)) c = IsKept (kind_at net i) (kept_of c.moved.block)
IsCallKept net (Some (assigns t e)) c = Unit {0}
IsCallKept net None c = Unit {0}

-- calls with the numbers of their steps, of which each has a block that its kind can keep
pub record AreCalls (net : Network) (cs : List Called) : Type 0 where
  pub each : length cs ≡ length net.steps
  pub kept : (k : ℕ) (c : Called) → slice_get cs k ≡ Some c → (c.step ≡ k) × IsCallKept net (slice_get net.steps k) c

-- each call is after a scan what the scan makes of it
abbrev pub AreScanned : Network → Signals → (passed : ℕ) → (before behind : List Called) → Type 0
AreScanned net x passed before behind =
    (k : ℕ) → slice_get behind k ≡ option_map (called_in net x passed) (slice_get before k)
