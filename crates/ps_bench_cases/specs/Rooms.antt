-- What the code says of the room that the expanded trace of a file has left.
use Rattle.std.specs.Prelude.{◌≡◌, ◌<◌, ◌+◌, ◌++◌, ℕ, List, [], ◌∷◌, min, length, Option, Some, None}
use Rattle.ps_base.specs.declared.limits.TheConstants.{LARGEST_TRACE}
use Rattle.ps_model.specs.Network.{Network, input_count}
use Rattle.ps_bench_cases.specs.declared.case.Case.{Case}
use Rattle.ps_bench_cases.specs.declared.case.Statement.{Statement}
use Rattle.ps_bench_cases.specs.declared.draft.Draft.{Draft}
use Rattle.ps_bench_cases.specs.declared.draft.Head.{Head}
use Rattle.ps_bench_cases.specs.declared.point.Point.{Point}
use Rattle.ps_bench_cases.specs.declared.room.Room.{Room}
use Rattle.ps_bench_cases.specs.Expanded.{case_text, end_point, expanded, restart_line}
use Rattle.ps_bench_cases.specs.File.{closed}

-- the largest count of bytes
abbrev pub LARGEST_COUNT : ℕ
LARGEST_COUNT = 18446744073709551615

-- A room counts the lines of the faults that wait where the trace stands so, and so many inputs. The count stays at its
-- largest value.
pub record Counts (inputs : ℕ) (p : Point) (room : Room) : Type 0 where
  pub inputs_are : length p.ins ≡ inputs
  pub held_is : room.held ≡ min (length p.held) LARGEST_COUNT

-- of so many bytes this room is left after so many more, if they have room
abbrev pub IsLeft : (before bytes : ℕ) → Option Room → Type 0
IsLeft before bytes None = before < bytes
IsLeft before bytes (Some room) = room.left + bytes ≡ before

-- the same, where the trace stands so after them
abbrev pub IsRoom : (inputs before bytes : ℕ) → Point → Option Room → Type 0
IsRoom inputs before bytes p None = before < bytes
IsRoom inputs before bytes p (Some room) = (room.left + bytes ≡ before) × Counts inputs p room

-- ---- The trace of what was read of a file.

-- when a case begins in the trace that stands after others
abbrev pub base_behind : (inputs : ℕ) → (begin : List Statement) → (base : ℕ) → List Case → ℕ
base_behind inputs begin base [] = base
base_behind inputs begin base (c ∷ cases) =
    base_behind inputs begin (base + (end_point inputs base (begin ++ c.statements)).time) cases

-- what stands before a case after these
abbrev pub lead_of : List Case → List ℕ
lead_of [] = []
lead_of (c ∷ cases) = restart_line

-- the first lines of a case that begins: its name, and the lines of what stands before the first case
abbrev pub head_text : Network → Draft → Head → List ℕ
head_text net d head = lead_of d.file.cases ++ case_text (input_count net) d.stand.base head.name d.file.begin

-- how the trace stands after what was read of the last case
abbrev pub point_of : Network → Draft → Point
point_of net d = end_point (input_count net) d.stand.base (d.file.begin ++ d.statements)

-- A case that is read stands as the trace does: it begins when it does there, and its last scan has the time that it
-- has there.
abbrev pub IsPlacedBy : Network → Draft → Option Head → Type 0
IsPlacedBy net d None =
    (d.file.cases ≡ []) × (d.stand.base ≡ 0) × (d.stand.time ≡ (end_point (input_count net) 0 d.statements).time)
IsPlacedBy net d (Some head) =
    (d.stand.base ≡ base_behind (input_count net) d.file.begin 0 d.file.cases)
    × (d.stand.time ≡ (point_of net d).time)
    × (d.start.time ≡ (end_point (input_count net) 0 d.file.begin).time)

-- the same of what was read of a file
abbrev pub IsPlaced : Network → Draft → Type 0
IsPlaced net d = IsPlacedBy net d d.head

-- of a trace as large as may be this room is left after what was read
abbrev pub HasRoomBy : Network → Draft → Option Head → Option Room → Type 0
HasRoomBy net d None room = IsLeft LARGEST_TRACE (length (expanded net (closed d))) room
HasRoomBy net d (Some head) room =
    IsRoom (input_count net) LARGEST_TRACE (length (expanded net (closed d))) (point_of net d) room

-- the same of what was read of a file
abbrev pub HasRoom : Network → Draft → Option Room → Type 0
HasRoom net d room = HasRoomBy net d d.head room
