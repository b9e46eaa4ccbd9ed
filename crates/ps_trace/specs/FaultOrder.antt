-- The order of the faults of a fault file.
use Rattle.std.specs.Prelude.{◌≡◌, ◌≤◌, List}
use Rattle.std.specs.List.{AllPairs}
use Rattle.ps_model.specs.declared.channel.Fault.{Fault}
use Rattle.ps_trace.specs.declared.target.FaultLine.{FaultLine}

-- a fault line strikes no later than another: in no later scan, and within one scan at no later turn
abbrev pub StrikesNoLater : {Who : Type 0} → FaultLine Who → FaultLine Who → Type 0
StrikesNoLater first second = (first.scan ≤ second.scan) × (first.scan ≡ second.scan → first.turn ≤ second.turn)

-- faults, whose lines are these, stand in the order in which they strike
abbrev pub StrikeInOrder : {Who Fault : Type 0} → (Fault → FaultLine Who) → List Fault → Type 0
StrikeInOrder line faults = AllPairs (λ first second. StrikesNoLater (line first) (line second)) faults

-- they strike one alone
abbrev pub StrikeOne : {Who Fault : Type 0} → (Fault → FaultLine Who) → List Fault → Type 0
StrikeOne line faults = AllPairs (λ first second. (line first).who ≡ (line second).who) faults

-- ---- Faults of channels.

-- a fault strikes no later than another
abbrev pub IsNoLater : Fault → Fault → Type 0
IsNoLater first second = (first.scan ≤ second.scan) × (first.scan ≡ second.scan → first.turn ≤ second.turn)

-- faults stand in the order in which they strike
abbrev pub AreInOrder : List Fault → Type 0
AreInOrder faults = AllPairs IsNoLater faults

-- faults strike one channel alone
abbrev pub AreOfOneChannel : List Fault → Type 0
AreOfOneChannel faults = AllPairs (λ first second. first.channel ≡ second.channel) faults
