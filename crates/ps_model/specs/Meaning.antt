-- Runs of scans and restarts, and the report of a scan. Profile.
use Rattle.std.specs.Prelude.{◌≡◌, ℕ, Bool, false, List, [], ◌∷◌, ◌-◌, map, replicate, length}
use Rattle.std.specs.List.{range_with_len}
use Rattle.ps_model.specs.declared.report.Diag.{Diag}
use Rattle.ps_model.specs.declared.report.Report.{Report}
use Rattle.ps_model.specs.Blocks.{idle, ready_in, error_in}
use Rattle.ps_model.specs.Network.{Network, signal_count, instance_count, input_count}
use Rattle.ps_model.specs.Scanning.{State, Solves, signal_in}

-- a scan with its time and one value for each input, or a restart
pub data Item : Type 0 where
  scan : (now : ℕ) (ins : List Bool) → Item
  restart : Item

-- the state before the first scan: every signal FALSE, every block idle
abbrev pub first_state : Network → State
first_state net = record { signals = replicate (signal_count net) false; blocks = replicate (instance_count net) idle }

-- what a scan starts from: nothing where it is the first one or the first after a restart, and else the time of the
-- scan before and what it left
pub data After (W : Type 0) : Type 0 where
  nothing : After W
  last : (now : ℕ) (w : W) → After W

-- what the scan before left, or what there is before the first scan
abbrev pub left_by : {W : Type 0} → W → After W → W
left_by first nothing = first
left_by first (last now w) = w

-- the time of the scan before in ms, 0 where there is none since the start or a restart
abbrev pub last_time : {W : Type 0} → After W → ℕ
last_time nothing = 0
last_time (last before w) = before

-- the time that passed since the scan before, in ms
abbrev pub passed : {W : Type 0} → After W → ℕ → ℕ
passed nothing now = 0
passed (last before w) now = now - before

-- what the scans among these items leave, by what one scan leaves after another, and anew after each restart
abbrev pub Leaves : {W : Type 0} → W → (W → List Bool → ℕ → W → Type 0) → After W → List Item → List W → Type 0
Leaves first Scan past [] ws = ws ≡ []
Leaves first Scan past (restart ∷ items) ws = Leaves first Scan nothing items ws
Leaves first Scan past (scan now ins ∷ items) [] = ⊥
Leaves first Scan past (scan now ins ∷ items) (w ∷ ws) =
    Scan (left_by first past) ins (passed past now) w × Leaves first Scan (last now w) items ws

-- a scan starts from the state that the one before left
abbrev pub Past : Type 0
Past = After State

-- the state that a scan starts from
abbrev pub old_state : Network → Past → State
old_state net = left_by (first_state net)

-- the states of the scans among these items, each of which solves over the one before, and anew after each restart
abbrev pub Runs : Network → Past → List Item → List State → Type 0
Runs net = Leaves (first_state net) (Solves net)

-- these states, one for each scan, are what the items mean
abbrev pub Meaning : Network → List Item → List State → Type 0
Meaning net items ws = Runs net nothing items ws

-- exactly one list of states is what the items mean
pub record HasOneMeaning (net : Network) (items : List Item) : Type 0 where
  pub meaning : List State
  pub means : Meaning net items meaning
  pub only : (ws : List State) → Meaning net items ws → ws ≡ meaning

-- what a block in state q says of itself: Ready, Error and DiagCode
abbrev pub diag_in : ℕ → Diag
diag_in q = record { ready = ready_in q; error = error_in q; code = q }

-- the report of a scan: the outputs in order, then what each instance says of itself, in order
abbrev pub report : Network → State → Report
report net w = record {
  outs = map (signal_in w) (range_with_len (input_count net) (length net.outputs));
  diags = map (λ b. diag_in b.code) w.blocks;
}
