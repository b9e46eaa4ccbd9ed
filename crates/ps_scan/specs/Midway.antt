-- Where a scan is after its first steps.
use Rattle.std.specs.Prelude.{◌≡◌, ◌≢◌, ◌<◌, ◌-◌, ℕ, Bool, true, false, List, take, length, slice_index_or}
use Rattle.std.specs.List.{list_any}
use Rattle.ps_model.specs.Network.{Network, is_call_of}
use Rattle.ps_model.specs.Blocks.{Block_state}
use Rattle.ps_model.specs.Kept.{Kept, StandsBy, Since}
use Rattle.ps_model.specs.Running.{Interim}
use Rattle.ps_model.specs.Meaning.{diag_in}
use Rattle.ps_model.specs.Blank.{no_diag}
use Rattle.ps_model.specs.declared.report.Diag.{Diag}
use Rattle.ps_scan.specs.Cells.{Cells, signal_at, kept_at}

-- One of the first k steps calls the instance.
abbrev pub is_called : Network → ℕ → ℕ → Bool
is_called net k i = list_any (is_call_of net i) (take k net.steps)

-- What is kept of an instance that is yet to be called, dt ms after the scan at time t: nothing reads an age of Idle.
pub record Waits (t dt now : ℕ) (k : Kept) (b : Block_state) : Type 0 where
  pub stands : StandsBy (Since t) k b
  pub passed : b.code ≢ 0 → dt ≡ now - t

-- After the first k steps of a scan at time `now` the cells and the diagnoses stand for this memory.
pub record Midway (net : Network) (t dt now k : ℕ) (w : Cells) (ds : List Diag) (m : Interim) : Type 0 where
  pub signals : (s : ℕ) → signal_at w s ≡ m.signals s
  pub waiting : (i : ℕ) → is_called net k i ≡ false → Waits t dt now (kept_at w i) (m.blocks i)
  pub called : (i : ℕ) → is_called net k i ≡ true → StandsBy (Since now) (kept_at w i) (m.blocks i)
  pub reported : (i : ℕ) → is_called net k i ≡ true → i < length ds → slice_index_or ds i no_diag ≡ diag_in (m.blocks i).code
