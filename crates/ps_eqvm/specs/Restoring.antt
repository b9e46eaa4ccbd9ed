-- The cells of channel B once it is restored from the bytes of another channel. Profile.
use Rattle.std.specs.Prelude.{ℕ, List, [], ◌∷◌, ◌++◌, take, drop}
use Rattle.std.specs.Int.{w32, to_be_bytes}
use Rattle.ps_model.specs.declared.sizes.Sizes.{Sizes}
use Rattle.ps_model.specs.Kept.{healed}
use Rattle.ps_model.specs.Stored.{kept_in}
use Rattle.ps_machine.specs.Bytes.{replaced}
use Rattle.ps_machine.specs.Carrying.{filled}
use Rattle.ps_eqvm.specs.declared.layout.TheConstants.{LAST_AT, SIGNALS_AT}
use Rattle.ps_eqvm.specs.Channel.{blank_b}
use Rattle.ps_eqvm.specs.Plain.{complement}

-- The sixteen bytes of an instance in channel B: bytes 5 to 8 are 0 for Idle, and else its limit less its age at the
-- time of the last scan, not below 0.
abbrev pub counted_block : (limit t : ℕ) → List ℕ → List ℕ
counted_block limit t bytes = replaced bytes 5 (to_be_bytes w32 (healed limit t (kept_in bytes)).timer)

-- the same for all instances, by their limits
abbrev pub counted_blocks : (limits : List ℕ) → (t : ℕ) → List ℕ → List ℕ
counted_blocks [] t blocks = []
counted_blocks (limit ∷ limits) t blocks =
    counted_block limit t (take 16 blocks) ++ counted_blocks limits t (drop 16 blocks)

-- bytes of signals and instances, with those of the instances as channel B keeps them
abbrev pub counted : Sizes → (limits : List ℕ) → (t : ℕ) → List ℕ → List ℕ
counted z limits t bytes = take z.signals bytes ++ counted_blocks limits t (drop z.signals bytes)

-- its cells, as they are stored, at the time of the last scan, by the limits of the instances, from plain bytes of
-- signals and instances in which a timer is the time since which the state is there
abbrev pub restored_b : Sizes → (limits : List ℕ) → (time : ℕ) → (bytes : List ℕ) → List ℕ
restored_b z limits time bytes =
    filled (blank_b z) LAST_AT (complement (to_be_bytes w32 time)) SIGNALS_AT (complement (counted z limits time bytes))
