-- Channel B's cells with their plain content, and the bytes that they are stored as. Profile.
use Rattle.std.specs.Prelude.{◌≡◌, ℕ, ◌+◌, ◌-◌, ◌*◌, ◌^◌, ◌<◌, List, ◌∷◌, ◌++◌, length, take, drop, map, replicate}
use Rattle.std.specs.Prelude.{slice_index}
use Rattle.std.specs.Int.{w32, to_be_bytes}
use Rattle.ps_machine.specs.Bytes.{be4}
use Rattle.ps_eqvm.specs.declared.layout.TheConstants.{OFFSET_AT, PROGRESS_AT, LAST_AT, PASSED_AT, WORK_AT, WORK_CELLS}
use Rattle.ps_eqvm.specs.declared.layout.TheConstants.{SIGNALS_AT, INSTANCE_SIZE}

-- The plain content: where the next row stands in the code, the progress, the time of the last scan that began and the
-- time passed in this one in ms, the 48 work cells and then the signals, and the sixteen bytes of each instance.
pub record Plain : Type 0 where
  pub offset : ℕ
  pub progress : ℕ
  pub last : ℕ
  pub passed : ℕ
  pub cells : List ℕ
  pub blocks : List ℕ

-- so many cells and so many bytes of instances, each 0, as everything else
abbrev pub blank : (cells blocks : ℕ) → Plain
blank cells blocks = record { offset = 0; progress = 0; last = 0; passed = 0; cells = replicate cells 0; blocks = replicate blocks 0 }

-- a byte is stored as 255 less its plain value
abbrev pub complement : List ℕ → List ℕ
complement bytes = map (λ byte. 255 - byte) bytes

-- the plain bytes, in their order
abbrev pub plain_bytes : Plain → List ℕ
plain_bytes p = to_be_bytes w32 p.offset ++ (p.progress ∷ (to_be_bytes w32 p.last ++ (to_be_bytes w32 p.passed ++ (p.cells ++ p.blocks))))

-- the bytes that they are stored as
abbrev pub laid_out : Plain → List ℕ
laid_out p = complement (plain_bytes p)

-- the plain content of stored bytes, with so many signals
abbrev pub parsed : (signals : ℕ) → List ℕ → Plain
parsed signals stored =
    let bytes = complement stored in
    record {
      offset = be4 bytes OFFSET_AT;
      progress = slice_index bytes PROGRESS_AT;
      last = be4 bytes LAST_AT;
      passed = be4 bytes PASSED_AT;
      cells = take (WORK_CELLS + signals) (drop WORK_AT bytes);
      blocks = drop (SIGNALS_AT + signals) bytes;
    }

-- Its numbers fit their bytes, and its bytes are bytes.
pub record IsPlain (p : Plain) : Type 0 where
  pub offset : p.offset < 2 ^ 32
  pub progress : p.progress < 256
  pub last : p.last < 2 ^ 32
  pub passed : p.passed < 2 ^ 32
  pub cells : (i : ℕ) → slice_index p.cells i < 256
  pub blocks : (i : ℕ) → slice_index p.blocks i < 256

-- It has the cells of an application of these sizes.
pub record IsSized (signals instances : ℕ) (p : Plain) : Type 0 where
  pub cells : length p.cells ≡ WORK_CELLS + signals
  pub blocks : length p.blocks ≡ INSTANCE_SIZE * instances
