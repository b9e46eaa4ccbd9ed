-- The sixteen bytes in which a channel keeps an instance. Profile.
use Rattle.std.specs.Prelude.{◌≡◌, ℕ, ◌+◌, ◌<◌, ◌^◌, Bool, true, false, ◌&&◌, ◌==◌, nat_le, nat_lt, if◌then◌else◌, List}
use Rattle.std.specs.Prelude.{[], ◌∷◌, ◌++◌, map, drop, replicate, slice_index, Option, Some, None}
use Rattle.std.specs.List.{list_all, list_any}
use Rattle.std.specs.Int.{w16, w32, to_be_bytes, from_be_bytes}
use Rattle.ps_model.specs.declared.kind.Kind.{Kind}
use Rattle.ps_model.specs.declared.kind.Kind.TheVariants.{ModeSelector}
use Rattle.ps_model.specs.Table.{Row}
use Rattle.ps_model.specs.Blocks.{block, mode_states}
use Rattle.ps_model.specs.Kept.{Kept}

-- a Boolean as a byte
abbrev pub bit : Bool → ℕ
bit true = 1
bit false = 0

-- The bytes: 0 and 1 the DiagCode, 2 the last Reset, 3 the last auxiliary input, 4 the latched mode, 5 to 8 the timer,
-- 9 to 15 zero. Numbers are big-endian.
abbrev pub stored : Kept → List ℕ
stored k = to_be_bytes w16 k.code ++ (bit k.last_reset ∷ bit k.last_auxiliary ∷ k.mode ∷ (to_be_bytes w32 k.timer ++ replicate 7 0))

-- ---- What a kind can keep.

-- Idle and the states of the table
abbrev pub states : Kind → List ℕ
states kind = 0 ∷ map (λ (r : Row). r.state) (block kind).rows

-- a code is that of a state of the kind
abbrev pub is_state : Kind → ℕ → Bool
is_state kind q = list_any (λ x. x == q) (states kind)

-- A last input is 0 or 1 for a kind that has the pin, and 0 for others.
abbrev pub is_last : Option ℕ → ℕ → Bool
is_last None byte = byte == 0
is_last (Some j) byte = nat_le byte 1

-- A latched mode is 0 to 7 in 8000 and 8004 of SF_ModeSelector, and 0 elsewhere.
abbrev pub is_mode : Kind → ℕ → ℕ → Bool
is_mode ModeSelector code mode = if list_any (λ x. x == code) mode_states then nat_lt mode 8 else mode == 0
is_mode _ code mode = mode == 0

-- A kind can keep this: a state of its own, last inputs that it has, a mode of its own, and a timer of 32 bits.
pub record IsKept (kind : Kind) (k : Kept) : Type 0 where
  pub state : is_state kind k.code ≡ true
  pub last_reset : is_last (block kind).reset (bit k.last_reset) ≡ true
  pub last_auxiliary : is_last (block kind).auxiliary (bit k.last_auxiliary) ≡ true
  pub mode : is_mode kind k.code k.mode ≡ true
  pub timer : k.timer < 2 ^ 32

-- The bytes are those of something that the kind can keep. By law, of one alone.
pub record Loads (kind : Kind) (bytes : List ℕ) (k : Kept) : Type 0 where
  pub kept : IsKept kind k
  pub bytes_are : bytes ≡ stored k

-- ---- The same as a reader: what sixteen bytes keep, and None exactly where they load for no state of the kind.

-- the number in two bytes at a place
abbrev pub be2 : List ℕ → ℕ → ℕ
be2 bytes at = from_be_bytes w16 (slice_index bytes at ∷ slice_index bytes (at + 1) ∷ [])

-- the number in four bytes at a place
abbrev pub be4 : List ℕ → ℕ → ℕ
be4 bytes at = from_be_bytes w32 (slice_index bytes at ∷ slice_index bytes (at + 1) ∷ slice_index bytes (at + 2) ∷ slice_index bytes (at + 3) ∷ [])

-- what the bytes say, each field at its place
abbrev pub kept_in : List ℕ → Kept
kept_in bytes = record {
  code = be2 bytes 0;
  last_reset = slice_index bytes 2 == 1;
  last_auxiliary = slice_index bytes 3 == 1;
  mode = slice_index bytes 4;
  timer = be4 bytes 5;
}

-- the bytes are those of something that the kind can keep
abbrev pub does_load : Kind → List ℕ → Bool
does_load kind bytes =
    is_state kind (be2 bytes 0)
    && is_last (block kind).reset (slice_index bytes 2)
    && is_last (block kind).auxiliary (slice_index bytes 3)
    && is_mode kind (be2 bytes 0) (slice_index bytes 4)
    && list_all (λ b. b == 0) (drop 9 bytes)

-- what the bytes keep, where they load
abbrev pub loaded : Kind → List ℕ → Option Kept
loaded kind bytes = if does_load kind bytes then Some (kept_in bytes) else None
