-- A value that is watched, from one scan to the next.
use Rattle.std.specs.Prelude.{ℕ, Bool, if◌then◌else◌, Some, None}
use Rattle.ps_bench_waves.specs.declared.field.Field.{Field}

-- a field in the next scan, which is or is not a first one, and in which it has this value
abbrev pub in_next : (is_first : Bool) → (value : ℕ) → Field → Field
in_next is_first value f = record { before = if is_first then None else Some f.value; value = value }
