-- What one channel keeps of an application's state, from which another is restored.
use Rattle.std.specs.Prelude.{ℕ, ◌+◌, ◌*◌, List, map, slice_index}
use Rattle.std.specs.List.{range_with_len}
use Rattle.ps_model.specs.declared.sizes.Sizes.{Sizes}
use Rattle.ps_machine.specs.Bytes.{replaced}

-- so many bytes from a place on
abbrev pub bytes_from : (first count : ℕ) → List ℕ → List ℕ
bytes_from first count cells = map (λ k. slice_index cells (first + k)) (range_with_len 0 count)

-- the bytes of the signals and then of the instances, where those of the signals begin at a place
abbrev pub carried : Sizes → (first : ℕ) → List ℕ → List ℕ
carried z first cells = bytes_from first (z.signals + 16 * z.instances) cells

-- blank cells with a time at its place, and then signals and instances from theirs on
abbrev pub filled : (blank : List ℕ) → (time_at : ℕ) → (time : List ℕ) → (first : ℕ) → (rest : List ℕ) → List ℕ
filled blank time_at time first rest = replaced (replaced blank time_at time) first rest
