-- Files and a sink in memory, as contracts see them.
use Rattle.std.specs.Prelude.{◌≡◌, ◌⊎◌, ◌<◌, ◌-◌, ℕ, List, Option, IsNone, Contains, length, min}

-- files in memory
pub record FilesInMemory : Type 0 where
  -- the bytes that are held under each name, and the count of faults of each name
  pub held : List ℕ → Option (List ℕ)
  pub faults : List ℕ → ℕ
  -- the numbers of the reads that fail, and how many reads there were
  pub failing : List ℕ
  pub calls : ℕ
  -- the most bytes that a read gives
  pub most : ℕ

-- a sink in memory
pub record SinkInMemory : Type 0 where
  -- the bytes that it took, and how many it may take in all
  pub taken : List ℕ
  pub room : ℕ
  -- the numbers of the writes that fail, how many writes there were, and the count of faults
  pub failing : List ℕ
  pub calls : ℕ
  pub faults : ℕ

-- a read with this number fails: it is chosen to fail, or the name isn't held
abbrev pub ReadFails : FilesInMemory → List ℕ → ℕ → Type 0
ReadFails files name number = Contains files.failing number ⊎ IsNone (files.held name)

-- two names have one count: they are the same, or neither is held
abbrev pub ShareCount : FilesInMemory → List ℕ → List ℕ → Type 0
ShareCount files name other = (name ≡ other) ⊎ (IsNone (files.held name) × IsNone (files.held other))

-- how many bytes of a text a read from an offset on gives, into so many places
abbrev pub given_count : (text : List ℕ) (at places most : ℕ) → ℕ
given_count text at places most = min (min (length text - at) places) most

-- a write with this number fails: it is chosen to fail, or the piece is longer than the room that is left
abbrev pub WriteFails : SinkInMemory → List ℕ → ℕ → Type 0
WriteFails sink piece number = Contains sink.failing number ⊎ (sink.room - length sink.taken < length piece)
