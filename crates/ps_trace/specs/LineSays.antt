-- What the code says of a line.
use Rattle.std.specs.Prelude.{◌≡◌, ◌<◌, ◌++◌, ◌*◌, ◌==◌, ◌&&◌, ◌||◌, ℕ, List, [], ◌∷◌, Bool, true, false, Some, length, map, take, slice_index}
use Rattle.ps_trace.specs.Words.{is_blank, fields, number_of}
use Rattle.ps_trace.specs.Trace.{Said}
use Rattle.ps_trace.specs.Trace.Said.{skips, restarts, scans, breaks}
use Rattle.ps_trace.specs.declared.scan_line.LineSays.{LineSays}
use Rattle.ps_trace.specs.declared.scan_line.LineSays.TheVariants.{Nothing, Restart, Scan, Broken}

-- what is said by an answer, with the values that were written aside
abbrev pub said_by : LineSays → List Bool → Said
said_by Nothing values = skips
said_by Restart values = restarts
said_by (Scan now) values = scans now values
said_by (Broken rule) values = breaks rule

-- the word of a value
abbrev pub word_of : Bool → List ℕ
word_of false = 48 ∷ []
word_of true = 49 ∷ []

-- these values, each after one space
abbrev pub spaced : List Bool → List ℕ
spaced [] = []
spaced (value ∷ values) = 32 ∷ (word_of value ++ spaced values)

-- two bytes are a space and a value
abbrev pub is_pair : (space value : ℕ) → Bool
is_pair space value = space == 32 && (value == 48 || value == 49)

-- the first bytes are as many of these values, each after one space
abbrev pub IsSpacedTo : List ℕ → ℕ → List Bool → Type 0
IsSpacedTo bytes count values = take (2 * count) bytes ≡ spaced (take count values)

-- no byte of these belongs to a word that ends in front of them
abbrev pub IsApart : List ℕ → Type 0
IsApart bytes = 0 < length bytes → is_blank (slice_index bytes 0) ≡ true

-- bytes that begin with digits of this value, and go on with others
pub record IsNumbered (bytes : List ℕ) (value : ℕ) (behind : List ℕ) : Type 0 where
  pub digits : List ℕ
  pub whole : bytes ≡ digits ++ behind
  pub number : number_of digits ≡ Some value

-- a line with this time, and with these values after it
pub record IsPlain (line : List ℕ) (now : ℕ) (values : List Bool) : Type 0 where
  pub time : List ℕ
  pub whole : fields line ≡ time ∷ map word_of values
  pub number : number_of time ≡ Some now
