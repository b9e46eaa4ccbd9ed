-- What a word means that stands in the place of a trace: `FILE` is the trace of that name, `FILE.cases` the cases of a
-- file in one trace, and `FILE.cases:LINE` the case of that file that has this line.
use Rattle.std.specs.Prelude.{ℕ, ◌==◌, ◌&&◌, nat_lt, Bool, List, length, if◌then◌else◌, codes, Option, Some, None}
use Rattle.std.specs.Prelude.{unwrap_or}
use Rattle.std.specs.Char.{is_ascii_digit}
use Rattle.std.specs.List.{ends_with, list_all}
use Rattle.std.specs.Path.{rsplit_once}
use Rattle.ps_trace.specs.Words.{number_of}
use Rattle.ps_bench_frame.specs.declared.meant.Part.{Part}
use Rattle.ps_bench_frame.specs.declared.meant.Part.TheVariants.{Trace, Cases, Case}

-- a file, and what of it is meant
pub record Meant : Type 0 where
  pub file : List ℕ
  pub part : Part

-- what is meant, of these two
abbrev pub meant : (file : List ℕ) → Part → Meant
meant file part = record { file = file; part = part }

-- the character `:`
abbrev pub colon : ℕ
colon = 58

-- the largest number of 32 bits
abbrev pub LARGEST_LINE : ℕ
LARGEST_LINE = 4294967295

-- a name is that of a case file
abbrev pub is_of_cases : List ℕ → Bool
is_of_cases name = ends_with (λ a b. a == b) name (codes ".cases")

-- the line that digits say; one of more than 32 bits counts as the largest of them, which no file has
abbrev pub line_said : List ℕ → Option ℕ
line_said word =
    if nat_lt 0 (length word) && list_all is_ascii_digit word then Some (unwrap_or (number_of word) LARGEST_LINE)
    else None

-- a word that has no line
abbrev pub whole_word : List ℕ → Meant
whole_word word = if is_of_cases word then meant word Cases else meant word Trace

-- a word by what stands before its last colon and the line after it, if it has them
abbrev pub by_line : (word file : List ℕ) → Option ℕ → Meant
by_line word file None = whole_word word
by_line word file (Some line) = if is_of_cases file then meant file (Case line) else whole_word word

-- a word by its two parts, if it has a colon
abbrev pub by_colon : (word : List ℕ) → Option (List ℕ × List ℕ) → Meant
by_colon word None = whole_word word
by_colon word (Some parts) = by_line word parts.0 (line_said parts.1)

-- what a word means
abbrev pub word_meant : List ℕ → Meant
word_meant word = by_colon word (rsplit_once colon word)

-- the file that a word names
abbrev pub file_meant : List ℕ → List ℕ
file_meant word = (word_meant word).file
