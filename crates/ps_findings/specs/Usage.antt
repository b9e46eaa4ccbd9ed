-- What is said of words that are not taken: what is wrong with them, and what helps. It is found in a table of rows
-- like those of help: two spaces, a command or an option, what it takes, and an example that begins with `plcsafe`.
use Rattle.std.specs.Prelude.{ℕ, ◌+◌, ◌-◌, ◌==◌, ◌&&◌, ◌||◌, Bool, not, List, [], ◌∷◌, ◌++◌, Option, Some, None}
use Rattle.std.specs.Prelude.{codes, filter, find, if◌then◌else◌, length, map, max, nat_eq, nat_le, nat_lt, reverse}
use Rattle.std.specs.Prelude.{slice_index_or, take}
use Rattle.std.specs.Char.{is_ascii_digit, to_ascii_lowercase}
use Rattle.std.specs.List.{flat_map, list_all, prefix_len, range_with_len, slice_split, starts_with, zip}
use Rattle.std.specs.Str.{bytes_eq}
use Rattle.ps_text.specs.Quoted.{line_of}

-- ---- rows

-- a byte between words: a space, a tab or a carriage return
abbrev pub is_blank : ℕ → Bool
is_blank b = b == 32 || b == 9 || b == 13

-- the words of a line
abbrev pub words_in : List ℕ → List (List ℕ)
words_in line = filter (λ w. not (length w == 0)) (slice_split is_blank line)

-- the word of this number of a line, from 0; empty where it has none
abbrev pub word_of : List ℕ → ℕ → List ℕ
word_of line n = slice_index_or (words_in line) n []

-- the command or option of a row; empty in a line that is no row
abbrev pub command_in : List ℕ → List ℕ
command_in row = if starts_with nat_eq row (codes "  ") then word_of row 0 else []

-- what stands at a place after the command, as TRACE; empty where nothing does, or the example
abbrev pub taken_at : List ℕ → ℕ → List ℕ
taken_at row place = if bytes_eq (word_of row place) (codes "plcsafe") then [] else word_of row place

-- how many words a row takes after its command, at most three
abbrev pub count_taken : List ℕ → ℕ
count_taken row =
    if length (taken_at row 1) == 0 then 0
    else if length (taken_at row 2) == 0 then 1
    else if length (taken_at row 3) == 0 then 2 else 3

-- the lines of a table from one of this number up to line 19
unfoldable pub rows_from : (table : List ℕ) → (number : ℕ) → List (List ℕ)
rows_from table number = map (line_of table) (range_with_len number (20 - number))

-- the lines of a table but its first, in which its rows are
abbrev pub rows_of : (table : List ℕ) → List (List ℕ)
rows_of table = rows_from table 1

-- the first row of this command; empty where none has it, or the word is empty
abbrev pub row_among : (word : List ℕ) → List (List ℕ) → List ℕ
row_among word [] = []
row_among word (row ∷ rows) =
    if not (length word == 0) && bytes_eq (command_in row) word then row else row_among word rows

-- ---- the nearest command

-- whether two bytes are the same without letter case
abbrev pub is_same_byte : ℕ × ℕ → Bool
is_same_byte pair = to_ascii_lowercase pair.0 == to_ascii_lowercase pair.1

-- how many bytes two words have in common at their beginning, without letter case
abbrev pub common : (word other : List ℕ) → ℕ
common word other = prefix_len is_same_byte (zip word other)

-- how many bytes of the longer of two words stand in neither common end
abbrev pub slips : (word other : List ℕ) → ℕ
slips word other = max (length word) (length other) - (common word other + common (reverse word) (reverse other))

-- Of these rows the first of those whose command is nearest to a word, if it has fewer slips than `least`; or else
-- another row.
abbrev pub nearest : (word : List ℕ) → (least : ℕ) → (other : List ℕ) → List (List ℕ) → List ℕ
nearest word least other [] = other
nearest word least other (row ∷ rows) =
    if not (length (command_in row) == 0) && nat_lt (slips word (command_in row)) least
    then nearest word (slips word (command_in row)) row rows else nearest word least other rows

-- the row that is nearest to a word, with at most two slips; empty where none is
abbrev pub row_near : (table word : List ℕ) → List ℕ
row_near table word = nearest word 3 [] (rows_of table)

-- the row of a command, and where the word is none, the nearest one
abbrev pub row_meant : (table word : List ℕ) → List ℕ
row_meant table word =
    if length (row_among word (rows_of table)) == 0 then row_near table word else row_among word (rows_of table)

-- ---- what is wrong

-- a word in quotation marks, of which the first 40 bytes are shown
abbrev pub in_marks : List ℕ → List ℕ
in_marks word = codes "\"" ++ take 40 word ++ codes "\""

-- a first word that is no command, with the nearest one
abbrev pub unknown_text : (word command : List ℕ) → List ℕ
unknown_text word command =
    in_marks word ++ codes " is no command"
    ++ (if length command == 0 then [] else codes "; the nearest is " ++ command)

-- a word that names no file: it is empty, or looks like an option
abbrev pub names_no_file : List ℕ → Bool
names_no_file word = length word == 0 || starts_with nat_eq word (codes "-")

-- what is wrong with it
abbrev pub no_file_text : List ℕ → List ℕ
no_file_text word =
    if length word == 0 then codes "a word is empty, and no name of a file is"
    else in_marks word ++ codes " begins with a hyphen: no name of a file does, and no command has options"

-- a number that `load` takes
abbrev pub is_load : List ℕ → Bool
is_load word =
    (nat_le (length word) 3 || bytes_eq word (codes "1000")) && list_all is_ascii_digit word
    && not (starts_with nat_eq word (codes "0"))

-- What is wrong with how many words stand after the command of a row, or with the number of `load`; nothing, if
-- nothing is.
abbrev pub count_text : (row : List ℕ) → (words : List (List ℕ)) → List ℕ
count_text row words =
    if nat_lt (length words) (count_taken row) then taken_at row (length words + 1) ++ codes " is missing"
    else if nat_lt (count_taken row) (length words)
    then in_marks (slice_index_or words (count_taken row) []) ++ codes " is one word too many"
    else if length words == 1 && not (is_load (slice_index_or words 0 []))
    then in_marks (slice_index_or words 0 []) ++ codes " is no number from 1 to 1000, in digits without a zero in front"
    else []

-- what is wrong with a word that names no file, if there is one, and else with how many words there are
abbrev pub file_or_count : Option (List ℕ) → (row : List ℕ) → (words : List (List ℕ)) → List ℕ
file_or_count (Some word) row words = no_file_text word
file_or_count None row words = count_text row words

-- what is wrong with the words after a command of this row
abbrev pub words_text : (row : List ℕ) → (words : List (List ℕ)) → List ℕ
words_text row words = file_or_count (find names_no_file words) row words

-- what is wrong with the words of a call
abbrev pub wrong_text : (table : List ℕ) → (words : List (List ℕ)) → List ℕ
wrong_text table [] = []
wrong_text table (first ∷ words) =
    if length (row_among first (rows_of table)) == 0 then unknown_text first (command_in (row_near table first))
    else words_text (row_among first (rows_of table)) words

-- ---- what helps

-- a word of a row, before which stands what leads to an example where it begins one; nothing where there is none
abbrev pub led : (begins_example : Bool) → List ℕ → List ℕ
led begins_example word =
    if length word == 0 then [] else (if begins_example then codes ", as: " else codes " ") ++ word

-- what the command of a row takes, and its example
abbrev pub row_text : List ℕ → List ℕ
row_text row =
    command_in row ++ (if count_taken row == 0 then codes " takes no word" else codes " takes")
    ++ flat_map (λ place. led (place == count_taken row + 1) (word_of row place)) (range_with_len 1 9)

-- what helps against words that are not taken: what the command that was meant takes, or where all commands stand
abbrev pub help_text : (table : List ℕ) → (first : List ℕ) → List ℕ
help_text table first =
    if length (row_meant table first) == 0 then codes "plcsafe --help has the commands, with an example each"
    else row_text (row_meant table first)
