-- What is remarked of a word whose line is in no case.
use Rattle.std.specs.Prelude.{◌≡◌, ◌++◌, ℕ, List, [], ◌∷◌, codes, decimal, length, take, nat_le, if◌then◌else◌}
use Rattle.std.specs.List.{flat_map}
use Rattle.ps_bench_cases.specs.declared.case.Case.{Case}
use Rattle.ps_bench_cases.specs.declared.case.CaseFile.{CaseFile}
use Rattle.ps_bench_frame.specs.Meant.{file_meant}
use Rattle.ps_bench_frame.specs.Opening.{IsOfText, Source}
use Rattle.ps_bench_frame.specs.Pieces.{shown}
use Rattle.ps_bench_trace.specs.Playing.{LacksCase}
use Rattle.ps_bench_trace.specs.declared.playing.TheConstants.{MOST_TOLD}

-- the lines on which cases begin, with a comma between them
abbrev pub lines_text : List Case → List ℕ
lines_text [] = []
lines_text (first ∷ others) = decimal first.line ++ flat_map (λ case. codes ", " ++ decimal case.line) others

-- the same, of many the first ones
abbrev pub first_lines_text : List Case → List ℕ
first_lines_text cases =
    lines_text (take MOST_TOLD cases) ++ (if nat_le (length cases) MOST_TOLD then [] else codes ", ..")

-- no case of a file has the line of the word
abbrev pub no_case_text : (word : List ℕ) → CaseFile → List ℕ
no_case_text word file =
    shown word ++ codes ": no case has this line\nname a line of a case; the cases begin at the lines "
    ++ first_lines_text file.cases ++ codes " (docs/watch.md)\n"

-- the text tells of a word that its line is in no case of the file of this name, and at which lines cases begin there
abbrev pub TellsNoCaseOf : Source → (name word text : List ℕ) → Type 0
TellsNoCaseOf from name word text =
    (file : CaseFile) × IsOfText from name file × (text ≡ no_case_text word file)

-- no case has the line of the word, and the text tells so
abbrev pub TellsNoCase : Source → (word text : List ℕ) → Type 0
TellsNoCase from word text = LacksCase from word × TellsNoCaseOf from (file_meant word) word text
