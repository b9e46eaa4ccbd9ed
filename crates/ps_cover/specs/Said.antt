-- The text of a piece of a line.
use Rattle.std.specs.Prelude.{ℕ, ◌+◌, List, decimal}
use Rattle.ps_report.specs.Lines.{code_text}
use Rattle.ps_cover.specs.Lines.{guard_text, joined_by, json_truth, state_text, truth}
use Rattle.ps_cover.specs.Text.{excluded_text}
use Rattle.ps_cover.specs.declared.said.Said.{Said}
use Rattle.ps_cover.specs.declared.said.Said.TheVariants as said

-- the text that a piece is
abbrev pub said_text : Said → List ℕ
said_text (said.Words words) = words.now
said_text (said.Name name) = name.now
said_text (said.Small number) = decimal number
said_text (said.Number number) = decimal number
said_text (said.Count count) = decimal count
said_text (said.Ordinal place) = decimal (place + 1)
said_text (said.Code code) = code_text code
said_text (said.State kind code) = state_text kind code
said_text (said.Excluded count) = excluded_text count
said_text (said.Truth value) = truth value
said_text (said.JsonTruth value) = json_truth value
said_text (said.Joined of_and) = joined_by of_and
said_text (said.Guard kind place way) = guard_text kind place way.now
