use Rattle.std.proofs.Common.{◌≡◌, true, take}
use Rattle.std.specs.List.{list_all}
use Rattle.ps_words.specs.Command as asked
use Rattle.ps_words.specs.Seen.{seen}
use Rattle.ps_words.proofs.command.plain_texts.Given as goal

abbrev pub invariant-loop-i : goal.invariant-loop-i
invariant-loop-i l = (seen l.texts.items ≡ take l.i l.words) × (list_all asked.is_plain (take l.i l.words) ≡ true)
