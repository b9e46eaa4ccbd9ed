use Rattle.std.proofs.Common.{◌≡◌, take}
use Rattle.std.specs.List.{flat_map}
use Rattle.ps_message.specs.NoteLine.{note_text}
use Rattle.ps_bench_report.proofs.texts.lines_of.Given as goal

abbrev pub invariant-loop-note : goal.invariant-loop-note
invariant-loop-note l = l.lines ≡ flat_map (note_text l.name l.app) (take l.note-index l.notes)
