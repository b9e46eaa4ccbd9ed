use Rattle.std.proofs.Common.{◌≡◌, map, take}
use Rattle.ps_notes.specs.declared.note.Placed.{Placed}
use Rattle.ps_findings.specs.Places.{placed}
use Rattle.ps_findings.proofs.places.placed_notes.Given as goal

abbrev pub invariant-loop-note : goal.invariant-loop-note
invariant-loop-note l = record {
  notes : map (λ (p : Placed). p.note) l.list.items ≡ take l.note-index l.note-items;
  placed : l.list.items ≡ map (placed l.source l.app) (take l.note-index l.note-items);
}
