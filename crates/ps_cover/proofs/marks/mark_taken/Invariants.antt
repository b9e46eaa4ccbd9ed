use Rattle.std.proofs.Common.{◌≡◌, ◌<◌, ℕ, false, length, slice_index_or}
use Rattle.ps_model.specs.Blocks.{next}
use Rattle.ps_model.specs.Table.{Conditions}
use Rattle.ps_cover.specs.Marks.{marked}
use Rattle.ps_ways.specs.Marks.{number_taken}
use Rattle.ps_cover.proofs.marks.mark_taken.Given as goal

abbrev pub invariant-loop-mark : goal.invariant-loop-mark
invariant-loop-mark l = record {
  each : length l.met ≡ length l.fn.met;
  marks : (c : Conditions) → l.taken.number ≡ number_taken l.taken.kind l.taken.from c → l.taken.to ≡ next l.taken.kind l.taken.from c →
      (mark : ℕ) → mark < l.mark → slice_index_or l.met mark false ≡ marked l.taken.kind l.taken.from c mark;
}
