use Rattle.std.proofs.Common.{◌++◌, ◌+◌, [], ℕ, List, ap, arith, codes, cond, eqb, flat_map, refl, ◌∙◌}
use Rattle.std.specs.List.{range_with_len}
use Rattle.ps_findings.proofs.Saying.{no_more, said_more, said_so}
use Rattle.ps_findings.proofs.Usages.{no_place, one_place}
use Rattle.ps_findings.specs.Usage.{count_taken, led, row_text, word_of}
use Rattle.ps_findings.proofs.usage.add_row.Goals as goal

pub loop-place-init : goal.loop-place-init
loop-place-init c = ([], no_more c.add-2.new.self, refl)

pub loop-place-preserved : goal.loop-place-preserved
loop-place-preserved c =
    let inv = c.loop-place.invariant in
    let row = c.args.row.now in
    let place = c.loop-place.place in
    let f : ℕ → List ℕ = λ p. led (eqb p (count_taken row + 1)) (word_of row p) in (
      inv.0 ++ f place,
      said_more c.add-2.new.self c.loop-place.telling c.add_led.new.telling inv.0 (f place) inv.1
          (said_so c.loop-place.telling c.add_led.new.telling (led (eqb place (c.count_taken-wanted.result + 1)) c.word_of.result.now) (f place)
          (λ i. led (eqb place (c.count_taken-wanted.ensures.counts i + 1)) (c.word_of.ensures i)) c.add_led.ensures),
      one_place f place inv.0 (flat_map f (range_with_len 1 9)) (omega arith) inv.2,
    )

pub returns : goal.returns
returns c =
    let inv = c.loop-place.invariant in
    let row = c.args.row.now in
    let f : ℕ → List ℕ = λ p. led (eqb p (count_taken row + 1)) (word_of row p) in
    let takes = c.takes.ensures ∙ ap (λ (n : ℕ). cond (eqb n 0) (codes " takes no word") (codes " takes")) c.count_taken-wanted.ensures.counts in
    let words = no_place f c.loop-place.place inv.0 (flat_map f (range_with_len 1 9)) (omega arith) inv.2 in
    said_so c.args.telling.now c.loop-place.telling ((c.command_in.result.now ++ c.takes.result.now) ++ inv.0) (row_text row)
    (λ i. (c.command_in.ensures i ++ takes i) ++ words i)
    (said_more c.args.telling.now c.add-2.new.self c.loop-place.telling (c.command_in.result.now ++ c.takes.result.now) inv.0
    (said_more c.args.telling.now c.add.new.self c.add-2.new.self c.command_in.result.now c.takes.result.now c.add.ensures c.add-2.ensures) inv.1)
