use Rattle.std.proofs.Common.{◌≡◌, ◌+◌, ◌-◌, ℕ, take, length, arith, ap, ◌∙◌, length-drop, length-take}
use Rattle.std.proofs.lemmas.Grind.{common_steps}
use Rattle.std.proofs.lemmas.List.{with_items_is}
use Rattle.std.specs.Vec.{with_items}
use Rattle.ps_lines.specs.Reader.{held_of, begin_of}
use Rattle.ps_lines.proofs.Cut.{held_of-moved, lines_at-kept, line_over_now, kept_more, keeps_from, part_held, shown_kept}
use Rattle.ps_lines.proofs.reader.LineReader.show_kept.Goals as goal

pub returns-clause-reads : goal.returns-clause-reads
returns-clause-reads c = λ text reads.
    let size : length (held_of c.args.self.now) ≡ c.args.self.now.upto - c.args.self.now.from = omega (arith, length-take {A = ℕ}, length-drop {A = ℕ}) in
    line_over_now (c.args.n + 1) reads (held_of-moved c.args.self.now.piece.items c.args.self.now.from c.args.self.now.upto (c.args.n + 1) (omega arith)) (omega arith) (omega arith)

pub returns-clause-gives : goal.returns-clause-gives
returns-clause-gives c = λ text reads.
    let size : length (held_of c.args.self.now) ≡ c.args.self.now.upto - c.args.self.now.from = omega (arith, length-take {A = ℕ}, length-drop {A = ℕ}) in
    let room : length c.keep.new.line ≡ c.args.self.now.line.len = omega arith in
    let items : (with_items c.args.self.now.line c.keep.new.line).items ≡ c.keep.new.line = with_items_is c.args.self.now.line c.keep.new.line room in
    let part = part_held c.args.self.now.piece.items c.deref.result.now c.args.self.now.from c.args.self.now.upto c.args.n (c.args.self.now.from + c.args.n - c.args.self.now.from) c.deref.ensures.value (omega arith) (omega arith) in
    lines_at-kept c.args.self.now.limits.largest c.args.self.now.limits.longest c.args.n reads (omega arith) (omega arith) c.requires.feed c.requires.first (omega arith) (omega arith)
    (omega (arith, length-take {A = ℕ}, length-drop {A = ℕ}))
    (shown_kept text _ (with_items c.args.self.now.line c.keep.new.line).items c.stripped-self.result (c.args.self.now.count + c.args.n) (begin_of c.args.self.now)
    c.stripped-self.ensures.stripped c.stripped-self.ensures.within (grind (arith, common_steps))
    (ap (take (c.args.self.now.count + c.args.n)) items
    ∙ kept_more c.args.n c.keep.new.line reads (omega arith) (omega arith) (omega arith)
    (keeps_from _ _ _ _ (held_of c.args.self.now) _ c.args.n c.keep.ensures c.deref_mut.ensures.value part (omega arith) (omega arith))))
