use Rattle.std.proofs.Common.{◌≡◌, ◌+◌, ◌-◌, ℕ, length, arith, length-drop, length-take}
use Rattle.ps_lines.specs.Reader.{held_of}
use Rattle.ps_lines.proofs.Cut.{held_of-moved, lines_at-kept, line_over_whole, shown_held, part_held}
use Rattle.ps_lines.proofs.reader.LineReader.show_held.Goals as goal

pub returns-clause-reads : goal.returns-clause-reads
returns-clause-reads c = λ text reads.
    let size : length (held_of c.args.self.now) ≡ c.args.self.now.upto - c.args.self.now.from = omega (arith, length-take {A = ℕ}, length-drop {A = ℕ}) in
    line_over_whole (c.args.n + 1) reads c.requires.whole (held_of-moved c.args.self.now.piece.items c.args.self.now.from c.args.self.now.upto (c.args.n + 1) (omega arith)) (omega arith) (omega arith)

pub returns-clause-gives : goal.returns-clause-gives
returns-clause-gives c = λ text reads.
    let size : length (held_of c.args.self.now) ≡ c.args.self.now.upto - c.args.self.now.from = omega (arith, length-take {A = ℕ}, length-drop {A = ℕ}) in
    let part_is = part_held c.args.self.now.piece.items c.deref.result.now c.args.self.now.from c.args.self.now.upto c.args.n (c.args.self.now.from + c.args.n - c.args.self.now.from) c.deref.ensures.value (omega arith) (omega arith) in
    lines_at-kept c.args.self.now.limits.largest c.args.self.now.limits.longest c.args.n reads (omega arith) (omega arith) c.requires.feed c.requires.first (omega arith) (omega arith)
    (omega (arith, length-take {A = ℕ}, length-drop {A = ℕ}))
    (shown_held c.args.self.now.piece.items _ c.args.self.now.from c.args.self.now.upto c.args.n c.stripped.result reads c.requires.whole size (omega arith) part_is c.stripped.ensures.within c.stripped.ensures.stripped)
