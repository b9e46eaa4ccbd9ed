use Rattle.std.proofs.Common.{◌≡◌, ◌<◌, ◌+◌, ◌-◌, ℕ, length, arith, refl, length-drop, length-take}
use Rattle.ps_lines.specs.Reader.{held_of}
use Rattle.ps_lines.proofs.Cut.{held_of-moved, lines_at-large, lines_at-long, line_over_now}
use Rattle.ps_lines.proofs.reader.LineReader.end_line.Goals as goal

pub returns-then-end-from-clause-gives : goal.returns-then-end-from-clause-gives
returns-then-end-from-clause-gives c = λ text reads.
    let size : length (held_of c.args.self.now) ≡ c.args.self.now.upto - c.args.self.now.from = omega (arith, length-take {A = ℕ}, length-drop {A = ℕ}) in
    let past : c.args.self.now.limits.largest < c.args.self.now.at - length (held_of c.args.self.now) - c.args.self.now.count + (c.args.self.now.count + c.args.n + 1) = omega arith in
    let large = lines_at-large c.args.self.now.limits.largest c.args.self.now.limits.longest c.args.n reads (omega arith) (omega arith) c.requires.feed c.requires.first past in
    (refl, large.0, large.1)

pub returns-then-self-n-clause-reads : goal.returns-then-self-n-clause-reads
returns-then-self-n-clause-reads c = λ text reads.
    let size : length (held_of c.args.self.now) ≡ c.args.self.now.upto - c.args.self.now.from = omega (arith, length-take {A = ℕ}, length-drop {A = ℕ}) in
    line_over_now (c.args.n + 1) reads (held_of-moved c.args.self.now.piece.items c.args.self.now.from c.args.self.now.upto (c.args.n + 1) (omega arith)) (omega arith) (omega arith)

pub returns-then-self-n-clause-gives : goal.returns-then-self-n-clause-gives
returns-then-self-n-clause-gives c = λ text reads.
    let size : length (held_of c.args.self.now) ≡ c.args.self.now.upto - c.args.self.now.from = omega (arith, length-take {A = ℕ}, length-drop {A = ℕ}) in
    lines_at-long c.args.self.now.limits.largest c.args.self.now.limits.longest c.args.n reads (omega arith) (omega arith) c.requires.feed c.requires.first (omega arith) (omega arith)
    (omega (arith, length-take {A = ℕ}, length-drop {A = ℕ}))
