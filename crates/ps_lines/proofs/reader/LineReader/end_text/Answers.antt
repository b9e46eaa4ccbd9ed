use Rattle.std.proofs.Common.{◌≡◌, ◌≤◌, ℕ, length, arith, length-drop, length-take}
use Rattle.ps_lines.specs.Reader.{held_of}
use Rattle.ps_lines.proofs.Cut.{lines_at-last_long, lines_at-last_kept}
use Rattle.ps_lines.proofs.reader.LineReader.end_text.Goals as goal

pub returns-then-size-self-clause-gives : goal.returns-then-size-self-clause-gives
returns-then-size-self-clause-gives c = λ text reads ends.
    let size : length (held_of c.args.self.now) ≡ 0 = omega (arith, length-take {A = ℕ}, length-drop {A = ℕ}, c.requires.all_looked_at) in
    lines_at-last_long c.args.self.now.limits.largest c.args.self.now.limits.longest reads (omega arith) size ends c.requires.not_large c.if-size-self.true (omega arith)

pub returns-clause-gives : goal.returns-clause-gives
returns-clause-gives c = λ text reads ends.
    let size : length (held_of c.args.self.now) ≡ 0 = omega (arith, length-take {A = ℕ}, length-drop {A = ℕ}, c.requires.all_looked_at) in
    let short : c.args.self.now.count ≤ c.args.self.now.limits.longest = omega arith in
    lines_at-last_kept c.args.self.now.limits.largest c.args.self.now.limits.longest reads (omega arith) size ends (omega arith) c.requires.not_large short (omega arith) (reads.kept short)
