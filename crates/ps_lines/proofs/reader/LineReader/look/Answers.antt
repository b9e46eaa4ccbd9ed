use Rattle.std.proofs.Common.{◌≡◌, ◌-◌, ℕ, List, length, take, drop, arith, subst, refl, length-drop, length-take}
use Rattle.ps_lines.specs.Lines.{HasNoLineFeed}
use Rattle.ps_lines.specs.Reader.{held_of}
use Rattle.ps_lines.proofs.Cut.{lines_at-past}
use Rattle.ps_lines.proofs.reader.LineReader.look.Goals as goal

pub returns-then-self-from-clause-gives : goal.returns-then-self-from-clause-gives
returns-then-self-from-clause-gives c = λ text reads.
    let size : length (held_of c.args.self.now) ≡ c.args.self.now.upto - c.args.self.now.from = omega (arith, length-take {A = ℕ}, length-drop {A = ℕ}) in
    let none : HasNoLineFeed (held_of c.args.self.now) =
    subst (λ (t : List ℕ). HasNoLineFeed (take (c.args.self.now.upto - c.args.self.now.from) (drop c.args.self.now.from t))) c.deref.ensures.value c.in-None.ensures.none in
    let large = lines_at-past c.args.self.now.limits.largest c.args.self.now.limits.longest reads (omega arith) none (omega arith) (omega arith) in
    (refl, large.0, large.1)
