use Rattle.std.proofs.Common.{◌≡◌, ◌<◌, ◌+◌, ◌-◌, ℕ, ap, ◌∙◌, arith}
use Rattle.std.specs.Prelude.{slice_set}
use Rattle.ps_eqvm.specs.declared.layout.TheConstants.{PASSED_AT, WORK_AT}
use Rattle.ps_eqvm.specs.Plain.{Plain, plain_bytes, laid_out}
use Rattle.ps_eqvm.proofs.Poking.{passed_set, stored_set}
use Rattle.ps_eqvm.proofs.plain.PlainCells.poke.Goals as goal

pub returns-else-at-lt-WORK_AT-clause-poked : goal.returns-else-at-lt-WORK_AT-clause-poked
returns-else-at-lt-WORK_AT-clause-poked c =
    let small : c.args.stored < 256 = omega arith in
    let place : WORK_AT + (c.args.at - WORK_AT) ≡ c.args.at = omega (arith, c.if-at-lt-WORK_AT.false) in
    stored_set c.args.self.now c.poke_cell.new.self c.args.at c.args.stored small
    (c.poke_cell.ensures.poked ∙ ap (λ (k : ℕ). slice_set (plain_bytes c.args.self.now) k (255 - c.args.stored)) place)

pub returns-then-at-lt-WORK_AT-clause-poked : goal.returns-then-at-lt-WORK_AT-clause-poked
returns-then-at-lt-WORK_AT-clause-poked c =
    let i = c.self-then-at-lt-WORK_AT.inside in
    let p : Plain = record { offset = i.offset; progress = i.progress; last = i.last; passed = i.passed; cells = i.cells; blocks = i.blocks } in
    let n = c.with_byte-self-inside-then-at-lt-WORK_AT.result in
    let small : c.args.stored < 256 = omega arith in
    let low : c.args.at - PASSED_AT < 4 = omega (arith, c.if-at-lt-WORK_AT.true) in
    let place : PASSED_AT + (c.args.at - PASSED_AT) ≡ c.args.at = omega (arith, c.if-at-lt-PASSED_AT.false) in
    stored_set p (record { offset = p.offset; progress = p.progress; last = p.last; passed = n; cells = p.cells; blocks = p.blocks }) c.args.at c.args.stored small
    (passed_set p n (c.args.at - PASSED_AT) (255 - c.args.stored) low c.with_byte-self-inside-then-at-lt-WORK_AT.ensures
    ∙ ap (λ (k : ℕ). slice_set (plain_bytes p) k (255 - c.args.stored)) place)
    ∙ ap (λ (q : Plain). slice_set (laid_out q) c.args.at c.args.stored) c.self-then-at-lt-WORK_AT.view_is
