use Rattle.std.proofs.Common.{◌<◌, ◌≤◌, ◌+◌, ◌-◌, ◌++◌, ℕ, length, ap, ◌∙◌, arith}
use Rattle.std.specs.Prelude.{slice_set}
use Rattle.ps_eqvm.specs.declared.layout.TheConstants.{WORK_AT}
use Rattle.ps_eqvm.specs.Plain.{Plain, plain_bytes}
use Rattle.ps_eqvm.proofs.Poking.{set_behind, cell_set, block_set}
use Rattle.ps_eqvm.proofs.plain.PlainCells.poke_cell.Goals as goal

pub returns-then-at-cells-clause-poked : goal.returns-then-at-cells-clause-poked
returns-then-at-cells-clause-poked c =
    let i = c.self.inside in
    let p : Plain = record { offset = i.offset; progress = i.progress; last = i.last; passed = i.passed; cells = i.cells; blocks = i.blocks } in
    let low : c.args.at < length p.cells = omega (arith, c.if-at-cells.true, c.len-cells.ensures) in
    set_behind p (p.cells ++ p.blocks) (c.poke.new.self ++ p.blocks) c.args.at c.args.byte (ap (λ l. l ++ p.blocks) c.poke.ensures ∙ cell_set p.cells p.blocks c.args.at c.args.byte low)
    ∙ ap (λ (q : Plain). slice_set (plain_bytes q) (WORK_AT + c.args.at) c.args.byte) c.self.view_is

pub returns-else-at-cells-clause-poked : goal.returns-else-at-cells-clause-poked
returns-else-at-cells-clause-poked c =
    let i = c.self.inside in
    let p : Plain = record { offset = i.offset; progress = i.progress; last = i.last; passed = i.passed; cells = i.cells; blocks = i.blocks } in
    let high : length p.cells ≤ c.args.at = omega (arith, c.if-at-cells.false, c.len-cells.ensures) in
    set_behind p (p.cells ++ p.blocks) (p.cells ++ c.poke-else-at-cells.new.self) c.args.at c.args.byte
    (ap (λ l. p.cells ++ l) (c.poke-else-at-cells.ensures ∙ ap (λ (n : ℕ). slice_set p.blocks (c.args.at - n) c.args.byte) c.len-cells.ensures) ∙ block_set p.cells p.blocks c.args.at c.args.byte high)
    ∙ ap (λ (q : Plain). slice_set (plain_bytes q) (WORK_AT + c.args.at) c.args.byte) c.self.view_is
