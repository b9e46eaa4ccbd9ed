use Rattle.std.proofs.Common.{◌≡◌, ◌∙◌, ℕ, ap, arith, min}
use Rattle.std.specs.List.{slice_range}
use Rattle.ps_text.specs.Columns.{last_column, units}
use Rattle.ps_lsp_text.proofs.Spotted.{units_add}
use Rattle.ps_lsp_text.proofs.listing.units_before.Goals as goal

pub returns-then-last-from : goal.returns-then-last-from
returns-then-last-from c =
    let text = c.args.text.now in
    let last = c.args.last in
    let same : last.begin ≡ c.args.begin = let e = c.if-last-begin.true in omega arith in
    let sum = units_add text last.begin last.«from» c.args.«from» c.requires.ordered (let e = c.if-last-from.true in omega arith) in
    let all : c.saturating_add.result ≡ min (units (slice_range text last.begin c.args.«from»)) last_column =
    omega (arith, c.saturating_add.ensures, c.units_between.ensures, c.requires.units_are, sum) in
    all ∙ ap (λ (b : ℕ). min (units (slice_range text b c.args.«from»)) last_column) same
