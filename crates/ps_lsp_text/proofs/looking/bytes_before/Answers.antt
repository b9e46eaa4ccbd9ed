use Rattle.std.proofs.Common.{◌≡◌, ℕ, ◌+◌, ◌-◌, ◌≤◌, subst, get_or, ap, sym, ◌∙◌, arith, eq-eqb, ne_eqb}
use Rattle.ps_base.specs.declared.failing.Place.{Place}
use Rattle.ps_lsp_text.proofs.PlacesBefore.{IsOnTheWay, line_of, column_of, way_begins, way_feed, way_stays, way_bound, way_ends}
use Rattle.ps_lsp_text.proofs.looking.bytes_before.Goals as goal
use Rattle.ps_lsp_text.proofs.looking.bytes_before.Goals.{then-text-i-eq10, else-text-i-eq10}

pub loop-i-init : goal.loop-i-init
loop-i-init c = λ at inside is. way_begins c.args.text.now at

pub loop-i-preserved : goal.loop-i-preserved
loop-i-preserved c = λ at inside is.
    let text = c.args.text.now in
    let i = c.loop-i.i in
    let line = c.loop-i.line in
    let way = c.loop-i.invariant at inside is in
    let of : line_of text at ≡ c.args.place.line = ap (λ (p : Place). p.line) is in
    let bound : line ≤ line_of text at = way_bound text i at (omega arith) inside line way in
    elim c.if-text-i-eq10.branch [
      | then-text-i-eq10 w ↦
          way_feed text i at (omega arith) inside line c.if-text-i-eq10.line way (λ e. c.if-line-place.false (e ∙ of))
          (eq-eqb (get_or text i 0) 10 w.if-text-i-eq10.true) (omega (arith, w.saturating_add-line.ensures))
      | else-text-i-eq10 w ↦
          subst (λ (l : ℕ). IsOnTheWay text (i + 1) l at) (sym w.line-is)
          (way_stays text i at (omega arith) inside line way (λ e. c.if-line-place.false (e ∙ of)) (ne_eqb (get_or text i 0) 10 w.if-text-i-eq10.false))
    ]

pub returns-then-line-place-clause-place : goal.returns-then-line-place-clause-place
returns-then-line-place-clause-place c = λ at inside is.
    let text = c.args.text.now in
    let way = c.loop-i.invariant at inside is in
    let line : line_of text at ≡ c.args.place.line = ap (λ (p : Place). p.line) is in
    let column : column_of text at ≡ c.args.place.column = ap (λ (p : Place). p.column) is in
    let on : c.loop-i.i + (column_of text at - 1) ≡ at = way_ends text c.loop-i.i c.loop-i.line at inside way (c.if-line-place.true ∙ sym line) in
    omega arith
