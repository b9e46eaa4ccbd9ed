use Rattle.std.proofs.Common.{◌+◌, ◌<◌, ◌∙◌, length, refl, sym, ap, subst, arith}
use Rattle.std.proofs.lemmas.Option.{slice_get_read}
use Rattle.ps_lsp_text.specs.Outlining.{AreOutlined}
use Rattle.ps_lsp_text.specs.Outlining.AreOutlined.{full, inside, outside}
use Rattle.ps_lsp_text.specs.declared.listing.TheConstants.{MOST_SYMBOLS}
use Rattle.ps_lsp_text.proofs.listing.outline.Goals as goal
use Rattle.ps_lsp_text.proofs.listing.outline.Goals.{then-not-within-via-then-not-within, then-not-within-via-else-not-within+then-as_slice-ge-MOST_SYMBOLS}

pub returns-then-not-within-clause-adds : goal.returns-then-not-within-clause-adds
returns-then-not-within-clause-adds c = λ whole. (
  whole,
  λ within list. elim c.then-not-within.branch [
    | then-not-within-via-then-not-within w ↦ outside list (sym within ∙ w.if-not-within.true)
    | then-not-within-via-else-not-within+then-as_slice-ge-MOST_SYMBOLS w ↦
        full list (let same = ap length w.as_slice.ensures in let many = w.if-as_slice-ge-MOST_SYMBOLS.true in omega arith)
  ],
)

pub returns-clause-adds : goal.returns-clause-adds
returns-clause-adds c =
    let text = c.args.text.now in
    let tokens = c.args.tokens.now in
    let token = c.index-tokens-at.result in
    let there = slice_get_read tokens (length tokens) c.args.at token refl c.requires.inside c.index-tokens-at.is in
    let added = c.add_symbol.ensures text token there (c.range_of.ensures text c.spot_of-spot.ensures.at) in
    λ whole.
    let step = added.2 whole in
    let few : length c.args.list.now.list.items < MOST_SYMBOLS = let same = ap length c.as_slice.ensures in let short = c.if-as_slice-ge-MOST_SYMBOLS.false in omega arith in (
      step.0,
      λ within list. subst (AreOutlined text tokens (c.args.at + 1)) (sym step.1)
          (inside list (sym within ∙ c.if-not-within.false) few added.1),
    )
