use Rattle.std.proofs.Common.{refl, sym, subst, arith}
use Rattle.ps_lsp_text.specs.Outlining.{AreOutlined}
use Rattle.ps_lsp_text.specs.Outlining.AreOutlined.{nothing}
use Rattle.ps_lsp_text.proofs.listing.symbols_in.Goals as goal

pub loop-at-init : goal.loop-at-init
loop-at-init c = record {
  within = refl;
  spot = record { ordered = omega arith; units_are = refl };
  outlined = λ whole. subst (AreOutlined c.args.text.now c.args.tokens.now 0) (sym c.new-list.ensures) nothing;
}
