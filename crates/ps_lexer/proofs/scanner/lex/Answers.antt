use Rattle.std.proofs.Common.{refl, arith, sym, subst, ap, length}
use Rattle.ps_lexer.specs.Reading.{Reads, nothing}
use Rattle.ps_lexer.proofs.Pieces.{read_advances, few_advance}
use Rattle.ps_lexer.proofs.scanner.lex.Goals as goal

pub scan-init : goal.scan-init
scan-init c = record {
  size = omega (arith, c.if-text.false);
  within = omega arith;
  few = omega (arith, ap length c.new-list.ensures);
  stands = refl;
  read = subst (λ ts. Reads c.args.text.now 0 ts 0) (sym c.new-list.ensures) nothing;
}

pub scan-preserved : goal.scan-preserved
scan-preserved c = record {
  size = c.scan.invariant.size;
  within = c.in_ok-j.ensures.ok.within;
  few = few_advance c.args.text.now _ _ _ _ c.scan.invariant.few c.in_ok-j.ensures.ok;
  stands = c.advance-place.ensures;
  read = read_advances c.args.text.now _ _ _ _ c.scan.invariant.read c.in_ok-j.ensures.ok;
}
