use Rattle.std.proofs.Common.{sym, ◌∙◌, subst, arith}
use Rattle.std.proofs.lemmas.Bool.{false≢true}
use Rattle.ps_parser.specs.declared.heads.Heads.TheVariants.{Program, Block}
use Rattle.ps_parser.proofs.Public.{token_place}
use Rattle.ps_derived.proofs.Reading.{IsReadUpto, nothing_read, one_block_more, fewer_tokens_left, more_refused, all_spelt, exit}
use Rattle.ps_derived.proofs.read_library.parse_library.Goals as goal

pub each-init : goal.each-init
each-init c = subst (λ bs. IsReadUpto c.args.tokens.now.list bs 0) (sym c.new-blocks.ensures) (nothing_read c.args.tokens.now.list)

pub each-smaller : goal.each-smaller
each-smaller c = fewer_tokens_left c.args.tokens.now.list c.each.at c.in_ok-block.next c.in_ok-block.block c.in_ok-block.ensures

pub each-preserved : goal.each-preserved
each-preserved c =
    subst (λ bs. IsReadUpto c.args.tokens.now.list bs c.in_ok-block.next) (sym c.in_ok-push.ensures)
    (one_block_more c.args.tokens.now.list c.each.blocks c.each.at c.in_ok-block.next c.in_ok-block.block c.each.invariant c.in_ok-block.ensures)

pub returns-in_err-block : goal.returns-in_err-block
returns-in_err-block c = record {
  parses = exit Block c.args.tokens.now c.each.blocks c.each.at c.each.invariant (c.is_head_at.ensures.0 c.each-test.true) _ _ c.from_residual.ensures.1 c.in_err-block.ensures;
}

pub returns-in_err-program : goal.returns-in_err-program
returns-in_err-program c = record {
  parses =
      exit Program c.args.tokens.now c.each.blocks c.each.at c.each.invariant (λ e. false≢true (sym c.each-test.false ∙ c.is_head_at.ensures.1 e)) _ _ c.from_residual-in_err-program.ensures.1 c.in_err-program.ensures;
}

pub returns-then-next-len : goal.returns-then-next-len
returns-then-next-len c = record {
  parses =
      more_refused c.args.tokens.now.list c.each.blocks c.each.at c.in_ok-program.next c.in_ok-program.program c.each.invariant c.in_ok-program.ensures c.args.tokens.now.end c.at.result.now.place
      (omega (arith, c.if-next-len.true, c.len.ensures)) (token_place c.args.tokens.now.list c.in_ok-program.next c.at.result.now c.args.tokens.now.end c.at.ensures.item);
}

pub returns : goal.returns
returns c = record {
  parses = all_spelt c.args.tokens.now.list c.each.blocks c.each.at c.in_ok-program.next c.in_ok-program.program c.each.invariant c.in_ok-program.ensures (omega (arith, c.if-next-len.false, c.len.ensures));
}
