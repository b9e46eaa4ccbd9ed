use Rattle.std.proofs.Common.{subst}
use Rattle.ps_lexer.specs.Scanning.{IsPieceAt}
use Rattle.ps_lexer.proofs.Pieces.{advances_blank, advances_comment, advances_token}
use Rattle.ps_lexer.proofs.scanner.take_piece.Goals as goal

pub returns-in-Blank-clause-ok : goal.returns-in-Blank-clause-ok
returns-in-Blank-clause-ok c =
    advances_blank c.args.text.now c.args.i _ c.requires.room (subst (IsPieceAt c.args.text.now c.args.i) c.in-Blank.is c.in_ok-piece_at.ensures)

pub returns-in-Comment-clause-ok : goal.returns-in-Comment-clause-ok
returns-in-Comment-clause-ok c =
    advances_comment c.args.text.now c.args.i _ _ (subst (IsPieceAt c.args.text.now c.args.i) c.in-Comment.is c.in_ok-piece_at.ensures)

pub returns-in_ok-push-in-Token-clause-ok : goal.returns-in_ok-push-in-Token-clause-ok
returns-in_ok-push-in-Token-clause-ok c =
    advances_token c.args.text.now c.args.i _ _ _ _ _ c.requires.stands (subst (IsPieceAt c.args.text.now c.args.i) c.in-Token.is c.in_ok-piece_at.ensures) c.in_ok-push-in-Token.ensures.ok
