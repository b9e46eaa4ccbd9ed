use Rattle.std.proofs.Common.{refl}
use Rattle.std.proofs.lemmas.Bool.{false≢true}
use Rattle.ps_parser.proofs.Answering.{sign_is_next, sign_is_not_next}
use Rattle.ps_parser.proofs.read_source.is_head_at.Goals as goal

pub returns-in-Some : goal.returns-in-Some
returns-in-Some c = (λ _. sign_is_next c.as_slice-all.result.now c.args.tokens.now.list c.args.at _ _ _ c.as_slice-all.ensures.items c.head.ensures c.in-Some.ensures.found, λ _. refl)

pub returns-in-None : goal.returns-in-None
returns-in-None c = (λ w. absurd (false≢true w), λ e. absurd (sign_is_not_next c.as_slice-all.result.now c.args.tokens.now.list c.args.at _ _ c.as_slice-all.ensures.items c.head.ensures c.in-None.ensures.none e))
