use Rattle.std.proofs.Common.{[], ◌∷◌}
use Rattle.ps_model.specs.Network.{Network}
use Rattle.ps_accepted.specs.Source.{IsResolvedAs}
use Rattle.ps_top.specs.Program.{leaves_text, verify_named}
use Rattle.ps_top.proofs.Applied.{found_answers, none_answers}
use Rattle.ps_top.proofs.verifying.verify.Goals as goal

pub returns-in-Ok-clause-answers : goal.returns-in-Ok-clause-answers
returns-in-Ok-clause-answers g c =
    let net : Network = c.in-Ok.app in
    found_answers c.args.app.now leaves_text IsResolvedAs (λ n. verify_named n c.args.cert.now) (c.args.cert.now ∷ []) net
    c.in-Ok.ensures.finds.passes c.in-Ok.ensures.finds.gives c.verify_named.ensures.answers

pub returns-in-Err-clause-answers : goal.returns-in-Err-clause-answers
returns-in-Err-clause-answers g c =
    none_answers c.args.app.now leaves_text IsResolvedAs (λ source n. verify_named n c.args.cert.now) (c.args.cert.now ∷ []) c.in-Err.ensures.none
