use Rattle.std.proofs.Common.{length, ap, ◌∙◌, arith}
use Rattle.std.specs.Prelude.{slice_index}
use Rattle.std.proofs.lemmas.List.{get_or_read}
use Rattle.ps_model.specs.Named.{pin_owners}
use Rattle.ps_model.proofs.Counting.{length-pin_types}
use Rattle.ps_model.proofs.Owners.{length-owners}
use Rattle.ps_model.proofs.named.Instances.owner.Goals as goal

pub index-requires : goal.index-requires
index-requires c =
    omega (arith, ap length c.self.invariant.owners_are, ap (λ xs. length (pin_owners xs)) c.self.view_is, length-owners 0 c.args.self.now, length-pin_types c.args.self.now)

pub returns : goal.returns
returns c =
    let owners = c.self.inside.owners.items in
    get_or_read owners c.args.n c.index.result.now
    (omega (arith, ap length c.self.invariant.owners_are, ap (λ xs. length (pin_owners xs)) c.self.view_is, length-owners 0 c.args.self.now, length-pin_types c.args.self.now))
    c.index.ensures 0
    ∙ ap (λ os. slice_index os c.args.n) c.self.invariant.owners_are
    ∙ ap (λ xs. slice_index (pin_owners xs) c.args.n) c.self.view_is
