use Rattle.std.proofs.Common.{sym, ap, ◌∙◌, arith}
use Rattle.ps_derived.specs.Bodies.{same}
use Rattle.ps_derived.specs.Interfaces.{interface_named}
use Rattle.ps_derived.proofs.Lookups.{found_none, found_at}
use Rattle.ps_derived.proofs.interface.Interfaces.named.Goals as goal

pub returns-in-None : goal.returns-in-None
returns-in-None c =
    let n = c.args.name.now in
    found_none (λ b. same n b.name) c.self.inside.items.items (sym c.in-None.is ∙ c.in_ok-place_of.ensures ∙ c.self.invariant n.text) ∙ ap (λ b. interface_named b n) c.self.view_is

pub returns-then-k-len : goal.returns-then-k-len
returns-then-k-len c =
    let n = c.args.name.now in
    found_at (λ b. same n b.name) c.self.inside.items.items c.in-Some.k c.index.result.now (sym c.in-Some.is ∙ c.in_ok-place_of.ensures ∙ c.self.invariant n.text) (omega (arith, c.if-k-len.true, c.len.ensures, c.self.inside.items.ok)) c.index.ensures
    ∙ ap (λ b. interface_named b n) c.self.view_is
