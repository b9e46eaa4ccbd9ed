use Rattle.std.proofs.Common.{sym, ap, ◌∙◌, arith}
use Rattle.ps_derived.specs.Bodies.{same, first_declared}
use Rattle.ps_derived.proofs.Lookups.{found_none, found_at}
use Rattle.ps_derived.proofs.scope.Scope.first.Goals as goal

pub returns-in-None : goal.returns-in-None
returns-in-None c =
    let n = c.args.name.now in
    let ds = c.self.inside.declared.items in
    found_none (λ d. same n d.name) ds (sym c.in-None.is ∙ c.in_ok-place_of.ensures ∙ c.self.invariant n.text) ∙ ap (λ d. first_declared d n) c.self.view_is

pub returns-then-k-len : goal.returns-then-k-len
returns-then-k-len c =
    let n = c.args.name.now in
    let ds = c.self.inside.declared.items in
    found_at (λ d. same n d.name) ds c.in-Some.k c.index.result.now (sym c.in-Some.is ∙ c.in_ok-place_of.ensures ∙ c.self.invariant n.text) (omega (arith, c.if-k-len.true, c.len.ensures, c.self.inside.declared.ok)) c.index.ensures
    ∙ ap (λ d. first_declared d n) c.self.view_is
