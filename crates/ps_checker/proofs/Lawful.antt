-- Laws of the checker.
use Rattle.std.proofs.Common.{◌≡◌, ℕ, ◌+◌, List, sym, ap, ◌∙◌, arith}
use Rattle.std.proofs.lemmas.Bool.{false≢true}
use Rattle.std.proofs.lemmas.Option.{slice_get_within}
use Rattle.ps_model.specs.Network.{Network}
use Rattle.ps_model.specs.Nodes.{app_nodes}
use Rattle.ps_model.specs.Typing.{Accepted}
use Rattle.ps_model.proofs.SafeValues.{value_holds}
use Rattle.ps_flow.specs.declared.certificate.CertLine.{CertLine}
use Rattle.ps_flow.proofs.Walk.{found_same}
use Rattle.ps_base.specs.declared.failing.Rule.{Rule}
use Rattle.ps_base.specs.declared.failing.Rule.TheVariants.{O1, O2, O3, O4, O5}
use Rattle.ps_checker.specs.Derives.{Derives, fits}
use Rattle.ps_checker.specs.Objections.{Objects}
use Rattle.ps_checker.specs.Lawful.{KeepsSkeletons}

pub keeps_skeletons : (net : Network) → Accepted net → KeepsSkeletons net
keeps_skeletons net accepted old ins dt new solves k t e at holds_safe y =
    value_holds net accepted old ins dt new solves k e (let h = slice_get_within net.steps k _ at in omega arith) (accepted.assigned k t e at holds_safe) (sym (solves.assigned k t e at) ∙ y)

-- what is objected to does not derive
pub not_derived : (net : Network) (lines : List CertLine) (n : ℕ) (rule : Rule) → Objects net lines n rule → Derives net lines → ⊥
not_derived net lines n O1 o d =
    let l = d.each o.0 o.1 o.4 in
    let h = slice_get_within (app_nodes net) o.1.node l.node l.exists in
    let past = o.5 in
    absurd (omega arith)
not_derived net lines n O2 o d = let l = d.each o.0 o.1 o.4 in false≢true (sym o.5.1 ∙ l.earlier)
not_derived net lines n O3 o d =
    let l = d.each o.0 o.1 o.4 in
    let same : o.5.1.0 ≡ l.node = found_same (app_nodes net) o.1.node o.5.1.0 l.node o.5.1.1 l.exists in
    false≢true (sym o.5.1.2 ∙ ap (fits net lines o.1.rule o.1.premises (o.1.node + 1)) same ∙ l.rule)
not_derived net lines n O4 o d = false≢true (sym o.3 ∙ d.covered)
not_derived net lines n O5 o d = let m = o.2 in false≢true (sym m.6 ∙ d.literals m.0 m.1 m.2 m.3 m.4 m.5)
not_derived net lines n _ o d = absurd o.5
