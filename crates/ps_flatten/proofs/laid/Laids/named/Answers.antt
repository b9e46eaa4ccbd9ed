use Rattle.std.proofs.Common.{[], Some, None, sym, ap, subst, ◌∙◌, arith}
use Rattle.ps_flatten.specs.Laying.{KnowInputs}
use Rattle.ps_flatten.proofs.Seen.{at_place, knows_at, named_found, seen_at}
use Rattle.ps_flatten.proofs.laid.Laids.named.Goals as goal

pub returns-in-None-clause-block : goal.returns-in-None-clause-block
returns-in-None-clause-block c =
    let n = c.args.name.now in
    sym (named_found n c.self.inside.items.items c.args.self.now None c.self.view_is (sym c.in-None.is ∙ c.in_ok-place_of.ensures ∙ c.self.invariant.0 n.text))

pub returns-then-place-len-clause-kept : goal.returns-then-place-len-clause-kept
returns-then-place-len-clause-kept c =
    let ls = c.args.self.now in
    let l = c.index.result.now in
    let there = at_place c.self.inside.items.items ls c.in-Some.place l c.self.view_is (omega (arith, c.if-place-len.true, c.len.ensures, c.self.inside.items.ok)) c.index.ensures in
    record {
      there = seen_at [] ls c.in-Some.place l there;
      inputs = knows_at ls c.in-Some.place l (subst KnowInputs c.self.view_is c.self.invariant.1) there;
    }

pub returns-then-place-len-clause-block : goal.returns-then-place-len-clause-block
returns-then-place-len-clause-block c =
    let n = c.args.name.now in
    let ls = c.args.self.now in
    let l = c.index.result.now in
    let k = c.in-Some.place in
    let there = at_place c.self.inside.items.items ls k l c.self.view_is (omega (arith, c.if-place-len.true, c.len.ensures, c.self.inside.items.ok)) c.index.ensures in
    sym (seen_at [] ls k l there) ∙ sym (named_found n c.self.inside.items.items ls (Some k) c.self.view_is (sym c.in-Some.is ∙ c.in_ok-place_of.ensures ∙ c.self.invariant.0 n.text))
