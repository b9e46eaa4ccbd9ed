use Rattle.std.proofs.Common.{[], ◌∷◌, sym, subst, rules}
use Rattle.std.specs.Prelude.{All}
use Rattle.std.proofs.lemmas.List.Elements.{All-append, All-cons, All-nil}
use Rattle.ps_flow.specs.Lines.{IsNumbered}
use Rattle.ps_flow.proofs.certificate.Certificate.push.Goals as goal

pub invariant_of-self-2 : goal.invariant_of-self-2
invariant_of-self-2 c = record {
  few = search rules;
  numbered = subst (All IsNumbered) (sym (c.in_ok-push.ensures.items))
      (All-append IsNumbered c.self.inside.lines.items (c.args.line ∷ []) c.self.invariant.numbered
      (All-cons IsNumbered c.args.line [] c.kept.ensures (All-nil IsNumbered)));
}
