use Rattle.std.proofs.Common.{◌≡◌, ◌∙◌, ◌+◌, ◌<◌, ◌++◌, ◌∷◌, [], Contains, List, ap, subst, sym, inl, inr, refl, arith, length}
use Rattle.std.proofs.lemmas.Bool.{cases_lt}
use Rattle.std.proofs.lemmas.List.Elements.{Contains-append_left, Contains-push}
use Rattle.ps_model.specs.Blocks.{block}
use Rattle.ps_model.specs.Network.{first_pin, kind_at}
use Rattle.ps_model.specs.declared.kind.Kind.{Kind}
use Rattle.ps_why.specs.declared.fact.Fact.{Fact}
use Rattle.ps_why.proofs.Guarding.{adds_none}
use Rattle.ps_why.specs.Questions.{IsSafeValue, value_of}
use Rattle.ps_why.proofs.Adding.{adds_push}
use Rattle.ps_why.proofs.questions.tell_outputs.Goals as goal

pub loop-j-init : goal.loop-j-init
loop-j-init c = record {
  told = λ j below. absurd (omega (arith, below));
  adds = adds_none (IsSafeValue c.args.app.now c.args.scene.now c.args.i) c.args.facts.now.items;
}

pub output_signal-requires-clause-output : goal.output_signal-requires-clause-output
output_signal-requires-clause-output c =
    subst (λ (kind : Kind). c.loop-j.j < length (block kind).outputs) c.instance_kind.ensures
    (omega (arith, c.loop-j-test.true, c.loop-j.auto.j-end, c.safe_count-count.ensures.count))

pub loop-j-preserved : goal.loop-j-preserved
loop-j-preserved c =
    let x = c.args.scene.now in
    let at = first_pin c.args.app.now c.args.i in
    let j = c.loop-j.j in
    let old = c.loop-j.facts.items in
    let after = c.push.new.self.items in
    let fact : Fact = c.value_fact.result in
    let is : fact ≡ value_of x (at + j) = c.value_fact.ensures ∙ ap (value_of x) c.output_signal.ensures in
    let pushed : after ≡ old ++ value_of x (at + j) ∷ [] = c.in_ok-push.ensures.items ∙ ap (λ (f : Fact). old ++ f ∷ []) is in
    let within : j < length (block (kind_at c.args.app.now c.args.i)).outputs =
    subst (λ (kind : Kind). j < length (block kind).outputs) c.instance_kind.ensures
    (omega (arith, c.loop-j-test.true, c.loop-j.auto.j-end, c.safe_count-count.ensures.count)) in
    record {
      told = λ n below. elim (cases_lt n j) [
        | inl earlier ↦
            subst (λ (fs : List Fact). Contains fs (value_of x (at + n))) (sym pushed)
            (Contains-append_left old (value_of x (at + j) ∷ []) (value_of x (at + n)) (c.loop-j.invariant.told n earlier))
        | inr last ↦
            let same : j ≡ n = omega (arith, below, last) in
            subst (λ m. Contains after (value_of x (at + m))) same
            (subst (λ (fs : List Fact). Contains fs (value_of x (at + j))) (sym pushed) (Contains-push old (value_of x (at + j))))
      ];
      adds = adds_push (IsSafeValue c.args.app.now x c.args.i) c.args.facts.now.items old after (value_of x (at + j))
          c.loop-j.invariant.adds (j, within, refl) pushed;
    }

pub returns-clause-told : goal.returns-clause-told
returns-clause-told c = λ j below.
    c.loop-j.invariant.told j
    (omega (
      arith,
      c.loop-j-test.false,
      c.loop-j.auto.j-end,
      c.safe_count-count.ensures.count,
      subst (λ (kind : Kind). j < length (block kind).outputs) (sym c.instance_kind.ensures) below,
    ))

pub returns-clause-adds : goal.returns-clause-adds
returns-clause-adds c = c.loop-j.invariant.adds
