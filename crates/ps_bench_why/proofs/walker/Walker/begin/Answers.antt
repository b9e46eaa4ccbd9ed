use Rattle.std.proofs.Common.{◌∙◌, List, sym, subst}
use Rattle.std.proofs.lemmas.List.{with_items_is}
use Rattle.ps_model.specs.Meaning.{Past, old_state}
use Rattle.ps_why.specs.Keeping.{AreKept, StandFor}
use Rattle.ps_why.specs.declared.keeping.Stepped.{Stepped}
use Rattle.ps_runs.specs.Watching.{StandsAt}
use Rattle.ps_bench_why.proofs.Taking.{goes_on, is_first, renewed_are, renewed_stand}
use Rattle.ps_bench_why.proofs.walker.Walker.begin.Goals as goal

pub returns-in-None-clause-fits : goal.returns-in-None-clause-fits
returns-in-None-clause-fits c =
    let net = c.args.app.now in
    let kept_is = with_items_is c.args.self.now.kept c.renew.new.kept (c.renew.ensures.len ∙ c.as_mut_slice.ensures.len) in
    record {
      evaluator = c.perform_restart.ensures.fits;
      kept = subst (λ (ks : List Stepped). AreKept net ks) (sym kept_is)
          (renewed_are net c.as_mut_slice.result.now c.renew.new.kept c.renew.ensures.anew c.renew.ensures.len
          (subst (λ (ks : List Stepped). AreKept net ks) (sym c.as_mut_slice.ensures.value) c.requires.kept));
      since = c.requires.since;
      inputs = c.requires.inputs;
      outputs = c.requires.outputs;
      diagnoses = c.requires.diagnoses;
    }

pub returns-in-None-clause-stands : goal.returns-in-None-clause-stands
returns-in-None-clause-stands c = λ past stands.
    is_first c.args.app.now past c.args.self.now c.in-None.is stands (λ (p : Past). StandsAt c.args.app.now p c.perform_restart.new.self)
    c.perform_restart.ensures.performs.1

pub returns-in-None-clause-kept : goal.returns-in-None-clause-kept
returns-in-None-clause-kept c = λ past stands.
    let net = c.args.app.now in
    let kept_is = with_items_is c.args.self.now.kept c.renew.new.kept (c.renew.ensures.len ∙ c.as_mut_slice.ensures.len) in
    subst (λ (ks : List Stepped). StandFor net (old_state net past) ks) (sym kept_is)
    (is_first net past c.args.self.now c.in-None.is stands (λ (p : Past). StandFor net (old_state net p) c.renew.new.kept)
    (renewed_stand net c.as_mut_slice.result.now c.renew.new.kept c.renew.ensures.anew))

pub returns-in-Some-clause-stands : goal.returns-in-Some-clause-stands
returns-in-Some-clause-stands c = λ past stands. (goes_on c.args.app.now past c.args.self.now _ c.in-Some.is stands).0

pub returns-in-Some-clause-kept : goal.returns-in-Some-clause-kept
returns-in-Some-clause-kept c = λ past stands. (goes_on c.args.app.now past c.args.self.now _ c.in-Some.is stands).1
