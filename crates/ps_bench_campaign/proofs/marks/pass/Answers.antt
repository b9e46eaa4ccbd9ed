use Rattle.std.proofs.Common.{◌∙◌, ◌≤◌, [], ◌∷◌, ap, arith, subst, sym}
use Rattle.ps_bench_campaign.specs.Courses.{AreStepsFor, latest_in}
use Rattle.ps_bench_trials.specs.declared.step.Step.{Step}
use Rattle.ps_bench_campaign.specs.Marks.{passed, scans_of}
use Rattle.ps_world.specs.Whole.{Whole}
use Rattle.ps_bench_campaign.proofs.marks.pass.Goals as goal

pub restart-requires : goal.restart-requires
restart-requires c = c.requires.rest

pub make_scan-released-requires : goal.make_scan-released-requires
make_scan-released-requires c =
    let fits = subst (λ (x : Step). AreStepsFor c.args.app.now c.args.world.now.state.last (x ∷ [])) c.in-Scanned.is c.requires.fits in
    record {
      rest = c.requires.rest;
      later = fits.0;
      inputs = fits.1 ∙ sym c.requires.setup.sizes.inputs;
      outs = c.requires.outputs ∙ sym c.requires.setup.sizes.outputs;
      diags = c.requires.diagnoses ∙ sym c.requires.setup.sizes.instances;
    }

pub returns-in-Scanned : goal.returns-in-Scanned
returns-in-Scanned c = record {
  passes = c.make_scan-released.ensures.events ∙ ap (λ (x : Step). passed x c.args.world.now) (sym c.in-Scanned.is);
  count = ap scans_of (sym c.in-Scanned.is);
  rest = c.make_scan-released.ensures.rest;
  last =
      subst (λ (x : Step). c.make_scan-released.new.self.state.last ≤ latest_in c.args.world.now.state.last (x ∷ [])) (sym c.in-Scanned.is)
      c.make_scan-released.ensures.last;
  outputs = c.make_scan-released.ensures.sized.0 ∙ c.requires.outputs;
  diagnoses = c.make_scan-released.ensures.sized.1 ∙ c.requires.diagnoses;
}

pub returns-in-Anew : goal.returns-in-Anew
returns-in-Anew c = record {
  passes = c.restart.ensures ∙ ap (λ (x : Step). passed x c.args.world.now) (sym c.in-Anew.is);
  count = ap scans_of (sym c.in-Anew.is);
  rest = ap (λ (w : Whole). w.state.begun) c.restart.ensures;
  last =
      subst (λ (x : Step). c.restart.new.self.state.last ≤ latest_in c.args.world.now.state.last (x ∷ [])) (sym c.in-Anew.is)
      (let last = ap (λ (w : Whole). w.state.last) c.restart.ensures in omega (arith, last));
  outputs = c.requires.outputs;
  diagnoses = c.requires.diagnoses;
}
