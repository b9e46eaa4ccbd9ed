use Rattle.std.proofs.Common.{◌≡◌, ◌∙◌, Bool, List, false, length, replicate, sym, ap, subst, arith}
use Rattle.std.proofs.lemmas.List.{length-replicate}
use Rattle.ps_model.specs.declared.channel.Verdict.TheVariants.{Released}
use Rattle.ps_model.specs.declared.report.Report.{Report}
use Rattle.ps_model.specs.declared.report.Scan.{Scan}
use Rattle.ps_model.specs.Blank.{no_diag}
use Rattle.ps_model.specs.Fields.{blank_report}
use Rattle.ps_model.specs.Network.{input_count, instance_count, signal_count}
use Rattle.ps_world.specs.Whole.{Whole}
use Rattle.ps_world.specs.Worlds.{World_state}
use Rattle.ps_runs.specs.Running.{IsBeginning}
use Rattle.ps_runs.specs.declared.striking.StruckWorld.{StruckWorld}
use Rattle.ps_bench_judge.proofs.rig.Rig.build.Goals as goal

pub new-requires : goal.new-requires
new-requires c = c.new-world.ensures.fits c.args.app.now c.in_ok-build.ensures

pub returns-clause-fits : goal.returns-clause-fits
returns-clause-fits c =
    let net = c.args.app.now in
    let last_is : c.in_ok-new.field-0.performer.world.state.last ≡ 0 =
    ap (λ (p : StruckWorld). p.world.state.last) c.in_ok-new.ensures.performer
    ∙ ap (λ (w : Whole). w.state.last) c.new-world.ensures.world
    ∙ ap (λ (x : World_state). x.last) c.in_ok-build.ensures.beginning in
    record {
      performer = c.in_ok-new.ensures.fits;
      due = omega (arith, last_is);
      inputs = ap (λ (s : Scan). length s.ins) c.in_ok-for_app.ensures ∙ length-replicate (input_count net) false;
      outputs = ap (λ (r : Report). length r.outs) c.in_ok-for_app-2.ensures ∙ length-replicate (length net.outputs) false;
      diagnoses = ap (λ (r : Report). length r.diags) c.in_ok-for_app-2.ensures ∙ length-replicate (instance_count net) no_diag;
      before = ap (λ (bits : List Bool). length bits) c.in_ok-false_signals.ensures ∙ length-replicate (signal_count net) false;
      signals = ap (λ (bits : List Bool). length bits) c.in_ok-false_signals-2.ensures ∙ length-replicate (signal_count net) false;
    }

pub returns-clause-first : goal.returns-clause-first
returns-clause-first c =
    let net = c.args.app.now in
    let scan_is : c.in_ok-for_app.field-0 ≡ record { now = 0; ins = replicate (input_count net) false } = c.in_ok-for_app.ensures in
    let report_is : c.in_ok-for_app-2.field-0 ≡ blank_report (length net.outputs) (instance_count net) = c.in_ok-for_app-2.ensures in
    let before_is : c.in_ok-false_signals.field-0.items ≡ replicate (signal_count net) false = c.in_ok-false_signals.ensures in
    let behind_is : c.in_ok-false_signals-2.field-0.items ≡ replicate (signal_count net) false = c.in_ok-false_signals-2.ensures in
    record {
      begins = subst (λ (p : StruckWorld). IsBeginning net p) (sym c.in_ok-new.ensures.performer) (c.new-world.ensures.begins net c.in_ok-build.ensures);
      faults_are = ap (λ (p : StruckWorld). p.faults) c.in_ok-new.ensures.performer ∙ c.new-world.ensures.faults;
      evaluator = c.in_ok-new.ensures.first;
      inputs = scan_is;
      seen = λ i. record { now = (scan_is i).now; verdict = Released; report = report_is i; before = before_is i; signals = behind_is i };
    }
