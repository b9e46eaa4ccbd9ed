use Rattle.std.proofs.Common.{◌≡◌, ◌<◌, ◌+◌, ◌++◌, ℕ, List, length, take, drop, get_or, ap, sym, ◌∙◌, arith}
use Rattle.std.proofs.lemmas.List.Sums.{sum_by-drop_more}
use Rattle.std.proofs.lemmas.Option.{get_or_from_slice_get}
use Rattle.ps_model.specs.declared.named.Instance.{Instance}
use Rattle.ps_model.specs.declared.report.Diag.{Diag}
use Rattle.ps_model.specs.Blank.{no_diag}
use Rattle.ps_model.specs.Network.{no_instance}
use Rattle.ps_report.specs.Lines.{named_diag, instance_texts}
use Rattle.ps_report.proofs.Fields.{instance_texts-drop, field_written}
use Rattle.ps_report.proofs.buffer.put_instances.Goals as goal

pub loop-i-preserved : goal.loop-i-preserved
loop-i-preserved c =
    let instances : List Instance = c.args.app.now.instances in
    let diags : List Diag = c.args.diags.now in
    let i : ℕ = c.loop-i.i in
    let inside : i < length instances = omega arith in
    let within : i < length diags = omega arith in
    let rest : List ℕ = instance_texts (drop (i + 1) instances) (drop (i + 1) diags) in
    let name : c.instance_name.result.now ≡ (get_or instances i no_instance).name = c.instance_name.ensures in
    let value : get_or diags i no_diag ≡ c.at.result = get_or_from_slice_get diags i c.at.result no_diag c.at.ensures in
    let left : instance_texts (drop i instances) (drop i diags) ≡ named_diag c.instance_name.result.now c.at.result ++ rest =
    instance_texts-drop instances diags i inside within
    ∙ ap (λ (n : List ℕ). named_diag n (get_or diags i no_diag) ++ rest) (sym name)
    ∙ ap (λ (d : Diag). named_diag c.instance_name.result.now d ++ rest) value in
    record {
      bytes = field_written (take c.loop-i.end c.loop-i.line) (take c.put_named_diag-end.result c.put_named_diag-end.new.line) (named_diag c.instance_name.result.now c.at.result) rest
          (instance_texts (drop i instances) (drop i diags)) c.put_named_diag-end.ensures.bytes left ∙ c.loop-i.invariant.bytes;
      end = omega (arith, sum_by-drop_more (λ (x : Instance). length x.name + 10) instances i no_instance inside, ap length name, c.put_named_diag-end.ensures.end, c.loop-i.invariant.end);
      len = c.put_named_diag-end.ensures.len ∙ c.loop-i.invariant.len;
    }
