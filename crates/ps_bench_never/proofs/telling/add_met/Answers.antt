use Rattle.std.proofs.Common.{◌<◌, ◌∙◌, [], Bool, List, map, length, sym, ap, subst, arith}
use Rattle.std.specs.Prelude.{slice_index_or}
use Rattle.ps_reach.specs.Asking.{at_first}
use Rattle.ps_reach.specs.Tracing.{inputs_in}
use Rattle.ps_reach.specs.declared.tracing.ScanInputs.{ScanInputs}
use Rattle.ps_bench_never.proofs.Joining.{few_inputs}
use Rattle.ps_bench_never.proofs.telling.add_met.Goals as goal

pub add_case-requires : goal.add_case-requires
add_case-requires c = λ i.
    let net = c.args.asking.now.app.now in
    let q = c.args.asking.now.asked.now in
    let few : length q.inputs.items < 65536 = omega (arith, c.requires, c.sound.ensures.few_inputs) in
    subst (λ (scans : List (List Bool)). length (slice_index_or scans i []) < 65536)
    (sym (ap (λ (scans : List ScanInputs). map inputs_in scans) c.as_slice-2.ensures.value ∙ c.in_ok-scans.ensures))
    (few_inputs net q 65535 few (at_first net) c.args.path.now.inputs.items i)
