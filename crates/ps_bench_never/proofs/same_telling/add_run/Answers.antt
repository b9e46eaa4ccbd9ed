use Rattle.std.proofs.Common.{◌≡◌, ◌<◌, ◌∙◌, ◌++◌, [], Bool, List, OnOk, map, length, sym, ap, subst, arith}
use Rattle.std.specs.Prelude.{slice_index_or}
use Rattle.ps_reach.specs.Asking.{at_first}
use Rattle.ps_reach.specs.Tracing.{inputs_in}
use Rattle.ps_reach.specs.declared.tracing.ScanInputs.{ScanInputs}
use Rattle.ps_bench_never.proofs.Joining.{few_inputs}
use Rattle.ps_bench_never.specs.SameTelling.{named_case}
use Rattle.ps_bench_never.proofs.same_telling.add_run.Goals as goal

pub add_named-requires : goal.add_named-requires
add_named-requires c = record {
  place = c.requires.place;
  few = λ i.
      let net = c.args.app.now in
      let q = c.args.asked.now in
      let few : length q.inputs.items < 65536 = omega (arith, c.requires.says, c.sound.ensures.few_inputs) in
      subst (λ (scans : List (List Bool)). length (slice_index_or scans i []) < 65536)
      (sym (ap (λ (scans : List ScanInputs). map inputs_in scans) c.as_slice.ensures.value ∙ c.in_ok-scans.ensures))
      (few_inputs net q 65535 few (at_first net) c.args.path.now.inputs.items i);
}

pub returns : goal.returns
returns c =
    subst (λ (scans : List (List Bool)). OnOk c.add_named.result (c.add_named.new.text
    ≡ c.args.text.now ++ named_case c.args.app.now c.args.asked.now.every scans c.args.place))
    (ap (λ (scans : List ScanInputs). map inputs_in scans) c.as_slice.ensures.value ∙ c.in_ok-scans.ensures) c.add_named.ensures
