use Rattle.std.proofs.Common.{◌∙◌}
use Rattle.std.specs.Prelude.{codes}
use Rattle.ps_model.specs.Network.{instance_name}
use Rattle.ps_report.specs.Lines.{code_text}
use Rattle.ps_cover.proofs.Chains.{being, carry, chain7}
use Rattle.ps_bench_cover.proofs.ideas.add_head.Goals as goal

pub returns : goal.returns
returns c =
    carry c.extend_from_slice-5.result
    (λ last. chain7 c.args.text.now (codes "case ") (instance_name c.args.app.now c.args.instance) (codes " from ") (code_text c.args.way.now.state) (codes " to ")
    (code_text c.args.way.now.next) (codes "\n") c.in_ok-extend_from_slice.ensures
    (being _ c.as_bytes.result.now c.in_ok-extend_from_slice-2.ensures (c.as_bytes.ensures.value ∙ c.instance_name.ensures))
    c.in_ok-extend_from_slice-3.ensures c.in_ok-add_code.ensures c.in_ok-extend_from_slice-4.ensures c.in_ok-add_code-2.ensures last) c.extend_from_slice-5.ensures
