use Rattle.std.proofs.Common.{ap}
use Rattle.std.specs.Prelude.{codes, decimal}
use Rattle.ps_report.specs.Lines.{code_text}
use Rattle.ps_cover.specs.Lines.{guard_text}
use Rattle.ps_cover.proofs.Chains.{being, carry, chain11}
use Rattle.ps_cover.proofs.lines.add_json_taken.Goals as goal

pub returns : goal.returns
returns c = carry c.extend_from_slice-7.result (λ last. chain11 c.args.text.now (codes "{\"never\":\"way\",\"instance\":\"") (c.args.name.now) (codes "\",\"from\":\"") (code_text c.args.way.now.state) (codes "\",\"to\":\"") (code_text c.args.way.now.next) (codes "\",\"guard\":") (decimal c.args.way.now.number) (codes ",\"when\":\"") (guard_text c.args.kind c.args.place c.args.way.now) (codes "\"}\n") c.in_ok-extend_from_slice.ensures (being _ c.as_bytes.result.now c.in_ok-extend_from_slice-2.ensures c.as_bytes.ensures.value) c.in_ok-extend_from_slice-3.ensures c.in_ok-add_code.ensures c.in_ok-extend_from_slice-4.ensures c.in_ok-add_code-2.ensures c.in_ok-extend_from_slice-5.ensures (being _ (decimal c.from.result) c.in_ok-add_number.ensures (ap decimal c.from.ensures)) c.in_ok-extend_from_slice-6.ensures c.in_ok-add_guard.ensures last) c.extend_from_slice-7.ensures
