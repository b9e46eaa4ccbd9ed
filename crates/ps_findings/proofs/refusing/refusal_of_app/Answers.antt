use Rattle.std.proofs.Common.{◌∙◌}
use Rattle.ps_findings.proofs.Refused.{with_lines}
use Rattle.ps_findings.proofs.refusing.refusal_of_app.Goals as goal

pub returns : goal.returns
returns c =
    with_lines c.as_bytes-file.result.now c.args.name.now c.args.source.now c.as_slice.result.now c.in_ok-bytes.bytes c.as_slice-2.result.now
    c.extend_from_slice.new.self c.args.refusal.now c.as_bytes-file.ensures.value c.in_ok-bytes.ensures.says
    (c.in_ok-further.ensures.0, c.in_ok-further.ensures.1, c.as_slice-2.ensures ∙ c.in_ok-further.ensures.2) c.in_ok-extend_from_slice.ensures
