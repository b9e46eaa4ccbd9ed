use Rattle.std.proofs.Common.{◌++◌, ◌∙◌}
use Rattle.ps_bench_report.specs.Contents.{front_pieces}
use Rattle.ps_bench_report.proofs.reporting.front_of.Goals as goal

pub returns : goal.returns
returns c = λ whole.
    let title_is = c.as_slice.ensures ∙ c.in_ok-title.ensures in
    let digest_is = c.as_slice-2.ensures ∙ c.in_ok-digest.ensures in
    (c.add_front.ensures whole).1
    ∙ (λ i. (c.new-page.ensures i).pieces ++ front_pieces (title_is i) (c.as_bytes-name.ensures.value i) (digest_is i))
