use Rattle.std.proofs.Common.{◌≡◌, ◌++◌, OnOk, sym, subst, append_assoc}
use Rattle.ps_cover.specs.Text.{counts_text}
use Rattle.ps_cover.specs.declared.format.Format.{Format}
use Rattle.ps_cover.proofs.text.add_counts.Goals as goal

pub returns-in-Json : goal.returns-in-Json
returns-in-Json c =
    let said = c.add_said-in-Json in
    subst (λ (format : Format). OnOk said.result (said.new.text ≡ c.args.text.now ++ counts_text format c.args.counts.covered c.args.counts.counted c.args.counts.excluded))
    (sym c.in-Json.is) (simp append_assoc said.ensures)
