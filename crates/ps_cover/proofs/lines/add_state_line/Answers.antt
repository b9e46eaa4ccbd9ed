use Rattle.std.proofs.Common.{◌≡◌, ◌++◌, OnOk, Some, sym, subst, append_assoc}
use Rattle.ps_cover.specs.Lines.{state_line}
use Rattle.ps_cover.specs.declared.format.Format.{Format}
use Rattle.ps_cover.proofs.lines.add_state_line.Goals as goal

pub returns-in-Json : goal.returns-in-Json
returns-in-Json c =
    let said = c.add_said-in-Json in
    subst (λ (format : Format). OnOk said.result (said.new.text ≡ c.args.text.now ++ state_line format c.args.name.now c.args.kind (Some c.args.way.now)))
    (sym c.in-Json.is) (simp append_assoc said.ensures)
