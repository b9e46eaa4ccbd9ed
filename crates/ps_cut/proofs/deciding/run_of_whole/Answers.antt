use Rattle.std.proofs.Common.{◌≡◌, List, length, map, IfSome, ap, subst, ◌∙◌}
use Rattle.ps_reach.specs.Promised.{EndsMeeting}
use Rattle.ps_reach.specs.Telling.{scans_at}
use Rattle.ps_reach.specs.Tracing.{inputs_in}
use Rattle.ps_reach.specs.declared.tracing.ScanInputs.{ScanInputs}
use Rattle.ps_cut.proofs.Witnessed.{witness_of}
use Rattle.ps_cut.proofs.deciding.run_of_whole.Goals as goal

pub returns-in-Some : goal.returns-in-Some
returns-in-Some c =
    let net = c.args.of.now.app.now in
    let q = c.args.of.now.asked.now in
    let rule = c.args.of.now.rule in
    let wanted = c.as_slice-in-loop-filling.result.now in
    let found = subst (λ o. IfSome o (λ s. EndsMeeting net q rule (scans_at 0 q.every (map inputs_in s.items)) × (length s.items ≡ length wanted))) c.in-Some.is c.in_ok-run.ensures in
    let count : length wanted ≡ length c.in_ok-of_part.of_part.items =
    ap (λ (xs : List ScanInputs). length xs) c.as_slice-in-loop-filling.ensures.value ∙ c.in_ok-wanted.ensures
    ∙ ap (λ (xs : List ScanInputs). length xs) c.as_slice.ensures.value in
    witness_of net q rule c.args.cut.now c.requires.is_cut c.sound.ensures c.sound-2.ensures c.args.path.now.inputs.items c.requires.shortest
    c.in_ok-of_part.of_part.items c.in-Some.run'.items c.in_ok-of_part.ensures (found.1 ∙ count) found.0
