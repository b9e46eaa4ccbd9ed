use Rattle.std.proofs.Common.{◌≡◌, ◌∙◌, ℕ, Bool, List, length, map, get_or, cond, false, refl, ap}
use Rattle.std.specs.Prelude.{nat_lt}
use Rattle.std.specs.List.{range_with_len}
use Rattle.std.proofs.lemmas.List.FromFn.{length-map-range_with_len}
use Rattle.ps_model.specs.Meaning.{last_time, old_state, passed}
use Rattle.ps_model.specs.Network.{input_count}
use Rattle.ps_model.specs.Running.{begun}
use Rattle.ps_scan.specs.Cells.{Cells, signal_at}
use Rattle.ps_scan.proofs.Showing.{from_zero}
use Rattle.ps_scan.proofs.Ending.{begun_from, is_scan}
use Rattle.ps_scan.proofs.scanner.Scanner.scan.Goals as goal

pub returns-clause-outputs : goal.returns-clause-outputs
returns-clause-outputs c =
    ap (λ (bs : List Bool). length bs) c.put_outputs.ensures
    ∙ length-map-range_with_len (λ (s : ℕ). get_or c.signals.result.now s false) c.input_count.result (length c.args.report.now.outs)
    ∙ c.requires.outputs

pub returns-clause-solves : goal.returns-clause-solves
returns-clause-solves c = λ past stands later.
    let net = c.args.app.now in
    let now = c.args.now in
    let ins = c.args.ins.now in
    let w : Cells = c.args.self.now in
    let w' : Cells = c.do_steps.new.w in
    let begin : Cells = c.write.new.self in
    let sound = c.sound.ensures in
    let written : (s : ℕ) → signal_at begin s ≡ cond (nat_lt s (input_count net)) (get_or ins s false) (signal_at w s) =
    λ s. c.write.ensures.each s ∙ from_zero ins s (input_count net) (signal_at w s) c.requires.inputs in
    let mid = begun_from net sound past now ins w w' c.args.report.now.diags stands begin written c.write.ensures.instances in
    let done = c.do_steps.ensures.done (last_time past) (passed past now) (begun net (old_state net past) ins) later mid in
    let outs : c.put_outputs.new.outs ≡ map (signal_at w') (range_with_len (input_count net) (length net.outputs)) =
    c.put_outputs.ensures
    ∙ ap (λ (ss : List Bool). map (λ (s : ℕ). get_or ss s false) (range_with_len c.input_count.result (length c.args.report.now.outs))) c.signals.ensures
    ∙ ap (λ (n : ℕ). map (signal_at w') (range_with_len n (length c.args.report.now.outs))) c.input_count.ensures
    ∙ ap (λ (n : ℕ). map (signal_at w') (range_with_len (input_count net) n)) c.requires.outputs in
    is_scan net sound past now ins w w' c.do_steps.new.diags stands done c.do_steps.ensures.sizes c.do_steps.ensures.diagnoses
    (record { outs = c.put_outputs.new.outs; diags = c.do_steps.new.diags }) outs refl
