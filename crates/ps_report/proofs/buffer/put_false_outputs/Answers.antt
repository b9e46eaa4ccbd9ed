use Rattle.std.proofs.Common.{◌≡◌, ◌<◌, ◌+◌, ◌++◌, ℕ, false, List, length, take, drop, get_or, ap, sym, ◌∙◌, arith}
use Rattle.std.specs.List.{flat_map}
use Rattle.std.proofs.lemmas.List.Sums.{sum_by-drop_more}
use Rattle.ps_model.specs.declared.named.Signal.{Signal}
use Rattle.ps_model.specs.Network.{input_count, signal_name, no_signal}
use Rattle.ps_report.specs.Lines.{named_value}
use Rattle.ps_report.proofs.Fields.{output_name, false_texts-drop, field_written}
use Rattle.ps_report.proofs.buffer.put_false_outputs.Goals as goal

pub loop-j-preserved : goal.loop-j-preserved
loop-j-preserved c =
    let net = c.args.app.now in
    let j : ℕ = c.loop-j.j in
    let inside : j < length net.outputs = omega arith in
    let rest : List ℕ = flat_map (λ o. named_value o.name false) (drop (j + 1) net.outputs) in
    let place : c.input_count-first.result + j ≡ input_count net + j = ap (λ n. n + j) c.input_count-first.ensures in
    let name : c.signal_name.result.now ≡ (get_or net.outputs j no_signal).name =
    c.signal_name.ensures ∙ ap (signal_name net) place ∙ output_name net j inside in
    let left : flat_map (λ o. named_value o.name false) (drop j net.outputs) ≡ named_value c.signal_name.result.now false ++ rest =
    false_texts-drop net.outputs j inside ∙ ap (λ (n : List ℕ). named_value n false ++ rest) (sym name) in
    record {
      bytes = field_written (take c.loop-j.end c.loop-j.line) (take c.put_named_value-end.result c.put_named_value-end.new.line) (named_value c.signal_name.result.now false) rest
          (flat_map (λ o. named_value o.name false) (drop j net.outputs)) c.put_named_value-end.ensures.bytes left ∙ c.loop-j.invariant.bytes;
      end = omega (arith, sum_by-drop_more (λ (s : Signal). length s.name + 3) net.outputs j no_signal inside, ap length name, c.put_named_value-end.ensures.end, c.loop-j.invariant.end);
      len = c.put_named_value-end.ensures.len ∙ c.loop-j.invariant.len;
    }
