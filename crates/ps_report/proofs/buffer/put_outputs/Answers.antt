use Rattle.std.proofs.Common.{◌≡◌, ◌<◌, ◌+◌, ◌++◌, ℕ, Bool, false, List, length, take, drop, get_or, ap, sym, ◌∙◌, arith}
use Rattle.std.proofs.lemmas.List.Sums.{sum_by-drop_more}
use Rattle.std.proofs.lemmas.Option.{get_or_from_slice_get}
use Rattle.ps_model.specs.declared.named.Signal.{Signal}
use Rattle.ps_model.specs.Network.{input_count, signal_name, no_signal}
use Rattle.ps_report.specs.Lines.{named_value, output_texts}
use Rattle.ps_report.proofs.Fields.{output_name, output_texts-drop, field_written}
use Rattle.ps_report.proofs.buffer.put_outputs.Goals as goal

pub loop-j-preserved : goal.loop-j-preserved
loop-j-preserved c =
    let net = c.args.app.now in
    let values : List Bool = c.args.outs.now in
    let j : ℕ = c.loop-j.j in
    let inside : j < length net.outputs = omega arith in
    let within : j < length values = omega arith in
    let rest : List ℕ = output_texts (drop (j + 1) net.outputs) (drop (j + 1) values) in
    let place : c.input_count-first.result + j ≡ input_count net + j = ap (λ n. n + j) c.input_count-first.ensures in
    let name : c.signal_name.result.now ≡ (get_or net.outputs j no_signal).name =
    c.signal_name.ensures ∙ ap (signal_name net) place ∙ output_name net j inside in
    let value : get_or values j false ≡ c.at.result = get_or_from_slice_get values j c.at.result false c.at.ensures in
    let left : output_texts (drop j net.outputs) (drop j values) ≡ named_value c.signal_name.result.now c.at.result ++ rest =
    output_texts-drop net.outputs values j inside within
    ∙ ap (λ (n : List ℕ). named_value n (get_or values j false) ++ rest) (sym name)
    ∙ ap (λ (v : Bool). named_value c.signal_name.result.now v ++ rest) value in
    record {
      bytes = field_written (take c.loop-j.end c.loop-j.line) (take c.put_named_value-end.result c.put_named_value-end.new.line) (named_value c.signal_name.result.now c.at.result) rest
          (output_texts (drop j net.outputs) (drop j values)) c.put_named_value-end.ensures.bytes left ∙ c.loop-j.invariant.bytes;
      end = omega (arith, sum_by-drop_more (λ (s : Signal). length s.name + 3) net.outputs j no_signal inside, ap length name, c.put_named_value-end.ensures.end, c.loop-j.invariant.end);
      len = c.put_named_value-end.ensures.len ∙ c.loop-j.invariant.len;
    }
