use Rattle.std.proofs.Common.{◌≡◌, ◌++◌, map, ap, ◌∙◌, rules, append-nil, length}
use Rattle.std.proofs.lemmas.List.{nil_from_length}
use Rattle.ps_flow.specs.Written.{line_text}
use Rattle.ps_flow.specs.Read.{lines_of}
use Rattle.ps_flow.proofs.Cutting.{text_of_cut}
use Rattle.ps_flow.proofs.reading.read_certificate.Goals as goal

pub returns : goal.returns
returns c =
    let none : length c.loop-left.left.now ≡ 0 = search rules in
    record {
      form = text_of_cut c.args.text.now c.loop-left.cert
          (c.loop-left.invariant.cut ∙ ap (λ left. map line_text c.loop-left.cert ++ lines_of left) (nil_from_length c.loop-left.left.now none) ∙ append-nil (map line_text c.loop-left.cert));
      numbered = c.loop-left.invariant.numbered;
      within = c.loop-left.invariant.within;
    }
