use Rattle.std.proofs.Common.{[], ◌∷◌, ◌++◌, List, ℕ, ap, take, ◌∙◌}
use Rattle.ps_findings.proofs.Saying.{said_more, said_so, take_shorter}
use Rattle.ps_findings.specs.Usage.{in_marks}
use Rattle.ps_findings.proofs.telling.Telling.add_word.Goals as goal

pub returns : goal.returns
returns c =
    let word = c.args.word.now in
    let shown = take c.min.result word in
    said_so c.args.self.now c.add-3.new.self ((34 ∷ [] ++ shown) ++ 34 ∷ []) (in_marks word)
    (ap (λ (t : List ℕ). 34 ∷ (t ++ 34 ∷ [])) (ap (λ (k : ℕ). take k word) c.min.ensures ∙ take_shorter word 40))
    (said_more c.args.self.now c.add-2.new.self c.add-3.new.self (34 ∷ [] ++ shown) (34 ∷ [])
    (said_more c.args.self.now c.add.new.self c.add-2.new.self (34 ∷ []) shown c.add.ensures c.add-2.ensures) c.add-3.ensures)
