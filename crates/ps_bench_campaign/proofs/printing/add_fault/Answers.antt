use Rattle.std.proofs.Common.{◌≡◌, ◌∙◌, ◌++◌, List, OnOk, Result, Ok, Err, ap, append_assoc, codes, ℕ}
use Rattle.std.specs.Prelude.{decimal}
use Rattle.hex.specs.Hex.{encode_lower}
use Rattle.ps_bench_cases.specs.Expanded.{region_text, turn_text}
use Rattle.ps_bench_campaign.proofs.printing.add_fault.Goals as goal

-- the pieces of the line of a fault, one after the other
all_put : {A E : Type 0} (r : Result A E) (before scan space turn region at digits end old one two three four five : List ℕ) →
    one ≡ old ++ before ++ scan ++ space → two ≡ one ++ turn → three ≡ two ++ region ++ at ++ space → four ≡ three ++ digits →
    OnOk r (five ≡ four ++ end) →
    OnOk r (five ≡ old ++ ((before ++ scan ++ space ++ turn) ++ (region ++ at ++ space ++ digits ++ end)))
all_put (Ok v) before scan space turn region at digits end old one two three four five first second third fourth fifth =
    fifth
    ∙ ap (λ (t : List ℕ). t ++ end) (fourth
    ∙ ap (λ (t : List ℕ). t ++ digits) (third
    ∙ ap (λ (t : List ℕ). t ++ region ++ at ++ space) (second
    ∙ ap (λ (t : List ℕ). t ++ turn) first)))
    ∙ simp append_assoc
all_put (Err e) before scan space turn region at digits end old one two three four five first second third fourth fifth = tt

pub returns : goal.returns
returns c =
    let f = c.args.fault.now in
    all_put c.extend_from_slice.result (codes "before ") (decimal f.scan) (codes " ") (turn_text f.turn) (region_text f.channel f.region) (decimal f.at)
    (encode_lower f.bytes) (codes "\n") c.args.text.now c.add_between.new.text c.add_turn.new.text c.add_between-2.new.text c.add_digits.new.text
    c.extend_from_slice.new.self c.in_ok-add_between.ensures c.in_ok-add_turn.ensures
    (c.in_ok-add_between-2.ensures ∙ ap (λ (t : List ℕ). c.add_turn.new.text ++ t ++ decimal f.at ++ codes " ") c.region_text-region.ensures)
    (c.in_ok-add_digits.ensures ∙ ap (λ (t : List ℕ). c.add_between-2.new.text ++ encode_lower t) c.as_slice.ensures)
    c.extend_from_slice.ensures
