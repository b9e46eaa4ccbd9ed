-- The pieces that `split` gives are the lines of the text, and `nth` takes one of them.
use Rattle.std.proofs.Common.{◌≡◌, eqb, ℕ, ◌-◌, List, [], Option, Some, None, Bor, rules, sym, ◌∙◌, ap, get_or, unwrap_or}
use Rattle.std.specs.List.{slice_split, slice_get}
use Rattle.std.specs.Option.{option_map}
use Rattle.std.proofs.lemmas.Option.{unwrap_or-slice_get}
use Rattle.std.proofs.lemmas.Iterator.Splits.{YieldsList-from_slice_split}
use Rattle.std.proofs.lemmas.Iterator.Consumers.{nth_from_yields_List}
use Rattle.ps_text.specs.Quoted.{line_of}
use Rattle.ps_text.proofs.quoted.line_at.Goals as goal

-- the line that `nth` gave, or none for the text's end
line_given : (text : List ℕ) (n index : ℕ) (given : Option (List ℕ)) → index ≡ n - 1 → given ≡ slice_get (slice_split (λ b. eqb b 10) text) index →
    unwrap_or given [] ≡ line_of text n
line_given text n index given place taken =
    ap (λ (o : Option (List ℕ)). unwrap_or o []) taken
    ∙ unwrap_or-slice_get (slice_split (λ b. eqb b 10) text) index []
    ∙ ap (λ (i : ℕ). get_or (slice_split (λ b. eqb b 10) text) i []) place

pub returns-in-Some : goal.returns-in-Some
returns-in-Some c =
    let given = nth_from_yields_List c.nth.result c.nth.new.self c.saturating_sub-index.result c.nth.ensures.ran
    (YieldsList-from_slice_split _ (λ b. eqb b 10) c.args.text.now c.split.ensures.rest c.split.ensures.done c.split.ensures.closure (λ x r q k. search rules)) in
    line_given c.args.text.now c.args.number c.saturating_sub-index.result (Some c.in-Some.line.now) c.saturating_sub-index.ensures
    (ap (λ (o : Option (Bor (List ℕ))). option_map (λ (x : Bor (List ℕ)). x.now) o) (sym c.in-Some.is) ∙ given)

pub returns-in-None : goal.returns-in-None
returns-in-None c =
    let given = nth_from_yields_List c.nth.result c.nth.new.self c.saturating_sub-index.result c.nth.ensures.ran
    (YieldsList-from_slice_split _ (λ b. eqb b 10) c.args.text.now c.split.ensures.rest c.split.ensures.done c.split.ensures.closure (λ x r q k. search rules)) in
    line_given c.args.text.now c.args.number c.saturating_sub-index.result None c.saturating_sub-index.ensures
    (ap (λ (o : Option (Bor (List ℕ))). option_map (λ (x : Bor (List ℕ)). x.now) o) (sym c.in-None.is) ∙ given)
