-- Texts that grow, and the lines on a kind.
use Rattle.std.proofs.Common.{◌≡◌, ℕ, zero, suc, ◌+◌, List, [], ◌∷◌, ◌++◌, refl, sym, ap, ◌∙◌, append_assoc, append-nil, subst, arith}
use Rattle.std.specs.List.{flat_map, range_with_len}
use Rattle.std.proofs.lemmas.Grind.{flat_map-append}
use Rattle.ps_model.specs.declared.kind.Kind.{Kind}
use Rattle.ps_lsp_text.specs.Describing.{pin_text, pins_below, state_line, states_below}
use Rattle.ps_lsp_text.specs.Made.{Extends}
use Rattle.ps_lsp_text.specs.declared.made.MadeText.{MadeText}

-- nothing was added
pub extends_none : (text : MadeText) → Extends text text []
extends_none text = λ whole. (whole, sym (append-nil text.bytes))

-- what was added, and then more
pub extends_both : (before between after : MadeText) (first second : List ℕ) → Extends before between first → Extends between after second →
    Extends before after (first ++ second)
extends_both before between after first second one two = λ whole.
    let step = two whole in
    let old = one step.0 in
    (old.0, step.1 ∙ ap (λ (bytes : List ℕ). bytes ++ second) old.1 ∙ append_assoc before.bytes first second)

-- the same bytes by another name
pub extends_as : (before after : MadeText) (first second : List ℕ) → first ≡ second → Extends before after first → Extends before after second
extends_as before after first second same one = subst (λ (bytes : List ℕ). Extends before after bytes) same one

-- one number more
range_more : (a n : ℕ) → range_with_len a (suc n) ≡ range_with_len a n ++ (a + n) ∷ []
range_more a zero = ap (λ m. m ∷ []) (let e : a ≡ a + 0 = omega arith in e)
range_more a (suc n) = ap (λ ms. a ∷ ms) (range_more (a + 1) n ∙ ap (λ m. range_with_len (a + 1) n ++ m ∷ []) (let e : a + 1 + n ≡ a + suc n = omega arith in e))

flat_more : (f : ℕ → List ℕ) (n : ℕ) → flat_map f (range_with_len 0 (n + 1)) ≡ flat_map f (range_with_len 0 n) ++ f n
flat_more f n =
    let next : n + 1 ≡ suc n = omega arith in
    let last : 0 + n ≡ n = omega arith in
    ap (λ m. flat_map f (range_with_len 0 m)) next ∙ ap (flat_map f) (range_more 0 n)
    ∙ ap (λ m. flat_map f (range_with_len 0 n ++ m ∷ [])) last
    ∙ flat_map-append f (range_with_len 0 n) (n ∷ []) ∙ ap (λ ps. flat_map f (range_with_len 0 n) ++ ps) (append-nil (f n))

-- one pin more, and one state more
pub pins_more : (kind : Kind) (pin : ℕ) → pins_below kind (pin + 1) ≡ pins_below kind pin ++ (10 ∷ [] ++ pin_text kind pin)
unfolding pins_below
pins_more kind pin = flat_more (λ p. 10 ∷ [] ++ pin_text kind p) pin

pub states_more : (kind : Kind) (code : ℕ) → states_below kind (code + 1) ≡ states_below kind code ++ state_line kind code
unfolding states_below
states_more kind code = flat_more (state_line kind) code

-- none of them at first
pub no_pins : (kind : Kind) → pins_below kind 0 ≡ []
unfolding pins_below
no_pins kind = refl

pub no_states : (kind : Kind) → states_below kind 0 ≡ []
unfolding states_below
no_states kind = refl
