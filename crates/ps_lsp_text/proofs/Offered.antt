-- What may be written at a place.
use Rattle.std.proofs.Common.{◌≡◌, ℕ, ◌-◌, true, List, [], Option, Result, Ok, Err, IfOk, IsTrue, Vec, Global, sym, ◌∙◌, subst}
use Rattle.ps_base.specs.declared.failing.Memory.{Memory}
use Rattle.ps_base.specs.declared.failing.Place.{Place}
use Rattle.ps_lexer.specs.declared.token.Token.{Token}
use Rattle.ps_model.specs.declared.kind.Kind.{Kind}
use Rattle.ps_model.specs.Pins.{pin_count}
use Rattle.ps_lsp_text.specs.Looking.{AreSeen, AreSeenBy}
use Rattle.ps_lsp_text.specs.Declaring.{IsInstance}
use Rattle.ps_lsp_text.specs.Hovering.{is_output_place}
use Rattle.ps_lsp_text.specs.Completing.{AreOutputs, IsAfterDot, IsCompleted, whole_before}
use Rattle.ps_lsp_text.specs.declared.completing.Item.{Item}
use Rattle.ps_lsp_text.specs.declared.made.MadeList.{MadeList}

-- the same of a list that is the same
pub outputs_of : (kind : Kind) (n : ℕ) (list made : MadeList Item) → list ≡ made → (IsTrue made.is_whole → AreOutputs kind n made.list.items) → IsTrue list.is_whole → AreOutputs kind n list.list.items
outputs_of kind n list made same outputs = subst (λ (l : MadeList Item). IsTrue l.is_whole → AreOutputs kind n l.list.items) (sym same) outputs

module _ (text : List ℕ) (parsed : Option (List ℕ)) (place : Place) (today earlier : List Token) (seen : AreSeen text today) (seen_before : AreSeenBy parsed earlier) where
  -- what may be written after so many tokens
  pub record IsOffered (upto : ℕ) (items : List Item) : Type 0 where
    pub outputs : IsAfterDot today earlier upto → (kind : Kind) × IsInstance today earlier (upto - 2) kind × AreOutputs kind (pin_count kind) items
    pub nothing : is_output_place today upto ≡ true → ((kind : Kind) → IsInstance today earlier (upto - 2) kind → ⊥) → items ≡ []

  of_offered : (upto : ℕ) (items : List Item) → upto ≡ whole_before today place → IsOffered upto items → IsCompleted text parsed place items
  of_offered upto items is offered =
      let here = subst (λ (n : ℕ). IsOffered n items) is offered in
      record { today = today; earlier = earlier; seen = seen; before = seen_before; outputs = here.outputs; nothing = here.nothing }

  pub completed : (upto : ℕ) (before after : MadeList Item) → upto ≡ whole_before today place → before.list.items ≡ [] →
      (IsAfterDot today earlier upto → before.list.items ≡ [] → IsTrue after.is_whole → (kind : Kind) × IsInstance today earlier (upto - 2) kind × AreOutputs kind (pin_count kind) after.list.items) →
      (is_output_place today upto ≡ true → ((kind : Kind) → IsInstance today earlier (upto - 2) kind → ⊥) → after.list.items ≡ before.list.items) →
      (result : Result (Vec Item Global) Memory) → IfOk result (λ l. IsTrue after.is_whole × (l.items ≡ after.list.items)) → IfOk result (λ items. IsCompleted text parsed place items.items)
  completed upto before after is empty outputs nothing (Ok l) given =
      of_offered upto l.items is (subst (IsOffered upto) (sym given.1) (record {
        outputs = λ dot. outputs dot empty given.0;
        nothing = λ dot none. nothing dot none ∙ empty;
      }))
  completed upto before after is empty outputs nothing (Err failed) given = tt
