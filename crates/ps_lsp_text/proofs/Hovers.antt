-- What is told of a place.
use Rattle.std.proofs.Common.{◌≡◌, ◌↔◌, ℕ, ◌-◌, Bool, true, false, List, [], ◌++◌, Option, Some, None, Result, Ok, Err, IfOk, IsTrue, Bor, option_map, codes, refl, ap, sym, ◌∙◌, subst, append-nil}
use Rattle.std.specs.Bool.{MatchBool}
use Rattle.std.proofs.lemmas.Bool.{true≢false}
use Rattle.std.proofs.lemmas.Option.{none-some, same_Some}
use Rattle.ps_base.specs.LetterCase.{SameName}
use Rattle.ps_base.specs.declared.failing.Memory.{Memory}
use Rattle.ps_base.specs.declared.failing.Place.{Place}
use Rattle.ps_lexer.specs.declared.token.Token.{Token}
use Rattle.ps_lexer.specs.declared.token.Word.{Word}
use Rattle.ps_lexer.specs.declared.token.Word.TheVariants as keyword
use Rattle.ps_model.specs.declared.kind.Kind.{Kind}
use Rattle.ps_lsp_text.specs.Calls.{IsCall}
use Rattle.ps_lsp_text.specs.Declaring.{IsInstance, declaring_tokens}
use Rattle.ps_lsp_text.specs.Driving.{IsDriverTold}
use Rattle.ps_lsp_text.specs.Hovering.{IsHovered, IsNameTold, IsPinPlace, IsSignalTold, IsTouchedTold, driven_from, hovered_of, is_of_inputs, is_of_outputs, is_output_place, section_text}
use Rattle.ps_lsp_text.specs.Looking.{AreSeen, AreSeenBy, name_in, name_touched}
use Rattle.ps_lsp_text.specs.Made.{Extends}
use Rattle.ps_lsp_text.specs.Sections.{IsSectionOf}
use Rattle.ps_lsp_text.specs.declared.hovering.Hovered.{Hovered}
use Rattle.ps_lsp_text.specs.declared.made.MadeText.{MadeText}
use Rattle.ps_lsp_text.specs.declared.sight.Declared.{Declared}

match_true : (b : Bool) (A B : Type 0) → b ≡ true → A → MatchBool b A B
match_true true A B is a = a
match_true false A B is a = absurd (true≢false (sym is))

match_false : (b : Bool) (A B : Type 0) → b ≡ false → B → MatchBool b A B
match_false true A B is b = absurd (true≢false is)
match_false false A B is b = b

-- inputs are no outputs
no_outputs : (section : Option Word) → is_of_inputs section ≡ true → is_of_outputs section ≡ true → ⊥
no_outputs None inputs outputs = true≢false (sym inputs)
no_outputs (Some keyword.VarInput) inputs outputs = true≢false (sym outputs)
no_outputs (Some keyword.VarOutput) inputs outputs = true≢false (sym inputs)
no_outputs (Some keyword.Var) inputs outputs = true≢false (sym inputs)
no_outputs (Some keyword.EndVar) inputs outputs = true≢false (sym inputs)
no_outputs (Some keyword.Program) inputs outputs = true≢false (sym inputs)
no_outputs (Some keyword.EndProgram) inputs outputs = true≢false (sym inputs)
no_outputs (Some keyword.And) inputs outputs = true≢false (sym inputs)
no_outputs (Some keyword.Or) inputs outputs = true≢false (sym inputs)
no_outputs (Some keyword.True) inputs outputs = true≢false (sym inputs)
no_outputs (Some keyword.False) inputs outputs = true≢false (sym inputs)

-- after the dot of what is no instance, and in no call of one, no name is to be a pin
module _ (today earlier : List Token) (at : ℕ) where
  pub no_output : is_output_place today at ≡ true → ((kind : Kind) → IsInstance today earlier (at - 2) kind → ⊥) →
      (kind : Kind) (is_input : Bool) → IsPinPlace today earlier at kind is_input → ⊥
  no_output after none kind false place = none kind place.1
  no_output after none kind true place = true≢false (sym after ∙ place.0)

  pub no_input : is_output_place today at ≡ false → ((bracket : ℕ) (kind : Kind) → IsCall today earlier at bracket kind → ⊥) →
      (kind : Kind) (is_input : Bool) → IsPinPlace today earlier at kind is_input → ⊥
  no_input apart none kind false place = true≢false (sym place.0 ∙ apart)
  no_input apart none kind true place = none place.2.0 kind place.2.1

module _ (text : List ℕ) (today earlier : List Token) (name : List ℕ) (declared : Declared) (ty : List ℕ) (section : Option Word)
    (stands : IsSectionOf (declaring_tokens today earlier declared) declared.at section) where
  -- what is told of an input is its section
  pub input_told : is_of_inputs section ≡ true → IsSignalTold text today earlier name declared ty (section_text section) false
  input_told inputs = record {
    section = section;
    stands = stands;
    driver = [];
    driven = match_true (is_of_inputs section) ([] ≡ []) (IsDriverTold text today name (driven_from declared) []) inputs refl;
    is = sym (append-nil (section_text section));
    output = (λ yes. absurd (true≢false (sym yes)), λ both. absurd (no_outputs section inputs both.0));
  }

  -- of another signal also what drives it
  pub signal_told : is_of_inputs section ≡ false → (driver : List ℕ) → IsDriverTold text today name (driven_from declared) driver →
      (is_output : Bool) → IsTrue is_output ↔ ((is_of_outputs section ≡ true) × SameName ty (codes "SAFEBOOL")) →
      IsSignalTold text today earlier name declared ty (section_text section ++ driver) is_output
  signal_told others driver told is_output output = record {
    section = section;
    stands = stands;
    driver = driver;
    driven = match_false (is_of_inputs section) (driver ≡ []) (IsDriverTold text today name (driven_from declared) driver) others told;
    is = refl;
    output = output;
  }

module _ (text : List ℕ) (parsed : Option (List ℕ)) (place : Place) (today earlier : List Token) (shown : AreSeen text today) (shown_before : AreSeenBy parsed earlier)
    (at : ℕ) (touched : name_touched today place ≡ Some at) where
  of_touched : (told : Option Hovered) → IsTouchedTold text today earlier (Some at) told → IsHovered text parsed place told
  of_touched told is = record {
    today = today;
    earlier = earlier;
    shown = shown;
    before = shown_before;
    is = subst (λ (o : Option ℕ). IsTouchedTold text today earlier o told) (sym touched) is;
  }

  -- what is touched is a name
  pub unnamed : (tokens : List Token) (r : Option (Bor (List ℕ))) → option_map (λ (x : Bor (List ℕ)). x.now) r ≡ name_in tokens at → tokens ≡ today → r ≡ None →
      IsHovered text parsed place None
  unnamed tokens r gives same none = of_touched None (λ name there. absurd (none-some name
      (sym (sym gives ∙ ap (λ (o : Option (Bor (List ℕ))). option_map (λ (x : Bor (List ℕ)). x.now) o) none) ∙ ap (λ (l : List Token). name_in l at) same ∙ there)))

  -- what is told of the name that is touched is what was added to nothing
  pub hovered : (name : List ℕ) → name_in today at ≡ Some name → (before after : MadeText) → before.bytes ≡ [] → (is_output : Bool) (words : List ℕ) →
      IsNameTold text today earlier at name words is_output → Extends before after words → (result : Result (Option Hovered) Memory) →
      IfOk result (λ told. IsTrue after.is_whole × (told ≡ hovered_of name after.bytes is_output)) → IfOk result (IsHovered text parsed place)
  hovered name there before after begins is_output words tells adds (Ok told) made =
      let added = (adds made.0).1 ∙ ap (λ (l : List ℕ). l ++ words) begins in
      of_touched told (λ other here.
      subst (λ (n : List ℕ). (w : List ℕ) × ((o : Bool) × IsNameTold text today earlier at n w o × (told ≡ hovered_of n w o))) (same_Some name other (sym there ∙ here))
      (words, (is_output, tells, made.1 ∙ ap (λ (l : List ℕ). hovered_of name l is_output) added)))
  hovered name there before after begins is_output words tells adds (Err failed) made = tt
