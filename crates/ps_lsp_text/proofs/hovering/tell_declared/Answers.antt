use Rattle.std.proofs.Common.{◌++◌, [], List, ℕ, Option, Bor, option_map, codes, inl, inr, refl, subst}
use Rattle.ps_lsp_text.specs.Declaring.{IsTypeOf, declaring_tokens}
use Rattle.ps_lsp_text.proofs.Growing.{extends_both, extends_none}
use Rattle.ps_lsp_text.proofs.hovering.tell_declared.Goals as goal

pub returns-in_default : goal.returns-in_default
returns-in_default c =
    let tokens = declaring_tokens c.args.sight.now.today c.args.sight.now.earlier c.args.declared in
    let at = c.args.declared.at in (
      [],
      inr (subst (λ (o : Option (Bor (List ℕ))). IsTypeOf tokens at (option_map (λ (x : Bor (List ℕ)). x.now) o)) c.in_default.is c.type_of.ensures, refl, refl),
      extends_none c.args.words.now,
    )

pub returns : goal.returns
returns c =
    let tokens = declaring_tokens c.args.sight.now.today c.args.sight.now.earlier c.args.declared in
    let at = c.args.declared.at in
    let told = c.tell_typed.ensures in
    let name = c.args.name.now in
    let ty = c.in-Some.ty.now in
    let end = c.tell_typed.new.words in (
      name ++ (codes " : " ++ (ty ++ told.0)),
      inl (
        ty,
        subst (λ (o : Option (Bor (List ℕ))). IsTypeOf tokens at (option_map (λ (x : Bor (List ℕ)). x.now) o)) c.in-Some.is c.type_of.ensures,
        (told.0, told.1, refl),
      ),
      extends_both c.args.words.now c.add.new.self end name (codes " : " ++ (ty ++ told.0)) c.add.ensures
          (extends_both c.add.new.self c.add-2.new.self end (codes " : ") (ty ++ told.0) c.add-2.ensures
          (extends_both c.add-2.new.self c.add-3.new.self end ty told.0 c.add-3.ensures told.2)),
    )
