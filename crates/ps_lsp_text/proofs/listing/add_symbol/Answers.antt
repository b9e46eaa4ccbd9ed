use Rattle.std.proofs.Common.{[], ◌∷◌, List, ℕ, Option, Bor, option_map, inl, inr, refl, subst}
use Rattle.ps_lsp_text.specs.Declaring.{IsTypeOf}
use Rattle.ps_lsp_text.specs.Spots.{symbol_with}
use Rattle.ps_lsp_text.proofs.Adding.{adds_item, adds_none}
use Rattle.ps_lsp_text.proofs.AmongTokens.{no_type}
use Rattle.ps_lsp_text.proofs.Definitions.{name_known}
use Rattle.ps_lsp_text.proofs.listing.add_symbol.Goals as goal

pub returns-in_default-declared_type : goal.returns-in_default-declared_type
returns-in_default-declared_type c = λ text token there is.
    let tokens = c.args.tokens.now in
    let untyped = subst (λ (o : Option (Bor (List ℕ))). IsTypeOf tokens c.args.at (option_map (λ (x : Bor (List ℕ)). x.now) o)) c.in_default-declared_type.is c.declared_type.ensures in
    ([], inr (λ name ty named typed. no_type tokens c.args.at ty typed untyped, refl), adds_none c.args.list.now.is_whole c.args.list.now.list.items)

pub returns : goal.returns
returns c = λ text token there is.
    let tokens = c.args.tokens.now in
    let typed = subst (λ (o : Option (Bor (List ℕ))). IsTypeOf tokens c.args.at (option_map (λ (x : Bor (List ℕ)). x.now) o)) c.in-Some-declared_type.is c.declared_type.ensures in
    let symbol = symbol_with c.in-Some.name.now c.in-Some-declared_type.ty.now c.args.range in (
      symbol ∷ [],
      inl (
        symbol,
        record {
          named = name_known tokens tokens c.args.at c.name_at.result c.in-Some.name c.name_at.ensures refl c.in-Some.is;
          typed = typed;
          token = token;
          there = there;
          range = is;
        },
        refl,
      ),
      adds_item _ _ _ _ symbol c.symbol_of.result c.add.ensures.adds c.add.ensures.spoilt c.symbol_of.ensures,
    )
