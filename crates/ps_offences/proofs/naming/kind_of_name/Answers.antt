use Rattle.std.proofs.Common.{◌≡◌, ℕ, Option, Some, None, IfSome, IfNone, List, sym, subst}
use Rattle.ps_model.specs.declared.kind.Kind.{Kind}
use Rattle.ps_model.specs.Blocks.{block}
use Rattle.ps_base.specs.LetterCase.{SameName}
use Rattle.ps_names.specs.Names.{kind_called}
use Rattle.ps_names.proofs.Lookups.{kind_found, kind_missing}
use Rattle.ps_offences.proofs.naming.kind_of_name.Goals as goal

is_kind : (text name : List ℕ) (o : Option Kind) → text ≡ name → IfSome o (λ kind. SameName (block kind).name text) →
    IfNone o ((kind : Kind) → ¬ (SameName (block kind).name text)) → o ≡ kind_called name
is_kind text name (Some kind) is some none = sym (kind_found kind name (subst (λ t. SameName (block kind).name t) is some))
is_kind text name None is some none = sym (kind_missing name (λ kind same. none kind (subst (λ t. SameName (block kind).name t) (sym is) same)))

pub returns : goal.returns
returns c = is_kind c.as_slice.result.now c.args.name.now.text c.kind_named.result c.as_slice.ensures c.kind_named.ensures.some c.kind_named.ensures.none
