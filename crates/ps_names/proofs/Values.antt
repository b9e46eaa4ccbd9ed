-- Each value of a step is the formula of a sum of its statement.
use Rattle.std.proofs.Common.{◌≡◌, ℕ, zero, suc, ◌≤◌, List, [], ◌∷◌, Option, None, Some, slice_get, refl, sym, ap, ◌∙◌, arith}
use Rattle.std.specs.List.{flat_map, find}
use Rattle.ps_base.specs.declared.failing.Refusal.{Refusal}
use Rattle.ps_model.specs.Blocks.{Pin, block}
use Rattle.ps_model.specs.Formula.{Formula}
use Rattle.ps_model.specs.Values.{values_at_pin, values_of_step}
use Rattle.ps_parser.specs.declared.name.Name.{Name}
use Rattle.ps_parser.specs.Tree.{FactorTree, ProductTree, no_factor, factor, SumTree, no_product, product, ArgumentTree, StatementTree, Assign, Call}
use Rattle.ps_parser.specs.Tree as tree
use Rattle.ps_parser.specs.Whole.{SumWhole, ArgumentWhole, StatementWhole, sum_nesting, arguments_nesting, statement_nesting}
use Rattle.ps_names.specs.declared.entry.Entry.{Entry}
use Rattle.ps_base.specs.LetterCase.{is_same_name}
use Rattle.ps_names.specs.Names.{sort_of}
use Rattle.ps_names.specs.Uses.{Use, gives, runs, sum_uses, value_uses, argument_uses, statement_uses}
use Rattle.ps_names.specs.Stands.{sort_or, kind_of, sum_formula, actual_of, given, actual_at, actuals, action}
use Rattle.ps_names.proofs.Distinct.{none_right}
use Rattle.ps_names.proofs.Lists.{one_of_all, in_flat, in_map, found_at}
use Rattle.ps_names.proofs.Unbroken.{none_inside}

-- what a value of a statement is: its uses are uses of the statement
pub record IsValueOf (IsNamed : List ℕ → Type 0) (es : List Entry) (st : StatementTree) (e : Formula) : Type 0 where
  pub value : SumTree
  pub is : e ≡ sum_formula es value
  pub uses : (g : Use → List Refusal) → flat_map g (statement_uses st) ≡ [] → flat_map g (sum_uses value) ≡ []
  pub whole : StatementWhole IsNamed st → SumWhole IsNamed value
  pub shallow : sum_nesting value ≤ statement_nesting st

-- an argument with a value
record IsWired (es : List Entry) (v : SumTree) (e : Formula) : Type 0 where
  is : e ≡ sum_formula es v
  uses : value_uses v ≡ sum_uses v

wired_at : (es : List Entry) (v : SumTree) (k : ℕ) (e : Formula) → slice_get (values_at_pin (actual_of es v)) k ≡ Some e → IsWired es v e
wired_at es no_product zero e h = record { is = cc; uses = refl }
wired_at es no_product (suc k) e h = cc
wired_at es (product no_factor ps) zero e h = record { is = cc; uses = refl }
wired_at es (product no_factor ps) (suc k) e h = cc
wired_at es (product (factor (tree.Literal b p) no_factor) no_product) k e h = cc
wired_at es (product (factor (tree.Time t p) no_factor) no_product) k e h = cc
wired_at es v zero e h = record { is = cc; uses = refl }
wired_at es v (suc k) e h = cc

-- what its uses are among the uses of a call
argument_has : (g : Use → List Refusal) (n : Name) (arguments : List ArgumentTree) (j : ℕ) (a : ArgumentTree) → slice_get arguments j ≡ Some a →
    flat_map g (statement_uses (Call n arguments)) ≡ [] → flat_map g (value_uses a.value) ≡ []
argument_has g n arguments j a at none =
    none_right (g (gives n a.pin)) (flat_map g (value_uses a.value))
    (none_inside g (argument_uses n) arguments j a (none_right (g (runs n)) (flat_map g (flat_map (argument_uses n) arguments)) none) at)

nesting_at : (arguments : List ArgumentTree) (j : ℕ) (a : ArgumentTree) → slice_get arguments j ≡ Some a → sum_nesting a.value ≤ arguments_nesting arguments
nesting_at [] j a at = cc
nesting_at (b ∷ rest) zero a at = let e : b ≡ a = cc in let f = ap (λ x. sum_nesting x.value) e in omega arith
nesting_at (b ∷ rest) (suc j) a at = let h = nesting_at rest j a at in omega arith

module _ (IsNamed : List ℕ → Type 0) (es : List Entry) where
  argument_value : (n : Name) (arguments : List ArgumentTree) (o : Option ArgumentTree) (pin : List ℕ) (k : ℕ) (e : Formula) →
      find (λ a. is_same_name a.pin.text pin) arguments ≡ o → slice_get (values_at_pin (given es o)) k ≡ Some e → IsValueOf IsNamed es (Call n arguments) e
  argument_value n arguments None pin k e found h = cc
  argument_value n arguments (Some a) pin k e found h =
      let r = found_at (λ a. is_same_name a.pin.text pin) arguments a found in
      let w = wired_at es a.value k e h in
      record {
        value = a.value;
        is = w.is;
        uses = λ g none. ap (flat_map g) (sym w.uses) ∙ argument_has g n arguments r.0 a r.1 none;
        whole = λ all. (one_of_all (ArgumentWhole IsNamed) arguments r.0 a all.1 r.1).1;
        shallow = nesting_at arguments r.0 a r.1;
      }

  pub value_of : (st : StatementTree) (k : ℕ) (e : Formula) → slice_get (values_of_step (action es st)) k ≡ Some e → IsValueOf IsNamed es st e
  value_of (Assign t v) zero e h = record {
    value = v;
    is = cc;
    uses = λ g none. none_right _ (flat_map g (sum_uses v)) none;
    whole = λ all. all.1;
    shallow = omega arith;
  }
  value_of (Assign t v) (suc k) e h = cc
  value_of (Call n arguments) k e h =
      let inputs = (block (kind_of (sort_or (sort_of es n)))).inputs in
      let r = in_flat values_at_pin (actuals es (kind_of (sort_or (sort_of es n))) arguments) k e h in
      let m = in_map (λ (p : Pin). actual_at es arguments p.name) inputs r.0 r.1 r.2 in
      argument_value n arguments (find (λ a. is_same_name a.pin.text m.0.name) arguments) m.0.name r.3 e refl (ap (λ x. slice_get (values_at_pin x) r.3) m.2 ∙ r.4)
