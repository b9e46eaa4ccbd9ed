-- The TIME literals of a source fit 32 bits, and so do those of its application.
use Rattle.std.proofs.Common.{◌≡◌, ℕ, arith, List, Option, None, Some, slice_get, refl, subst}
use Rattle.std.specs.List.{All, AllByRecursion, find}
use Rattle.ps_model.specs.Action.{Actual, calls, FitsTime}
use Rattle.ps_model.specs.Blocks.{Pin, block}
use Rattle.ps_parser.specs.Tree.{FactorTree, ProductTree, no_factor, factor, SumTree, no_product, product, ArgumentTree, StatementTree, Assign, Call}
use Rattle.ps_parser.specs.Tree as tree
use Rattle.ps_parser.specs.Whole.{SumWhole, ArgumentWhole, StatementWhole}
use Rattle.ps_names.specs.declared.entry.Entry.{Entry}
use Rattle.ps_base.specs.LetterCase.{is_same_name}
use Rattle.ps_names.specs.Names.{sort_of}
use Rattle.ps_names.specs.Stands.{sort_or, kind_of, actual_of, given, actual_at, actuals, action, network_of}
use Rattle.ps_names.proofs.Lists.{one_of_all, in_map, all_at, found_at}

module _ (IsNamed : List ℕ → Type 0) (es : List Entry) where
  value_fits : (v : SumTree) → SumWhole IsNamed v → FitsTime (actual_of es v)
  value_fits no_product w = tt
  value_fits (product no_factor ps) w = tt
  value_fits (product (factor (tree.Literal b p) no_factor) no_product) w = tt
  value_fits (product (factor (tree.Time t p) no_factor) no_product) w = let h = w.0.0 in omega arith
  value_fits v w = tt

  argument_fits : (arguments : List ArgumentTree) (pin : List ℕ) (o : Option ArgumentTree) → AllByRecursion (ArgumentWhole IsNamed) arguments →
      find (λ a. is_same_name a.pin.text pin) arguments ≡ o → FitsTime (given es o)
  argument_fits arguments pin None w found = tt
  argument_fits arguments pin (Some a) w found =
      let r = found_at (λ a. is_same_name a.pin.text pin) arguments a found in
      value_fits a.value (one_of_all (ArgumentWhole IsNamed) arguments r.0 a w r.1).1

  call_fits : (st : StatementTree) (i : ℕ) (args : List Actual) → StatementWhole IsNamed st → action es st ≡ calls i args → All FitsTime args
  call_fits (Assign t v) i args w is = cc
  call_fits (Call n arguments) i args w is =
      let inputs = (block (kind_of (sort_or (sort_of es n)))).inputs in
      let are : actuals es (kind_of (sort_or (sort_of es n))) arguments ≡ args = cc in
      subst (All FitsTime) are
      (all_at FitsTime (actuals es (kind_of (sort_or (sort_of es n))) arguments) (λ k x at.
      let m = in_map (λ (p : Pin). actual_at es arguments p.name) inputs k x at in
      subst FitsTime m.2 (argument_fits arguments m.0.name (find (λ a. is_same_name a.pin.text m.0.name) arguments) w.1 refl)))

  pub times_fit : (name : List ℕ) (ss : List StatementTree) → AllByRecursion (StatementWhole IsNamed) ss →
      (k i : ℕ) (args : List Actual) → slice_get (network_of name es ss).steps k ≡ Some (calls i args) → All FitsTime args
  times_fit name ss whole k i args at =
      let r = in_map (action es) ss k (calls i args) at in
      call_fits r.0 i args (one_of_all (StatementWhole IsNamed) ss k r.0 whole r.1) r.2
