-- The names that arguments and statements read.
use Rattle.std.proofs.Common.{◌≡◌, List, [], ◌∷◌, ◌++◌, map, refl, ap, sym, ◌∙◌}
use Rattle.std.specs.List.{flat_map}
use Rattle.std.proofs.lemmas.Grind.{flat_map-append}
use Rattle.ps_parser.specs.declared.name.Name.{Name}
use Rattle.ps_parser.specs.declared.statement.Argument.{Argument}
use Rattle.ps_parser.specs.Tree as tree
use Rattle.ps_parser.specs.Tree.{ProductTree, no_factor, factor, SumTree, no_product, product}
use Rattle.ps_parser.specs.ArgumentView.{argument_tree}
use Rattle.ps_names.specs.Uses.{read, sum_uses, value_uses, argument_uses}

-- a literal alone reads nothing
pub value_reads : (s : SumTree) → flat_map read (value_uses s) ≡ flat_map read (sum_uses s)
value_reads no_product = refl
value_reads (product (factor (tree.Literal b p) no_factor) no_product) = refl
value_reads (product (factor (tree.Time t p) no_factor) no_product) = refl
value_reads s = refl

-- of an argument its value alone is read
pub arguments_read : (n : Name) (xs : List Argument) → flat_map (λ a. flat_map read (sum_uses (argument_tree a).value)) xs ≡ flat_map read (flat_map (argument_uses n) (map argument_tree xs))
arguments_read n [] = refl
arguments_read n (a ∷ xs) =
    ap (λ l. l ++ flat_map (λ a. flat_map read (sum_uses (argument_tree a).value)) xs) (sym (value_reads (argument_tree a).value))
    ∙ ap (λ l. flat_map read (value_uses (argument_tree a).value) ++ l) (arguments_read n xs)
    ∙ sym (flat_map-append read (argument_uses n (argument_tree a)) (flat_map (argument_uses n) (map argument_tree xs)))
