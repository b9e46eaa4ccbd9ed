use Rattle.std.proofs.Common.{◌≡◌, ◌<◌, ◌+◌, ◌++◌, ◌∷◌, suc, length, map, drop}
use Rattle.ps_model.specs.Exprs.{formula, operands}
use Rattle.ps_model.specs.Nodes.{nodes_below}
use Rattle.ps_model.specs.NodeList.{shape_of, listed_at, listed_below}
use Rattle.ps_model.proofs.node.+write_nodes.Given as goal

abbrev pub decreases-write_nodes : goal.decreases-write_nodes
decreases-write_nodes l = goal.size-write_nodes l

-- the root is listed, and so are the operands before this one; the root's size is still to come
abbrev pub invariant-loop-x : goal.invariant-loop-x
invariant-loop-x l = record {
  whole : listed_at l.fn.depth (formula l.fn.e)
      ≡ record { shape = shape_of (formula l.fn.e); size = suc (length (nodes_below (operands (map formula l.x-items)))); depth = l.fn.depth }
      ∷ listed_below (l.fn.depth + 1) (operands (map formula l.x-items));
  at : l.at ≡ length l.fn.list.items;
  deep : l.fn.depth < length l.list.items;
  written : l.list.items ++ listed_below (l.fn.depth + 1) (operands (map formula (drop l.x-index l.x-items)))
      ≡ l.fn.list.items ++ record { shape = shape_of (formula l.fn.e); size = 1; depth = l.fn.depth } ∷ listed_below (l.fn.depth + 1) (operands (map formula l.x-items));
}
