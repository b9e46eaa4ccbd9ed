use Rattle.std.proofs.Common.{◌≡◌, ◌+◌, ◌≤◌, ◌++◌, length, take, drop}
use Rattle.ps_demand.proofs.table.write_over.Given as goal

-- what is written, and what is left to write, make the whole
abbrev pub invariant-loop-value : goal.invariant-loop-value
invariant-loop-value g l = record {
  room : l.at + length l.value-iterator.rest.items ≤ length l.rows.items;
  whole : take l.at l.rows.items ++ (l.value-iterator.rest.items ++ drop (l.at + length l.value-iterator.rest.items) l.rows.items)
      ≡ take l.fn.first l.fn.rows.items ++ (l.fn.values.items ++ drop (l.fn.first + length l.fn.values.items) l.fn.rows.items);
}
