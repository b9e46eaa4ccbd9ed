use Rattle.std.proofs.Common.{◌≡◌, map, take, []}
use Rattle.ps_names.specs.NameTables.{Indexes}
use Rattle.ps_derived.specs.Spelling.{spelt_as_declared}
use Rattle.ps_derived.specs.Flat.{blocks_flat}
use Rattle.ps_derived.specs.Limits.{size_of}
use Rattle.ps_derived.proofs.sizes.is_within_limits.Given as goal

abbrev pub invariant-loop-source : goal.invariant-loop-source
invariant-loop-source l = record {
  table : Indexes (λ s. s.name) l.table l.sizes.items;
  sizes : l.sizes.items ≡ map size_of (blocks_flat [] (map spelt_as_declared (take l.source-index l.source-items)));
}
