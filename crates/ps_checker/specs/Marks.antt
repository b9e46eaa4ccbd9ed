-- The marks of nodes of which a line speaks.
use Rattle.std.specs.Prelude.{Bool, false, List, slice_index_or}
use Rattle.ps_model.specs.Obligations.{Obligation}

-- the obligation's node is marked
abbrev pub is_marked : List Bool → Obligation → Bool
is_marked marks o = slice_index_or marks o.node false
