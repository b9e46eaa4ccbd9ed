use Rattle.std.proofs.Common.{◌≡◌, ◌+◌, ◌-◌}
use Rattle.std.specs.List.{list_any, range_with_len}
use Rattle.ps_model.specs.Blocks.{output_count}
use Rattle.ps_model.specs.Network.{first_pin, kind_at}
use Rattle.ps_notes.specs.Notes.{has_reader}
use Rattle.ps_notes.proofs.noting.of_instance.Given as goal

-- the outputs that are left decide
abbrev pub invariant-loop-j : goal.invariant-loop-j
invariant-loop-j l =
    list_any (has_reader l.app) (range_with_len (first_pin l.app l.instance) (output_count (kind_at l.app l.instance)))
    ≡ list_any (has_reader l.app) (range_with_len (first_pin l.app l.instance + l.j) (output_count (kind_at l.app l.instance) - l.j))
