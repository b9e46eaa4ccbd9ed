use Rattle.std.proofs.Common.{◌≡◌, ◌++◌, drop}
use Rattle.ps_notes.specs.Notes.{of_pins}
use Rattle.ps_notes.proofs.noting.add_of_pins.Given as goal

-- what is listed, and what is noted of the pins that are left
abbrev pub invariant-loop-j : goal.invariant-loop-j
invariant-loop-j l = l.list.items ++ of_pins l.kind l.instance l.j l.asked (drop l.j l.args) ≡ l.initial.list.items ++ of_pins l.kind l.instance 0 l.asked l.args
