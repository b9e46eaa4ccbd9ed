use Rattle.std.proofs.Common.{◌≡◌, ◌++◌, ◌-◌, false, drop}
use Rattle.std.specs.List.{flat_map, range_with_len}
use Rattle.ps_model.specs.Network.{signal_count}
use Rattle.ps_notes.specs.Notes.{listed, of_steps, of_signal, notes}
use Rattle.ps_notes.proofs.noting.notes.Given as goal

-- what is listed, and what is noted of the steps that are left
abbrev pub invariant-loop-k : goal.invariant-loop-k
invariant-loop-k l = l.list.items ++ of_steps l.app l.asked (drop l.k l.app.steps) ≡ of_steps l.app false l.app.steps

-- what is listed, and what is noted of the signals that are left
abbrev pub invariant-loop-s : goal.invariant-loop-s
invariant-loop-s l =
    l.list.items ++ flat_map (λ s. listed (of_signal l.app s)) (range_with_len l.s (signal_count l.app - l.s)) ≡ notes l.app
