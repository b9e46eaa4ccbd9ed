use Rattle.std.proofs.Common.{ℕ, ◌+◌, ◌<◌, Contains}
use Rattle.ps_model.specs.Network.{first_pin}
use Rattle.ps_why.specs.Telling.{Adds}
use Rattle.ps_why.specs.Questions.{IsSafeValue, value_of}
use Rattle.ps_why.proofs.questions.tell_outputs.Given as goal

-- the outputs so far are told
abbrev pub invariant-loop-j : goal.invariant-loop-j
invariant-loop-j l = record {
  told : (j : ℕ) → j < l.j → Contains l.facts.items (value_of l.scene (first_pin l.app l.i + j));
  adds : Adds (IsSafeValue l.app l.scene l.i) l.fn.facts.items l.facts.items;
}
