use Rattle.std.proofs.Common.{◌≡◌, ◌<◌, ◌≤◌, ◌-◌, ◌++◌, IsTrue, length, slice_index, take}
use Rattle.ps_top.specs.Calls.{Writes}
use Rattle.ps_top.proofs.saying.say_lines.Given as goal

abbrev pub invariant-lines : goal.invariant-lines
invariant-lines g l = record {
  within : l.done ≤ length l.text;
  begins : 0 < l.done → l.done < length l.text → slice_index l.text (l.done - 1) ≡ 10;
  written : IsTrue (g.C.Call.seen l.initial.call).out.tells → (g.C.Call.seen l.call).out.taken ≡ (g.C.Call.seen l.initial.call).out.taken ++ take l.done l.text;
  writes : Writes ⊥ (g.C.Call.seen l.initial.call) (g.C.Call.seen l.call);
  left : (g.C.Call.seen l.call).left ≡ (g.C.Call.seen l.initial.call).left;
}

abbrev pub decreases-lines : goal.decreases-lines
decreases-lines g l = length l.text - l.done
