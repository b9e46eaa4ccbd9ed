-- How deep the values of a step are nested.
use Rattle.std.proofs.Common.{◌≡◌, ℕ, ◌≤◌, List, [], ◌∷◌, Some, arith}
use Rattle.std.specs.Prelude.{slice_get}
use Rattle.std.specs.List.{flat_map}
use Rattle.std.proofs.lemmas.List.Elements.{All-head}
use Rattle.ps_model.specs.Formula.{Formula}
use Rattle.ps_model.specs.Action.{Actual, free, literal, time, wired}
use Rattle.ps_model.specs.Values.{depth, values_at_pin}
use Rattle.ps_machine.proofs.Parts.{all_part}
use Rattle.ps_eqgen.specs.Written.{depth_at_pin, AreShallow}

-- the values of one element are some of those of all
pub shallow_part : {X : Type 0} (f : X → List Formula) (xs : List X) → AreShallow (flat_map f xs) → (k : ℕ) (x : X) → slice_get xs k ≡ Some x → AreShallow (f x)
shallow_part f xs = all_part (λ e. depth e ≤ 34) f xs

pub shallow_value : (e : Formula) → AreShallow (e ∷ []) → depth e ≤ 34
shallow_value e h = All-head (λ x. depth x ≤ 34) e [] h

shallow_pin : (a : Actual) → AreShallow (values_at_pin a) → depth_at_pin a ≤ 34
shallow_pin free h = omega arith
shallow_pin (literal b) h = omega arith
shallow_pin (time t) h = omega arith
shallow_pin (wired e) h = shallow_value e h

-- what stands at a pin of a call
pub shallow_at : (args : List Actual) → AreShallow (flat_map values_at_pin args) → (j : ℕ) (a : Actual) → slice_get args j ≡ Some a → depth_at_pin a ≤ 34
shallow_at args h j a at = shallow_pin a (shallow_part values_at_pin args h j a at)
