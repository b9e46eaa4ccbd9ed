-- What the wires of a run are about, and what they have in a scan.
use Rattle.std.specs.Prelude.{ℕ, ◌==◌, not, List, [], ◌∷◌, Option, Some, None, nat_lt, if◌then◌else◌}
use Rattle.std.specs.List.{flat_map}
use Rattle.ps_bench_names.specs.declared.name.Name.{Name}
use Rattle.ps_bench_names.specs.declared.name.Name.TheVariants as names
use Rattle.ps_bench_judge.specs.Moments.{Moment, is_stopped}
use Rattle.ps_bench_judge.specs.Named.{value_in}
use Rattle.ps_model.specs.Network.{Network, instance_count, kind_at}
use Rattle.ps_ways.specs.States.{state_words}
use Rattle.ps_bench_waves.specs.Values.{Held, shortened}
use Rattle.ps_bench_waves.specs.Values.Held.{bit, vector, words}
use Rattle.ps_bench_waves.specs.declared.count.Count.{Count}
use Rattle.ps_bench_waves.specs.declared.parts.Part.{Part}
use Rattle.ps_bench_waves.specs.declared.parts.Part.TheVariants.{Restart, Trip, Scan, Bit, Code, State}

-- what the wires of a name are about: of an instance its DiagCode and its state, of others the value
abbrev pub parts_of_name : Name → List Part
parts_of_name (names.Signal s) = Bit (names.Signal s) ∷ []
parts_of_name (names.Code i) = Code i ∷ State i ∷ []
parts_of_name (names.Pin i j) = Bit (names.Pin i j) ∷ []

-- what the wires of a run are about: the scan, and then the names that are watched
abbrev pub parts_of : List Name → List Part
parts_of names = Restart ∷ Trip ∷ Scan ∷ flat_map parts_of_name names

-- the words of a state, where there are some
abbrev pub text_of : Option (List ℕ) → List ℕ
text_of (Some told) = told
text_of None = []

-- what a state of an instance is called, by its DiagCode
abbrev pub state_text : Network → (instance code : ℕ) → List ℕ
state_text net i code = if nat_lt i (instance_count net) then text_of (state_words (kind_at net i) code) else []

-- What a wire has in a scan: whether it is the first after a restart, whether it tripped or is down, and its number;
-- the value of a name, a DiagCode, or what a state is called.
abbrev pub part_held : Network → Count → Moment → Part → Held
part_held net count m Restart = bit count.is_restarted
part_held net count m Trip = bit (is_stopped m.verdict)
part_held net count m Scan = vector 64 count.number
part_held net count m (Bit name) = bit (not (value_in net m name == 0))
part_held net count m (Code i) = vector 16 (value_in net m (names.Code i))
part_held net count m (State i) = words (shortened (state_text net i (value_in net m (names.Code i))))
