-- How names are found by their numbers.
use Rattle.std.proofs.Common.{◌≡◌, ◌<◌, ℕ, List, [], Some, length, get_or, slice_get, arith}
use Rattle.std.proofs.lemmas.Grind.{common_steps}
use Rattle.std.proofs.lemmas.List.{get_or-map, length-map}
use Rattle.std.proofs.lemmas.Option.{get_or_from_slice_get}
use Rattle.ps_model.specs.Network.{Network, declared_count, declared_signals, signal_name, no_signal, instance_count, instance_name, no_instance}
use Rattle.ps_bench_names.specs.Names.{signal_names, instance_names}

-- how many declared names there are
pub signal_names-length : (net : Network) → length (signal_names net) ≡ declared_count net
signal_names-length net =
    let mapped = length-map (declared_signals net) (λ s. s.name) in
    grind (arith, common_steps)

-- the name of a declared signal
pub signal_name_at : (net : Network) (s : ℕ) → s < declared_count net → get_or (signal_names net) s [] ≡ signal_name net s
signal_name_at net s within =
    let mapped = length-map (declared_signals net) (λ s. s.name) in
    get_or-map (λ s. s.name) (declared_signals net) s no_signal [] (omega (arith, mapped, signal_names-length net))

pub instance_names-length : (net : Network) → length (instance_names net) ≡ instance_count net
instance_names-length net = length-map net.instances (λ i. i.name)

-- the name of an instance
pub instance_name_at : (net : Network) (i : ℕ) → i < instance_count net → get_or (instance_names net) i [] ≡ instance_name net i
instance_name_at net i within = get_or-map (λ i. i.name) net.instances i no_instance [] within

-- the name that stands at a place
pub got_at : (names : List (List ℕ)) (j : ℕ) (name : List ℕ) → slice_get names j ≡ Some name → get_or names j [] ≡ name
got_at names j name is = get_or_from_slice_get names j name [] is
